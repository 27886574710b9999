-- Lemmas on the lines of bytes and the fields of a line.
use Rattle.std.proofs.Common.{◌≡◌, ◌≢◌, ℕ, suc, ◌+◌, ◌-◌, ◌≤◌, ◌<◌, ◌==◌, ◌&&◌, ◌||◌, ◌⊎◌, inl, inr, Bool, true, false, not, if◌then◌else◌, cond, nat_lt, List, [], ◌∷◌, ◌++◌, map, length, take, drop, refl, sym, ap, ◌∙◌, subst, arith, append_assoc, length-append, true≢false}
use Rattle.std.specs.List.{AllByRecursion, Contains, All, take_while, slice_range}
use Rattle.std.proofs.lemmas.List.{append-nil}
use Rattle.std.proofs.lemmas.Bool.Decides.{nat_tests}
use borrow.Author.Tests.{eqb-true}
use Rattle.mine_model.specs.Bytes.{line_feed, carriage_return, delete}
use Rattle.mine_model.specs.Text.{is_blank, is_bad_byte, is_name_byte, onto_first, pieces_by_feed, without_return, pieces_by_blank, Field, fields_from, placed_fields_of, TextFault, bad_byte, long_name, HasTextFault, IsFirstTextFault, IsSoundLine}
use Rattle.mine_model.specs.Tokens.{BeginsOtherwise}
use Rattle.mine_model.proofs.ListLemmas.{Contains-cases, Contains-first, Contains-other, Contains-none, AllByRecursion-contained, of_both}
use Rattle.text_ports.specs.Scanning.{lines_behind, IsLineByte, EndsLine, BeginsBadly, BeginsFaulty}

-- Bytes

pub name_is_line : (b : ℕ) → is_name_byte b ≡ true → IsLineByte b
name_is_line b is = record { good = grind (arith, nat_tests); inner = grind (arith, nat_tests) }

pub blank_is_line : (b : ℕ) → is_blank b ≡ true → IsLineByte b
blank_is_line b is = record { good = grind (arith, nat_tests); inner = grind (arith, nat_tests) }

pub blank_is_no_name : (b : ℕ) → is_blank b ≡ true → is_name_byte b ≡ false
blank_is_no_name b is = grind (arith, nat_tests)

pub bad_is_no_name : (b : ℕ) → is_bad_byte b ≡ true → is_name_byte b ≡ false
bad_is_no_name b is = grind (arith, nat_tests)

bad_is_no_feed : (b : ℕ) → is_bad_byte b ≡ true → (b == line_feed) ≡ false
bad_is_no_feed b is = grind (arith, nat_tests)

-- Lines

-- bytes before the first of the pieces
before_first : List ℕ → List (List ℕ) → List (List ℕ)
before_first [] pieces = pieces
before_first (b ∷ bytes) pieces = onto_first b (before_first bytes pieces)

-- bytes of a line go before the first line that follows
pieces_by_feed-append : (bytes rest : List ℕ) → AllByRecursion IsLineByte bytes → pieces_by_feed (bytes ++ rest) ≡ before_first bytes (pieces_by_feed rest)
unfolding before_first
pieces_by_feed-append [] rest clean = refl
pieces_by_feed-append (b ∷ bytes) rest clean = rw clean.0.inner (ap (onto_first b) (pieces_by_feed-append bytes rest clean.1))

before_first-some : (bytes piece : List ℕ) (pieces : List (List ℕ)) → before_first bytes (piece ∷ pieces) ≡ (bytes ++ piece) ∷ pieces
unfolding before_first
before_first-some [] piece pieces = refl
before_first-some (b ∷ bytes) piece pieces = ap (onto_first b) (before_first-some bytes piece pieces)

before_first-none : (b : ℕ) (bytes : List ℕ) → before_first (b ∷ bytes) [] ≡ (b ∷ bytes) ∷ []
unfolding before_first
before_first-none b [] = refl
before_first-none b (c ∷ bytes) = ap (onto_first b) (before_first-none c bytes)

-- a return at the end is dropped from what stands behind
without_return-append : (bytes : List ℕ) (b : ℕ) (rest : List ℕ) → without_return (bytes ++ b ∷ rest) ≡ bytes ++ without_return (b ∷ rest)
without_return-append [] b rest = refl
without_return-append (c ∷ []) b rest = refl
without_return-append (c ∷ d ∷ bytes) b rest = ap (λ w. c ∷ w) (without_return-append (d ∷ bytes) b rest)

-- a return is a bad byte
return_is_bad : (b : ℕ) → is_bad_byte b ≡ false → (b == carriage_return) ≡ false
return_is_bad b good = grind (arith, nat_tests)

without_return-clean : (bytes : List ℕ) → AllByRecursion IsLineByte bytes → without_return bytes ≡ bytes
without_return-clean [] clean = refl
without_return-clean (b ∷ []) clean = rw (return_is_bad b clean.0.good) refl
without_return-clean (b ∷ c ∷ bytes) clean = ap (λ w. b ∷ w) (without_return-clean (c ∷ bytes) clean.1)

-- where a line ends, the others are those of what is behind its end
pub lines_behind-end : (text rest behind : List ℕ) → AllByRecursion IsLineByte text → EndsLine rest behind → 0 < length (text ++ rest)
    → lines_behind (text ++ rest) ≡ text ∷ lines_behind behind
lines_behind-end [] rest behind clean (inl none) some = absurd (let none_left = ap length none.0 in omega (arith, none_left))
lines_behind-end (b ∷ text) rest behind clean (inl none) some =
    rw (none.0, none.1) (ap (map without_return) (pieces_by_feed-append (b ∷ text) [] clean ∙ before_first-none b text) ∙ ap (λ w. w ∷ []) (without_return-clean (b ∷ text) clean))
lines_behind-end text rest behind clean (inr (inl feed)) some =
    rw feed (ap (map without_return) (pieces_by_feed-append text (line_feed ∷ behind) clean ∙ before_first-some text [] (pieces_by_feed behind))
    ∙ ap (λ w. w ∷ lines_behind behind) (ap without_return (append-nil text) ∙ without_return-clean text clean))
lines_behind-end text rest behind clean (inr (inr (inl both))) some =
    rw both (ap (map without_return) (pieces_by_feed-append text (carriage_return ∷ line_feed ∷ behind) clean ∙ before_first-some text (carriage_return ∷ []) (pieces_by_feed behind))
    ∙ ap (λ w. w ∷ lines_behind behind) (without_return-append text carriage_return [] ∙ append-nil text))
lines_behind-end text rest behind clean (inr (inr (inr last))) some =
    rw (last.0, last.1) (ap (map without_return) (pieces_by_feed-append text (carriage_return ∷ []) clean ∙ before_first-some text (carriage_return ∷ []) [])
    ∙ ap (λ w. w ∷ []) (without_return-append text carriage_return [] ∙ append-nil text))

-- the first piece of bytes, with where it ends
first_piece : (rest : List ℕ) → ((pieces_by_feed rest ≡ []) × (rest ≡ []))
    ⊎ ((others : List ℕ) × (rest ≡ line_feed ∷ others) × (pieces_by_feed rest ≡ [] ∷ pieces_by_feed others))
    ⊎ ((b : ℕ) × (others : List ℕ) × (piece : List ℕ) × (pieces : List (List ℕ)) × (rest ≡ b ∷ others) × ((b == line_feed) ≡ false) × (pieces_by_feed rest ≡ (b ∷ piece) ∷ pieces))
first_piece [] = inl (refl, refl)
first_piece (b ∷ rest) = by (b == line_feed) refl
  where
    onto : (pieces : List (List ℕ)) → (piece : List ℕ) × (others : List (List ℕ)) × (onto_first b pieces ≡ (b ∷ piece) ∷ others)
    onto [] = ([], [], refl)
    onto (piece ∷ pieces) = (piece, pieces, refl)

    by : (t : Bool) → (b == line_feed) ≡ t → ((pieces_by_feed (b ∷ rest) ≡ []) × (b ∷ rest ≡ []))
        ⊎ ((others : List ℕ) × (b ∷ rest ≡ line_feed ∷ others) × (pieces_by_feed (b ∷ rest) ≡ [] ∷ pieces_by_feed others))
        ⊎ ((c : ℕ) × (others : List ℕ) × (piece : List ℕ) × (pieces : List (List ℕ)) × (b ∷ rest ≡ c ∷ others) × ((c == line_feed) ≡ false) × (pieces_by_feed (b ∷ rest) ≡ (c ∷ piece) ∷ pieces))
    by true e = inr (inl (rest, ap (λ (n : ℕ). n ∷ rest) (eqb-true b line_feed e), rw e refl))
    by false e = let first = onto (pieces_by_feed rest) in inr (inr (b, rest, first.0, first.1, refl, e, rw e first.2))

-- what stands first stays first, if it stays
without_return-begins : (test : ℕ → Bool) (b : ℕ) (rest : List ℕ) → test b ≡ false → BeginsOtherwise test (without_return (b ∷ rest))
without_return-begins test b [] fails = by (b == carriage_return)
  where
    by : (t : Bool) → BeginsOtherwise test (if t then [] else b ∷ [])
    by true = tt
    by false = fails
without_return-begins test b (c ∷ rest) fails = fails

-- bytes behind which no name goes on begin a line
pub lines_behind-begins : (text rest : List ℕ) → AllByRecursion IsLineByte text → 0 < length text → BeginsOtherwise is_name_byte rest
    → (more : List ℕ) × (later : List (List ℕ)) × (lines_behind (text ++ rest) ≡ (text ++ more) ∷ later) × BeginsOtherwise is_name_byte more
lines_behind-begins [] rest clean some stops = absurd (omega arith)
lines_behind-begins (x ∷ text) rest clean some stops =
    let all = pieces_by_feed-append (x ∷ text) rest clean in
    let whole = without_return-clean (x ∷ text) clean in
    elim (first_piece rest) [
      | inl none ↦ ([], [], (ap (map without_return) (all ∙ ap (before_first (x ∷ text)) none.0 ∙ before_first-none x text) ∙ ap (λ w. w ∷ []) (whole ∙ sym (append-nil (x ∷ text)))), tt)
      | inr (inl feed) ↦ (
        [],
        lines_behind feed.0,
        (ap (map without_return) (all ∙ ap (before_first (x ∷ text)) feed.2 ∙ before_first-some (x ∷ text) [] (pieces_by_feed feed.0))
            ∙ ap (λ w. w ∷ lines_behind feed.0) (ap without_return (append-nil (x ∷ text)) ∙ whole ∙ sym (append-nil (x ∷ text)))),
        tt,
      )
      | inr (inr (b, others, piece, pieces, is, inner, first)) ↦
          let fails : is_name_byte b ≡ false = rw is at stops in (
            without_return (b ∷ piece),
            map without_return pieces,
            (ap (map without_return) (all ∙ ap (before_first (x ∷ text)) first ∙ before_first-some (x ∷ text) (b ∷ piece) pieces)
                ∙ ap (λ w. w ∷ map without_return pieces) (without_return-append (x ∷ text) b piece)),
            without_return-begins is_name_byte b piece fails,
          )
    ]

alone : (b : ℕ) → (b ≡ carriage_return → ⊥) → without_return (b ∷ []) ≡ b ∷ []
alone b no_return = grind (arith, nat_tests)

-- what a return does to a bad byte and the bytes of its line behind it
bad_stays : (b : ℕ) (more : List ℕ) → is_bad_byte b ≡ true
    → (b ≡ carriage_return → (c : ℕ) × (others : List ℕ) × (more ≡ c ∷ others) × (c ≢ line_feed))
    → (piece : List ℕ) × (pieces : List (List ℕ)) × (after : List ℕ)
    × (pieces_by_feed (b ∷ more) ≡ (b ∷ piece) ∷ pieces) × (without_return (b ∷ piece) ≡ b ∷ after)
bad_stays b more bad follows =
    let open_line = bad_is_no_feed b bad in
    elim (first_piece more) [
      | inl none ↦ ([], [], [], rw (open_line, none.0) refl, alone b (λ is. let (c, others, is_more, apart) = follows is in absurd (let same : c ∷ others ≡ [] = sym is_more ∙ none.1 in cc)))
      | inr (inl feed) ↦ (
        [],
        pieces_by_feed feed.0,
        [],
        rw (open_line, feed.2) refl,
        alone b (λ is. let (c, others, is_more, apart) = follows is in apart (let same : c ∷ others ≡ line_feed ∷ feed.0 = sym is_more ∙ feed.1 in cc)),
      )
      | inr (inr (c, others, piece, pieces, is, inner, first)) ↦ (c ∷ piece, pieces, without_return (c ∷ piece), rw (open_line, first) refl, refl)
    ]

pub lines_behind-bad : (text rest : List ℕ) → AllByRecursion IsLineByte text → BeginsBadly rest
    → (b : ℕ) × (after : List ℕ) × (later : List (List ℕ)) × (is_bad_byte b ≡ true) × (lines_behind (text ++ rest) ≡ (text ++ b ∷ after) ∷ later)
lines_behind-bad text rest clean (b, more, is, bad, follows) =
    let (piece, pieces, after, first, stays) = bad_stays b more bad follows in (
      b,
      after,
      map without_return pieces,
      bad,
      rw is (ap (map without_return) (pieces_by_feed-append text (b ∷ more) clean ∙ ap (before_first text) first ∙ before_first-some text (b ∷ piece) pieces)
          ∙ ap (λ w. w ∷ map without_return pieces) (without_return-append text b piece ∙ ap (λ w. text ++ w) stays)),
    )
