-- Standpoints and their words.
use Rattle.std.proofs.Common.{◌≡◌, ℕ, zero, suc, ◌+◌, ◌≤◌, ◌<◌, ◌%◌, ◌⊎◌, take, drop, get_or, append_assoc, inl, inr, Bool, true, false, if◌then◌else◌, ◌==◌, Some, None, List, [], ◌∷◌, ◌++◌, length, refl, sym, ap, ◌∙◌, subst, arith}
use Rattle.std.specs.Prelude.{option_map}
use Rattle.std.specs.List.{Contains, slice_get}
use Rattle.std.proofs.lemmas.Grind.{flat_map-append}
use Rattle.std.proofs.lemmas.List.{map_push, take_more, drop_more}
use Rattle.std.proofs.lemmas.Option.{slice_get_within, get_or_from_slice_get}
use Rattle.mine_model.specs.Names.{AreDistinct}
use Rattle.mine_model.proofs.ListLemmas.{Contains-first, Contains-other}
use Rattle.mine_model.proofs.ElementLemmas.{get_snoc, get-from}
use Rattle.place_walk.specs.declared.stand.Stand.{Stand}
use Rattle.place_walk.specs.Groups.{IsMarked}
use Rattle.candidate_graph.specs.Graphs.{Standpoint}
use Rattle.candidate_graph.specs.Words.{words_of, key_of, stands_from, point_of, IsKey, points_in}

abbrev pub AreSmall : List Stand → Type 0
AreSmall stands = (stand : Stand) → Contains stands stand → stand.state < 65536

not-true : (b : Bool) → (b ≡ true → ⊥) → b ≡ false
not-true true none = absurd (none refl)
not-true false none = refl

flag : (b : Bool) → ((if b then 1 else 0) == 1) ≡ b
flag true = refl
flag false = refl

plain-back : (stands : List Stand) → ((k : ℕ) (stand : Stand) → slice_get stands k ≡ Some stand → stand.first ≡ false) → AreSmall stands
    → stands_from false (words_of stands) ≡ stands
plain-back [] plain small = refl
plain-back (stand ∷ stands) plain small =
    let low : stand.state < 65536 = small stand (Contains-first stand stands) in
    let state : stand.state % 65536 ≡ stand.state = omega (arith, low) in
    let first : false ≡ stand.first = sym (plain 0 stand refl) in
    let rest : stands_from false (words_of stands) ≡ stands =
    plain-back stands (λ k other at. plain (suc k) other at) (λ other held. small other (Contains-other stand stands other held)) in
    λ i. (let one : Stand = record { place = stand.place; state = state i; first = first i } in one ∷ rest i)

pub stands-back : (stands : List Stand) → IsMarked stands → AreSmall stands → stands_from true (words_of stands) ≡ stands
stands-back [] marked small = refl
stands-back (stand ∷ stands) marked small =
    let low : stand.state < 65536 = small stand (Contains-first stand stands) in
    let state : stand.state % 65536 ≡ stand.state = omega (arith, low) in
    let first : true ≡ stand.first = sym ((marked 0 stand refl).1 refl) in
    let rest : stands_from false (words_of stands) ≡ stands =
    plain-back stands (λ k other at. not-true other.first (λ is. let no' : suc k ≡ 0 = (marked (suc k) other at).0 is in absurd (omega (arith, no'))))
    (λ other held. small other (Contains-other stand stands other held)) in
    λ i. (let one : Stand = record { place = stand.place; state = state i; first = first i } in one ∷ rest i)

module _ (seen : Bool) (stands : List Stand) (marked : IsMarked stands) (small : AreSmall stands) where
  abbrev at' : Standpoint
  at' = record { seen = seen; stands = stands }

  -- words tell their standpoint
  pub point-back : point_of (key_of at') ≡ at'
  point-back = λ i. record { seen = flag seen i; stands = stands-back stands marked small i }

  pub is-key : IsKey (key_of at')
  is-key = ap key_of (sym point-back)

-- different lists of words are different standpoints
pub points-distinct : (lists : List (List ℕ)) → AreDistinct lists → ((number : ℕ) (words : List ℕ) → slice_get lists number ≡ Some words → IsKey words)
    → (one other : ℕ) (at : Standpoint) → slice_get (points_in lists) one ≡ Some at → slice_get (points_in lists) other ≡ Some at → one ≡ other
points-distinct lists distinct keys one other at first second =
    let (words, there, is) = get-from point_of lists one at first in
    let (words', there', is') = get-from point_of lists other at second in
    let same : words ≡ words' = keys one words there ∙ ap key_of (sym is ∙ is') ∙ sym (keys other words' there') in
    distinct one other (slice_get_within lists one words there) (slice_get_within lists other words' there')
    (get_or_from_slice_get lists one words [] there ∙ same ∙ sym (get_or_from_slice_get lists other words' [] there'))

-- ---- word by word

-- the words of one stand more
pub words-more : (flag : ℕ) (stands : List Stand) (k : ℕ) (stand : Stand) → k < length stands → get_or stands k stand ≡ stand
    → ((flag ∷ words_of (take k stands)) ++ stand.place ∷ []) ++ stand.state ∷ [] ≡ flag ∷ words_of (take (k + 1) stands)
words-more flag stands k stand inside is =
    let more : take (k + 1) stands ≡ take k stands ++ stand ∷ [] = take_more stands k stand inside ∙ ap (λ (s : Stand). take k stands ++ s ∷ []) is in
    let f : Stand → List ℕ = λ s. s.place ∷ s.state ∷ [] in
    let split : words_of (take (k + 1) stands) ≡ words_of (take k stands) ++ (stand.place ∷ stand.state ∷ []) =
    ap words_of more ∙ flat_map-append f (take k stands) (stand ∷ []) in
    ap (λ (l : List ℕ). flag ∷ l) (append_assoc (words_of (take k stands)) (stand.place ∷ []) (stand.state ∷ []) ∙ sym split)

pub read-start : (words : List ℕ) → stands_from true (drop 1 words) ≡ (point_of words).stands
read-start [] = refl
read-start (flag ∷ words) = refl

past-one : (at : ℕ) → 1 ≤ at → ((at + 2) == 1) ≡ false
past-one zero some = absurd (omega (arith, some))
past-one (suc at) some = grind arith

module _ (words : List ℕ) (at : ℕ) (begun : 1 ≤ at) (stands : List Stand) where
  -- two words are a stand
  pub read-more : (place state : ℕ) (first : Bool) → at + 1 < length words → place ≡ get_or words at 0 → state ≡ get_or words (at + 1) 0 % 65536 → first ≡ (at == 1)
      → (stands ++ record { place = place; state = state; first = first } ∷ []) ++ stands_from ((at + 2) == 1) (drop (at + 2) words)
      ≡ stands ++ stands_from (at == 1) (drop at words)
  read-more place state first inside place_is state_is first_is =
      let one : drop at words ≡ get_or words at 0 ∷ drop (at + 1) words = drop_more words at 0 (omega (arith, inside)) in
      let two : drop (at + 1) words ≡ get_or words (at + 1) 0 ∷ drop (at + 1 + 1) words = drop_more words (at + 1) 0 inside in
      let next : at + 1 + 1 ≡ at + 2 = omega arith in
      let cut : drop at words ≡ get_or words at 0 ∷ get_or words (at + 1) 0 ∷ drop (at + 2) words =
      one ∙ ap (λ (l : List ℕ). get_or words at 0 ∷ l) (two ∙ ap (λ (n : ℕ). get_or words (at + 1) 0 ∷ drop n words) next) in
      let left : List Stand = stands_from false (drop (at + 2) words) in
      let here : Stand = record { place = place; state = state; first = first } in
      let there : Stand = record { place = get_or words at 0; state = get_or words (at + 1) 0 % 65536; first = at == 1 } in
      let same : here ≡ there = λ i. record { place = place_is i; state = state_is i; first = first_is i } in
      append_assoc stands (here ∷ []) (stands_from ((at + 2) == 1) (drop (at + 2) words))
      ∙ ap (λ (b : Bool). stands ++ here ∷ stands_from b (drop (at + 2) words)) (past-one at begun)
      ∙ ap (λ (s : Stand). stands ++ s ∷ left) same
      ∙ ap (λ (l : List ℕ). stands ++ stands_from (at == 1) l) (sym cut)

  -- nothing is left
  pub read-end : length words ≤ at + 1 → stands_from (at == 1) (drop at words) ≡ []
  read-end most = by (drop at words) (drop-most words at most)
    where
      by : (left : List ℕ) → length left ≤ 1 → stands_from (at == 1) left ≡ []
      by [] short = refl
      by (word ∷ []) short = refl
      by (word ∷ next ∷ left) short = absurd (omega (arith, short))

      drop-most : (words : List ℕ) (at : ℕ) → length words ≤ at + 1 → length (drop at words) ≤ 1
      drop-most words zero short = omega (arith, short)
      drop-most [] (suc at) short = omega arith
      drop-most (word ∷ words) (suc at) short = drop-most words at (omega (arith, short))

-- ---- a standpoint more

-- the words of the new one are its words, too
pub keys-more : (lists now : List (List ℕ)) (words : List ℕ) → IsKey words → (now ≡ lists) ⊎ (now ≡ lists ++ words ∷ [])
    → ((number : ℕ) (list : List ℕ) → slice_get lists number ≡ Some list → IsKey list)
    → (number : ℕ) (list : List ℕ) → slice_get now number ≡ Some list → IsKey list
keys-more lists now words is grown keys number list at = elim grown [
  | inl same ↦ keys number list (subst (λ (l : List (List ℕ)). slice_get l number ≡ Some list) same at)
  | inr more ↦ elim (get_snoc lists words number list (subst (λ (l : List (List ℕ)). slice_get l number ≡ Some list) more at)) [
    | inl old ↦ keys number list old
    | inr (last, here) ↦ subst IsKey here is
  ]
]

pub points-more : (lists now : List (List ℕ)) (words : List ℕ) (at : Standpoint) → point_of words ≡ at → (now ≡ lists) ⊎ (now ≡ lists ++ words ∷ [])
    → (points_in now ≡ points_in lists) ⊎ (points_in now ≡ points_in lists ++ at ∷ [])
points-more lists now words at is grown = elim grown [
  | inl same ↦ inl (ap points_in same)
  | inr more ↦ inr (ap points_in more ∙ map_push point_of lists words ∙ ap (λ (a : Standpoint). points_in lists ++ a ∷ []) is)
]

-- ---- the first stand

-- it takes the second word and the third
pub first-none : (words : List ℕ) → length words < 3 → None ≡ option_map (λ (stand : Stand). stand.place) (slice_get (point_of words).stands 0)
first-none [] few = refl
first-none (flag ∷ []) few = refl
first-none (flag ∷ place ∷ []) few = refl
first-none (flag ∷ place ∷ state ∷ words) few = absurd (omega (arith, few))

pub first-some : (words : List ℕ) → 3 ≤ length words → Some (get_or words 1 0) ≡ option_map (λ (stand : Stand). stand.place) (slice_get (point_of words).stands 0)
first-some [] many = absurd (omega (arith, many))
first-some (flag ∷ []) many = absurd (omega (arith, many))
first-some (flag ∷ place ∷ []) many = absurd (omega (arith, many))
first-some (flag ∷ place ∷ state ∷ words) many = refl
