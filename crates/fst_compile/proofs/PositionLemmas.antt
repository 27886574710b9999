-- The words of positions that a shape accepts spell what it makes.
use Rattle.std.proofs.Common.{◌≡◌, ℕ, suc, ◌+◌, ◌<◌, ◌≤◌, ◌⊎◌, inl, inr, Bool, List, [], ◌∷◌, ◌++◌, length, refl, sym, ap, ◌∙◌, subst, arith, append_assoc}
use Rattle.std.specs.List.{AllByRecursion, flat_map}
use Rattle.std.proofs.lemmas.List.{append-nil}
use Rattle.mine_model.specs.declared.item.Item.{Item}
use Rattle.mine_model.specs.Hierarchy.{Link}
use Rattle.mine_model.specs.Expression.{Leaf}
use Rattle.mine_model.specs.Generation.{Matches, WritesAt, Turn}
use Rattle.fst_compile.specs.Shape.{Shape, one, nothing, never, both, either, maybe, more, InTurns, InOrder, Makes}
use Rattle.fst_compile.specs.Positions.{size, CanBeEmpty, First, Last, Follows, Chain, Accepts, Spells, IsLabelled}
use Rattle.fst_compile.proofs.ChainLemmas.{Chain-stay, Chain-map, Word-join, Chain-cut, Chain-turns}

-- one of the n positions from o on
abbrev pub IsIn : ℕ → ℕ → ℕ → Type 0
IsIn o n k = (o ≤ k) × (k < o + n)

pub First-in : (a : Shape) (o k : ℕ) → First a o k → IsIn o (size a) k
First-in (one l captured) o k is = (omega arith, omega arith)
First-in nothing o k is = absurd is
First-in never o k is = absurd is
First-in (both a b) o k (inl is) = let h : IsIn o (size a) k = First-in a o k is in (omega arith, omega arith)
First-in (both a b) o k (inr is) = let h : IsIn (o + size a) (size b) k = First-in b (o + size a) k is.1 in (omega arith, omega arith)
First-in (either a b) o k (inl is) = let h : IsIn o (size a) k = First-in a o k is in (omega arith, omega arith)
First-in (either a b) o k (inr is) = let h : IsIn (o + size a) (size b) k = First-in b (o + size a) k is in (omega arith, omega arith)
First-in (maybe a) o k is = First-in a o k is
First-in (more a) o k is = First-in a o k is

pub Last-in : (a : Shape) (o k : ℕ) → Last a o k → IsIn o (size a) k
Last-in (one l captured) o k is = (omega arith, omega arith)
Last-in nothing o k is = absurd is
Last-in never o k is = absurd is
Last-in (both a b) o k (inl is) = let h : IsIn (o + size a) (size b) k = Last-in b (o + size a) k is in (omega arith, omega arith)
Last-in (both a b) o k (inr is) = let h : IsIn o (size a) k = Last-in a o k is.1 in (omega arith, omega arith)
Last-in (either a b) o k (inl is) = let h : IsIn o (size a) k = Last-in a o k is in (omega arith, omega arith)
Last-in (either a b) o k (inr is) = let h : IsIn (o + size a) (size b) k = Last-in b (o + size a) k is in (omega arith, omega arith)
Last-in (maybe a) o k is = Last-in a o k is
Last-in (more a) o k is = Last-in a o k is

pub Follows-in : (a : Shape) (o j k : ℕ) → Follows a o j k → IsIn o (size a) j × IsIn o (size a) k
Follows-in (one l captured) o j k is = absurd is
Follows-in nothing o j k is = absurd is
Follows-in never o j k is = absurd is
Follows-in (both a b) o j k (inl is) =
    let h : IsIn o (size a) j × IsIn o (size a) k = Follows-in a o j k is in ((omega arith, omega arith), (omega arith, omega arith))
Follows-in (both a b) o j k (inr (inl is)) =
    let h : IsIn (o + size a) (size b) j × IsIn (o + size a) (size b) k = Follows-in b (o + size a) j k is in ((omega arith, omega arith), (omega arith, omega arith))
Follows-in (both a b) o j k (inr (inr is)) =
    let h : IsIn o (size a) j = Last-in a o j is.0 in
    let i : IsIn (o + size a) (size b) k = First-in b (o + size a) k is.1 in
    ((omega arith, omega arith), (omega arith, omega arith))
Follows-in (either a b) o j k (inl is) =
    let h : IsIn o (size a) j × IsIn o (size a) k = Follows-in a o j k is in ((omega arith, omega arith), (omega arith, omega arith))
Follows-in (either a b) o j k (inr is) =
    let h : IsIn (o + size a) (size b) j × IsIn (o + size a) (size b) k = Follows-in b (o + size a) j k is in ((omega arith, omega arith), (omega arith, omega arith))
Follows-in (maybe a) o j k is = Follows-in a o j k is
Follows-in (more a) o j k (inl is) = Follows-in a o j k is
Follows-in (more a) o j k (inr is) = (Last-in a o j is.0, First-in a o k is.1)

-- the two parts of a shape have no position in common
apart : {X : Type 0} (o m n k : ℕ) → IsIn o m k → IsIn (o + m) n k → X
apart o m n k p q = absurd (omega arith)

module _ (a b : Shape) (o : ℕ) where
  abbrev p : ℕ
  p = o + size a

  both-ends : (j : ℕ) → IsIn o (size a) j → Last (both a b) o j → CanBeEmpty b × Last a o j
  both-ends j inside (inl is) = apart o (size a) (size b) j inside (Last-in b p j is)
  both-ends j inside (inr is) = is

  both-steps : (j k : ℕ) → IsIn o (size a) j → Follows (both a b) o j k → (IsIn o (size a) k × Follows a o j k) ⊎ (Last a o j × First b p k)
  both-steps j k inside (inl is) = inl ((Follows-in a o j k is).1, is)
  both-steps j k inside (inr (inl is)) = apart o (size a) (size b) j inside (Follows-in b p j k is).0
  both-steps j k inside (inr (inr is)) = inr is

  both-later_ends : (j : ℕ) → IsIn p (size b) j → Last (both a b) o j → Last b p j
  both-later_ends j inside (inl is) = is
  both-later_ends j inside (inr is) = apart o (size a) (size b) j (Last-in a o j is.1) inside

  both-later_steps : (j k : ℕ) → IsIn p (size b) j → Follows (both a b) o j k → IsIn p (size b) k × Follows b p j k
  both-later_steps j k inside (inl is) = apart o (size a) (size b) j (Follows-in a o j k is).0 inside
  both-later_steps j k inside (inr (inl is)) = ((Follows-in b p j k is).1, is)
  both-later_steps j k inside (inr (inr is)) = apart o (size a) (size b) j (Last-in a o j is.0) inside

  both-after : (k : ℕ) (word : List ℕ) → First b p k → Chain (Last (both a b) o) (Follows (both a b) o) k word → Chain (Last b p) (Follows b p) k word
  both-after k word is chain =
      Chain-stay (IsIn p (size b)) (Last (both a b) o) (Last b p) (Follows (both a b) o) (Follows b p)
      both-later_ends both-later_steps k word (First-in b p k is) chain

  -- a word of both is one of the first and then one of the second
  pub both-cut : (word : List ℕ) → Accepts (both a b) o word
      → (word1 : List ℕ) × (word2 : List ℕ) × (word ≡ word1 ++ word2) × Accepts a o word1 × Accepts b p word2
  both-cut [] empty = ([], [], refl, empty.0, empty.1)
  both-cut (k ∷ word) (inl first, chain) =
      let (word1, word2, same, left, right) =
      Chain-cut (CanBeEmpty b) (IsIn o (size a)) (First b p) (Last a o) (Last b p) (Last (both a b) o) (Follows a o) (Follows b p) (Follows (both a b) o)
      both-ends both-steps both-after k word (First-in a o k first) chain in
      (k ∷ word1, word2, ap (λ w. k ∷ w) same, (first, left), right)
  both-cut (k ∷ word) (inr first, chain) = ([], k ∷ word, refl, first.0, (first.1, both-after k word first.1 chain))

  pub both-join : (word1 word2 : List ℕ) → Accepts a o word1 → Accepts b p word2 → Accepts (both a b) o (word1 ++ word2)
  both-join word1 word2 first second =
      Word-join (CanBeEmpty a) (CanBeEmpty b) (CanBeEmpty (both a b)) (First a o) (First b p) (First (both a b) o)
      (Last a o) (Last b p) (Last (both a b) o) (Follows a o) (Follows b p) (Follows (both a b) o)
      (λ x y. (x, y)) (λ k is. inl is) (λ k empty is. inr (empty, is)) (λ k is. inl is) (λ k empty is. inr (empty, is))
      (λ j k is. inl is) (λ j k is. inr (inl is)) (λ j k last is. inr (inr (last, is))) word1 word2 first second

  either-left_ends : (j : ℕ) → IsIn o (size a) j → Last (either a b) o j → Last a o j
  either-left_ends j inside (inl is) = is
  either-left_ends j inside (inr is) = apart o (size a) (size b) j inside (Last-in b p j is)

  either-left_steps : (j k : ℕ) → IsIn o (size a) j → Follows (either a b) o j k → IsIn o (size a) k × Follows a o j k
  either-left_steps j k inside (inl is) = ((Follows-in a o j k is).1, is)
  either-left_steps j k inside (inr is) = apart o (size a) (size b) j inside (Follows-in b p j k is).0

  either-right_ends : (j : ℕ) → IsIn p (size b) j → Last (either a b) o j → Last b p j
  either-right_ends j inside (inl is) = apart o (size a) (size b) j (Last-in a o j is) inside
  either-right_ends j inside (inr is) = is

  either-right_steps : (j k : ℕ) → IsIn p (size b) j → Follows (either a b) o j k → IsIn p (size b) k × Follows b p j k
  either-right_steps j k inside (inl is) = apart o (size a) (size b) j (Follows-in a o j k is).0 inside
  either-right_steps j k inside (inr is) = ((Follows-in b p j k is).1, is)

  pub either-cut : (word : List ℕ) → Accepts (either a b) o word → Accepts a o word ⊎ Accepts b p word
  either-cut [] (inl empty) = inl empty
  either-cut [] (inr empty) = inr empty
  either-cut (k ∷ word) (inl first, chain) =
      inl (
        first,
        Chain-stay (IsIn o (size a)) (Last (either a b) o) (Last a o) (Follows (either a b) o) (Follows a o)
            either-left_ends either-left_steps k word (First-in a o k first) chain,
      )
  either-cut (k ∷ word) (inr first, chain) =
      inr (
        first,
        Chain-stay (IsIn p (size b)) (Last (either a b) o) (Last b p) (Follows (either a b) o) (Follows b p)
            either-right_ends either-right_steps k word (First-in b p k first) chain,
      )

  pub either-left : (word : List ℕ) → Accepts a o word → Accepts (either a b) o word
  either-left [] empty = inl empty
  either-left (k ∷ word) is = (
    inl is.0,
    Chain-map (Last a o) (Last (either a b) o) (Follows a o) (Follows (either a b) o) (λ j end. inl end) (λ i j step. inl step) k word is.1,
  )

  pub either-right : (word : List ℕ) → Accepts b p word → Accepts (either a b) o word
  either-right [] empty = inr empty
  either-right (k ∷ word) is = (
    inr is.0,
    Chain-map (Last b p) (Last (either a b) o) (Follows b p) (Follows (either a b) o) (λ j end. inr end) (λ i j step. inr step) k word is.1,
  )

module _ (a : Shape) (o : ℕ) where
  pub maybe-cut : (word : List ℕ) → Accepts (maybe a) o word → (word ≡ []) ⊎ Accepts a o word
  maybe-cut [] is = inl refl
  maybe-cut (k ∷ word) is = inr is

  pub maybe-some : (word : List ℕ) → Accepts a o word → Accepts (maybe a) o word
  maybe-some [] is = tt
  maybe-some (k ∷ word) is = is

  -- a word of more is one or more words joined
  pub more-cut : (word : List ℕ) → Accepts (more a) o word
      → (first : List ℕ) × (words : List (List ℕ)) × (word ≡ first ++ flat_map (λ w. w) words)
      × Accepts a o first × AllByRecursion (λ w. Accepts a o w) words
  more-cut [] is = ([], [], refl, is, tt)
  more-cut (k ∷ word) (first, chain) =
      let (word1, words, same, here, others) =
      Chain-turns (CanBeEmpty a) (First a o) (Last a o) (Follows a o) (Follows (more a) o) (λ i j step. step) k word chain in
      (k ∷ word1, words, ap (λ w. k ∷ w) same, (first, here), others)

  pub more-one : (word : List ℕ) → Accepts a o word → Accepts (more a) o word
  more-one [] is = is
  more-one (k ∷ word) is = (
    is.0,
    Chain-map (Last a o) (Last (more a) o) (Follows a o) (Follows (more a) o) (λ j end. end) (λ i j step. inl step) k word is.1,
  )

  pub more-join : (word1 word2 : List ℕ) → Accepts a o word1 → Accepts (more a) o word2 → Accepts (more a) o (word1 ++ word2)
  more-join word1 word2 first second =
      Word-join (CanBeEmpty a) (CanBeEmpty a) (CanBeEmpty a) (First a o) (First a o) (First a o)
      (Last a o) (Last a o) (Last a o) (Follows a o) (Follows (more a) o) (Follows (more a) o)
      (λ x y. x) (λ k is. is) (λ k empty is. is) (λ k is. is) (λ k empty is. is)
      (λ j k is. inl is) (λ j k is. is) (λ j k last is. inr (last, is)) word1 word2 first second

module _ (Reads : ℕ → Item → List Item → Type 0) where
  pub Spells-join : (word1 word2 : List ℕ) (i1 i2 o1 o2 : List Item) → Spells Reads word1 i1 o1 → Spells Reads word2 i2 o2
      → Spells Reads (word1 ++ word2) (i1 ++ i2) (o1 ++ o2)
  Spells-join [] word2 i1 i2 o1 o2 first second =
      subst (λ i. Spells Reads word2 i (o1 ++ o2)) (ap (λ x. x ++ i2) (sym first.0))
      (subst (λ o. Spells Reads word2 i2 o) (ap (λ x. x ++ o2) (sym first.1)) second)
  Spells-join (k ∷ word1) word2 i1 i2 o1 o2 (t, rest, here, there, cut, joined, reads, first) second = (
    t,
    rest ++ i2,
    here,
    there ++ o2,
    ap (λ x. x ++ i2) cut,
    ap (λ x. x ++ o2) joined ∙ append_assoc here there o2,
    reads,
    Spells-join word1 word2 rest i2 there o2 first second,
  )

  pub Spells-cut : (word1 word2 : List ℕ) (input output : List Item) → Spells Reads (word1 ++ word2) input output
      → InOrder (λ i o. Spells Reads word1 i o) (λ i o. Spells Reads word2 i o) input output
  Spells-cut [] word2 input output spells = ([], input, [], output, refl, refl, (refl, refl), spells)
  Spells-cut (k ∷ word1) word2 input output (t, rest, here, there, cut, joined, reads, spells) =
      let (i1, i2, o1, o2, cut2, joined2, first, second) = Spells-cut word1 word2 rest there spells in (
        t ∷ i1,
        i2,
        here ++ o1,
        o2,
        cut ∙ ap (λ x. t ∷ x) cut2,
        joined ∙ ap (λ x. here ++ x) joined2 ∙ sym (append_assoc here o1 o2),
        (t, i1, here, o1, refl, refl, reads, first),
        second,
      )

module _ (links : List (Link Item)) (Reads : ℕ → Item → List Item → Type 0) where
  -- a word of one position
  one-sound : (l : Leaf Item) (captured : Bool) (o : ℕ) → IsLabelled links Reads (one l captured) o → (word : List ℕ) (input output : List Item)
      → Accepts (one l captured) o word → Spells Reads word input output → Makes links (one l captured) input output
  one-sound l captured o labelled [] input output is spells = absurd is
  one-sound l captured o labelled (k ∷ []) input output is (t, rest, here, there, cut, joined, reads, (no_rest, no_there)) =
      let made : Matches links l t × WritesAt links l captured t here = labelled.0 t here (subst (λ x. Reads x t here) is.0 reads) in (
        t,
        cut ∙ ap (λ x. t ∷ x) no_rest,
        made.0,
        subst (λ x. WritesAt links l captured t x) (sym (joined ∙ ap (λ x. here ++ x) no_there ∙ append-nil here)) made.1,
      )
  one-sound l captured o labelled (k ∷ j ∷ word) input output is spells = absurd is.1.0

  turns-sound : (a : Shape) (o : ℕ)
      → ((word : List ℕ) (i p : List Item) → Accepts a o word → Spells Reads word i p → Makes links a i p)
      → (words : List (List ℕ)) (input output : List Item) → AllByRecursion (λ w. Accepts a o w) words → Spells Reads (flat_map (λ w. w) words) input output
      → (turns : List (Turn Item)) × (length turns ≡ length words) × InTurns (λ i p. Makes links a i p) turns input output
  turns-sound a o each [] input output all spells = ([], refl, (spells.0, spells.1, tt))
  turns-sound a o each (word ∷ words) input output all spells =
      let (i1, i2, o1, o2, cut, joined, first, second) = Spells-cut Reads word (flat_map (λ w. w) words) input output spells in
      let (turns, count, in_turns) = turns-sound a o each words i2 o2 all.1 second in
      let turn : Turn Item = record { input = i1; output = o1 } in
      (turn ∷ turns, ap suc count, (cut ∙ ap (λ x. i1 ++ x) in_turns.0, joined ∙ ap (λ x. o1 ++ x) in_turns.1, (each word i1 o1 all.0 first, in_turns.2)))

  -- what a word that is accepted spells is made
  pub positions-sound : (a : Shape) (o : ℕ) → IsLabelled links Reads a o → (word : List ℕ) (input output : List Item)
      → Accepts a o word → Spells Reads word input output → Makes links a input output
  positions-sound (one l captured) o labelled word input output is spells = one-sound l captured o labelled word input output is spells
  positions-sound nothing o labelled [] input output is spells = spells
  positions-sound nothing o labelled (k ∷ word) input output is spells = absurd is.0
  positions-sound never o labelled [] input output is spells = absurd is
  positions-sound never o labelled (k ∷ word) input output is spells = absurd is.0
  positions-sound (both a b) o labelled word input output is spells =
      let (word1, word2, same, left, right) = both-cut a b o word is in
      let (i1, i2, o1, o2, cut, joined, first, second) =
      Spells-cut Reads word1 word2 input output (subst (λ w. Spells Reads w input output) same spells) in (
        i1,
        i2,
        o1,
        o2,
        cut,
        joined,
        positions-sound a o labelled.0 word1 i1 o1 left first,
        positions-sound b (o + size a) labelled.1 word2 i2 o2 right second,
      )
  positions-sound (either a b) o labelled word input output is spells =
      elim (either-cut a b o word is) [
        | inl left ↦ inl (positions-sound a o labelled.0 word input output left spells)
        | inr right ↦ inr (positions-sound b (o + size a) labelled.1 word input output right spells)
      ]
  positions-sound (maybe a) o labelled word input output is spells =
      elim (maybe-cut a o word is) [
        | inl none ↦ inl (subst (λ w. Spells Reads w input output) none spells)
        | inr some ↦ inr (positions-sound a o labelled word input output some spells)
      ]
  positions-sound (more a) o labelled word input output is spells =
      let (first, words, same, here, others) = more-cut a o word is in
      let (turns, count, in_turns) = turns-sound a o (λ w i p. positions-sound a o labelled w i p) (first ∷ words) input output (here, others)
      (subst (λ w. Spells Reads w input output) same spells) in
      (turns, omega arith, in_turns)

  -- one or more turns are spelt by one word
  turns-complete : (a : Shape) (o : ℕ)
      → ((i p : List Item) → Makes links a i p → (word : List ℕ) × Accepts a o word × Spells Reads word i p)
      → (turn : Turn Item) (turns : List (Turn Item)) → Makes links a turn.input turn.output → AllByRecursion (λ t. Makes links a t.input t.output) turns
      → (word : List ℕ) × Accepts (more a) o word
      × Spells Reads word (turn.input ++ flat_map (λ t. t.input) turns) (turn.output ++ flat_map (λ t. t.output) turns)
  turns-complete a o each turn [] first others =
      let (word, is, spells) = each turn.input turn.output first in (
        word,
        more-one a o word is,
        subst (λ x. Spells Reads word x (turn.output ++ [])) (sym (append-nil turn.input))
            (subst (λ x. Spells Reads word turn.input x) (sym (append-nil turn.output)) spells),
      )
  turns-complete a o each turn (next ∷ turns) first others =
      let (word1, is1, spells1) = each turn.input turn.output first in
      let (word2, is2, spells2) = turns-complete a o each next turns others.0 others.1 in (
        word1 ++ word2,
        more-join a o word1 word2 is1 is2,
        Spells-join Reads word1 word2 turn.input (flat_map (λ t. t.input) (next ∷ turns)) turn.output (flat_map (λ t. t.output) (next ∷ turns)) spells1 spells2,
      )

  -- what is made is spelt by a word that is accepted
  pub positions-complete : (a : Shape) (o : ℕ) → IsLabelled links Reads a o → (input output : List Item)
      → Makes links a input output → (word : List ℕ) × Accepts a o word × Spells Reads word input output
  positions-complete (one l captured) o labelled input output (t, cut, matches, writes) =
      (o ∷ [], (refl, refl), (t, [], output, [], cut, sym (append-nil output), labelled.1 t output matches writes, (refl, refl)))
  positions-complete nothing o labelled input output made = ([], tt, made)
  positions-complete never o labelled input output made = absurd made
  positions-complete (both a b) o labelled input output (i1, i2, o1, o2, cut, joined, first, second) =
      let (word1, is1, spells1) = positions-complete a o labelled.0 i1 o1 first in
      let (word2, is2, spells2) = positions-complete b (o + size a) labelled.1 i2 o2 second in (
        word1 ++ word2,
        both-join a b o word1 word2 is1 is2,
        subst (λ x. Spells Reads (word1 ++ word2) x output) (sym cut)
            (subst (λ x. Spells Reads (word1 ++ word2) (i1 ++ i2) x) (sym joined) (Spells-join Reads word1 word2 i1 i2 o1 o2 spells1 spells2)),
      )
  positions-complete (either a b) o labelled input output (inl made) =
      let (word, is, spells) = positions-complete a o labelled.0 input output made in
      (word, either-left a b o word is, spells)
  positions-complete (either a b) o labelled input output (inr made) =
      let (word, is, spells) = positions-complete b (o + size a) labelled.1 input output made in
      (word, either-right a b o word is, spells)
  positions-complete (maybe a) o labelled input output (inl none) = ([], tt, none)
  positions-complete (maybe a) o labelled input output (inr made) =
      let (word, is, spells) = positions-complete a o labelled input output made in
      (word, maybe-some a o word is, spells)
  positions-complete (more a) o labelled input output ([], some, in_turns) = absurd (omega arith)
  positions-complete (more a) o labelled input output (turn ∷ turns, some, in_turns) =
      let (word, is, spells) = turns-complete a o (λ i p made. positions-complete a o labelled i p made) turn turns in_turns.2.0 in_turns.2.1 in (
        word,
        is,
        subst (λ x. Spells Reads word x output) (sym in_turns.0)
            (subst (λ x. Spells Reads word (turn.input ++ flat_map (λ t. t.input) turns) x) (sym in_turns.1) spells),
      )
