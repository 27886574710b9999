-- What an expression generates from an input, as a list.
use Rattle.std.proofs.Common.{◌≡◌, ◌≢◌, ◌⊎◌, inl, inr, ℕ, zero, suc, ◌+◌, ◌≤◌, Bool, true, false, Option, Some, None, List, [], ◌∷◌, ◌++◌, take, drop, length, length-append, refl, sym, ap, ◌∙◌, subst, arith, flat_map}
use Rattle.std.specs.List.{AllByRecursion}
use Rattle.std.proofs.Math.Seq.{take-append_seam}
use Rattle.std.proofs.lemmas.Bool.{cases_lt}
use Rattle.std.proofs.lemmas.List.{take-append-drop, drop_at}
use Rattle.mine_model.specs.Hierarchy.{Link, IsWalk, IsAncestor}
use Rattle.mine_model.specs.Expression.{Leaf, under, exact, climb, forced, any, any_climb, not_under, not_exact, Tree, leaf, cat, alt, rep, cap}
use Rattle.mine_model.specs.Generation.{Matches, MayWrite, WritesAt, Turn, IsAtMost, Generates, IsPatternOf}
use Rattle.mine_model.proofs.ListLemmas.{Contains-cases, Contains-first, Contains-other}
use Rattle.mine_model.proofs.WalkLemmas.{IsAncestor-chain, IsAncestor-more}
use Rattle.mine_model.proofs.GenerationLemmas.{IsAncestor-none}
use Rattle.mine_model.proofs.AboveLemmas.{Generates-shorter}
use Rattle.answer_laws.proofs.ListingLemmas.{Decided, decided-not, IsDiscrete, lists-discrete, Listing, listing-decides, listing-like, listing-none, listing-one, listing-either, listing-where, listing-from, listing-kept, listing-upto}

-- Ancestors

module _ {A : Type 0} (links : List (Link A)) (link : Link A) where
  -- w stands above t without the link, or below and above it
  abbrev pub IsOver : A → A → Type 0
  IsOver t w = IsAncestor links w t ⊎ (IsAncestor links link.child t × IsAncestor links w link.parent)

  -- a walk over one more link need not take it more than once
  over-forth : (t : A) (steps : List A) (w : A) → IsWalk (link ∷ links) t steps w → IsOver t w
  over-forth t [] w same = inl ([], same)
  over-forth t (up ∷ steps) w walk = elim (Contains-cases link links (record { child = t; parent = up }) walk.0) [
    | inl here ↦
        let child : t ≡ link.child = ap (λ l. l.child) here in
        let parent : up ≡ link.parent = ap (λ l. l.parent) here in
        elim (over-forth up steps w walk.1) [
          | inl above ↦ inr (([], child), subst (IsAncestor links w) parent above)
          | inr again ↦ inr (([], child), again.1)
        ]
    | inr there ↦ elim (over-forth up steps w walk.1) [
      | inl above ↦ inl (up ∷ above.0, (there, above.1))
      | inr again ↦ inr ((up ∷ again.0.0, (there, again.0.1)), again.1)
    ]
  ]

  over-back : (t w : A) → IsOver t w → IsAncestor (link ∷ links) w t
  over-back t w either =
      let more : (v u : A) → IsAncestor links v u → IsAncestor (link ∷ links) v u = IsAncestor-more links (link ∷ links) (Contains-other link links) in
      elim either [
        | inl above ↦ more w t above
        | inr both ↦ IsAncestor-chain (link ∷ links) w link.parent t (more w link.parent both.1)
            (IsAncestor-chain (link ∷ links) link.parent link.child t (link.parent ∷ [], (Contains-first link links, refl)) (more link.child t both.0))
      ]

module _ {A : Type 0} (discrete : IsDiscrete A) where
  -- an item and what stands above it
  pub ancestors : (links : List (Link A)) (t : A) → Listing (λ w. IsAncestor links w t)
  ancestors [] t = listing-like (λ w. w ≡ t) (λ w. IsAncestor [] w t) (λ w same. ([], sym same)) (λ w above. sym (IsAncestor-none w t above)) (listing-one t)
  ancestors (link ∷ links) t =
      let above : Listing (λ w. IsAncestor links w t) = ancestors links t in
      listing-like (IsOver links link t) (λ w. IsAncestor (link ∷ links) w t)
      (over-back links link t) (λ w above. over-forth links link t above.0 w above.1)
      (listing-either (λ w. IsAncestor links w t) (λ w. IsAncestor links link.child t × IsAncestor links w link.parent) above
      (listing-where (IsAncestor links link.child t) (λ w. IsAncestor links w link.parent)
      (listing-decides discrete (λ w. IsAncestor links w t) above link.child) (ancestors links link.parent)))

-- Joined parts

module _ {A : Type 0} (P Q : List A → List A → Type 0) where
  -- what is taken and written in two parts
  abbrev pub InTwo : List A → List A → Type 0
  InTwo input output = (input1 : List A) × (input2 : List A) × (output1 : List A) × (output2 : List A)
      × (input ≡ input1 ++ input2) × (output ≡ output1 ++ output2) × P input1 output1 × Q input2 output2

  -- what is written where the first part takes so many
  abbrev CutAt : List A → ℕ → List A → Type 0
  CutAt input k output = (output1 : List A) × P (take k input) output1 × ((output2 : List A) × Q (drop k input) output2 × (output ≡ output1 ++ output2))

  pub joined : ((input : List A) → Listing (P input)) → ((input : List A) → Listing (Q input)) → (input : List A) → Listing (InTwo input)
  joined first second input =
      listing-like (λ output. (k : ℕ) × (k ≤ length input) × CutAt input k output) (InTwo input)
      (λ output (k, most, (output1, p, (output2, q, same))). (take k input, drop k input, output1, output2, sym (take-append-drop k input), same, p, q))
      (λ output (input1, input2, output1, output2, cut, same, p, q). (
        length input1,
        omega (arith, ap length cut, length-append input1 input2),
        (
          output1,
          subst (λ l. P l output1) (sym (ap (take (length input1)) cut ∙ take-append_seam input1 input2)) p,
          (
            output2,
            subst (λ l. Q l output2) (sym (ap (drop (length input1)) cut ∙ drop_at input1 input2 (length input1) refl)) q,
            same,
          ),
        ),
      ))
      (listing-from (λ k. k ≤ length input) (CutAt input) (listing-upto (length input)) (λ k.
      listing-from (P (take k input)) (λ output1 output. (output2 : List A) × Q (drop k input) output2 × (output ≡ output1 ++ output2)) (first (take k input)) (λ output1.
      listing-from (Q (drop k input)) (λ output2 output. output ≡ output1 ++ output2) (second (drop k input)) (λ output2. listing-one (output1 ++ output2)))))

-- Turns

module _ {A : Type 0} (discrete : IsDiscrete A) (P : List A → List A → Type 0) where
  -- what is taken and written in so many turns
  abbrev pub InTurns : ℕ → List A → List A → Type 0
  InTurns zero input output = (input ≡ []) × (output ≡ [])
  InTurns (suc n) input output = InTwo P (InTurns n) input output

  pub in_turns : ((input : List A) → Listing (P input)) → (n : ℕ) (input : List A) → Listing (InTurns n input)
  in_turns each zero input = listing-where (input ≡ []) (λ output. output ≡ []) (lists-discrete A discrete input []) (listing-one [])
  in_turns each (suc n) input = joined P (InTurns n) each (in_turns each n) input

  abbrev AreTurns : List A → List A → List (Turn A) → Type 0
  AreTurns input output turns =
      (input ≡ flat_map (λ turn. turn.input) turns) × (output ≡ flat_map (λ turn. turn.output) turns)
      × AllByRecursion (λ turn. P turn.input turn.output) turns

  pub turns-forth : (turns : List (Turn A)) (input output : List A) → AreTurns input output turns → InTurns (length turns) input output
  turns-forth [] input output are = (are.0, are.1)
  turns-forth (turn ∷ turns) input output are = (
    turn.input,
    flat_map (λ turn. turn.input) turns,
    turn.output,
    flat_map (λ turn. turn.output) turns,
    are.0,
    are.1,
    are.2.0,
    turns-forth turns (flat_map (λ turn. turn.input) turns) (flat_map (λ turn. turn.output) turns) (refl, refl, are.2.1),
  )

  pub turns-back : (n : ℕ) (input output : List A) → InTurns n input output → (turns : List (Turn A)) × (length turns ≡ n) × AreTurns input output turns
  turns-back zero input output (none, also) = ([], refl, (none, also, tt))
  turns-back (suc n) input output (input1, input2, output1, output2, cut, same, p, rest) =
      let (turns, many, are) = turns-back n input2 output2 rest in (
        record { input = input1; output = output1 } ∷ turns,
        ap suc many,
        (cut ∙ ap (λ l. input1 ++ l) are.0, same ∙ ap (λ l. output1 ++ l) are.1, (p, are.2)),
      )

  module _ (none : (output : List A) → P [] output → output ≡ []) where
    -- of more turns than items one takes and writes nothing
    fewer : (n : ℕ) (input output : List A) → length input ≤ n → InTurns (suc n) input output → InTurns n input output
    fewer n input output many ([], input2, output1, output2, cut, same, p, rest) =
        let written : output ≡ output2 = same ∙ ap (λ l. l ++ output2) (none output1 p) in
        subst (InTurns n input) (sym written) (subst (λ l. InTurns n l output2) (sym cut) rest)
    fewer zero input output many (t ∷ input1, input2, output1, output2, cut, same, p, rest) = absurd (omega (arith, many, ap length cut))
    fewer (suc n) input output many (t ∷ input1, input2, output1, output2, cut, same, p, rest) = (
      t ∷ input1,
      input2,
      output1,
      output2,
      cut,
      same,
      p,
      fewer n input2 output2 (omega (arith, many, ap length cut, length-append input1 input2)) rest,
    )

    -- of turns that are enough there are some that are not many more
    pub few : (least n : ℕ) (input output : List A) → least ≤ n → InTurns n input output
        → (k : ℕ) × (k ≤ least + length input) × (least ≤ k) × InTurns k input output
    few least zero input output enough turns = (zero, omega arith, enough, turns)
    few least (suc n) input output enough turns = elim (cases_lt (least + length input) (suc n)) [
      | inr most ↦ (suc n, most, enough, turns)
      | inl more ↦ few least n input output (omega (arith, more)) (fewer n input output (omega (arith, more)) turns)
    ]

    -- the greatest number of turns that matters
    abbrev most_turns : ℕ → Option ℕ → List A → ℕ
    most_turns least None input = least + length input
    most_turns least (Some most) input = most

    -- the turns of a repetition
    abbrev pub IsRepeated : ℕ → Option ℕ → List A → List A → Type 0
    IsRepeated least most input output = (turns : List (Turn A)) × (least ≤ length turns) × IsAtMost (length turns) most
        × (input ≡ flat_map (λ turn. turn.input) turns) × (output ≡ flat_map (λ turn. turn.output) turns)
        × AllByRecursion (λ turn. P turn.input turn.output) turns

    abbrev IsCounted : ℕ → Option ℕ → List A → ℕ → List A → Type 0
    IsCounted least most input n output = (least ≤ n) × InTurns n input output

    repeated-forth : (least : ℕ) (most : Option ℕ) (input output : List A) → IsRepeated least most input output
        → (n : ℕ) × (n ≤ most_turns least most input) × IsCounted least most input n output
    repeated-forth least None input output (turns, enough, upto, cut, same, made) =
        let (k, most, least_k, fit) = few least (length turns) input output enough (turns-forth turns input output (cut, same, made)) in
        (k, most, (least_k, fit))
    repeated-forth least (Some most) input output (turns, enough, upto, cut, same, made) =
        (length turns, upto, (enough, turns-forth turns input output (cut, same, made)))

    at_most : (n : ℕ) (least : ℕ) (most : Option ℕ) (input : List A) → n ≤ most_turns least most input → IsAtMost n most
    at_most n least None input below = tt
    at_most n least (Some most) input below = below

    repeated-back : (least : ℕ) (most : Option ℕ) (input output : List A)
        → (n : ℕ) × (n ≤ most_turns least most input) × IsCounted least most input n output → IsRepeated least most input output
    repeated-back least most input output (n, below, counted) =
        let (turns, many, are) = turns-back n input output counted.1 in (
          turns,
          subst (λ n. least ≤ n) (sym many) counted.0,
          at_most (length turns) least most input (subst (λ n. n ≤ most_turns least most input) (sym many) below),
          are.0,
          are.1,
          are.2,
        )

    pub repeated : ((input : List A) → Listing (P input)) → (least : ℕ) (most : Option ℕ) (input : List A) → Listing (IsRepeated least most input)
    repeated each least most input =
        listing-like (λ output. (n : ℕ) × (n ≤ most_turns least most input) × IsCounted least most input n output) (IsRepeated least most input)
        (repeated-back least most input) (repeated-forth least most input)
        (listing-from (λ n. n ≤ most_turns least most input) (IsCounted least most input) (listing-upto (most_turns least most input))
        (λ n. listing-where (least ≤ n) (InTurns n input) (enough n) (in_turns each n input)))
      where
        enough : (n : ℕ) → Decided (least ≤ n)
        enough n = elim (cases_lt n least) [ inl less ↦ inr (λ more. omega (arith, less, more)) | inr more ↦ inl more ]

-- Expressions

module _ {A : Type 0} (discrete : IsDiscrete A) (links : List (Link A)) where
  above : (t w : A) → Decided (IsAncestor links w t)
  above t w = listing-decides discrete (λ w. IsAncestor links w t) (ancestors discrete links t) w

  matches : (l : Leaf A) (t : A) → Decided (Matches links l t)
  matches (under w) t = above t w
  matches (exact w) t = discrete t w
  matches (climb w) t = above t w
  matches (forced w) t = above t w
  matches any t = inl tt
  matches any_climb t = inl tt
  matches (not_under w) t = decided-not (IsAncestor links w t) (above t w)
  matches (not_exact w) t = decided-not (t ≡ w) (discrete t w)

  may_write : (l : Leaf A) (t : A) → Listing (MayWrite links l t)
  may_write (under w) t = listing-one t
  may_write (exact w) t = listing-one w
  may_write (climb w) t = listing-kept (λ v. IsAncestor links v t) (λ v. IsAncestor links w v) (λ v. above v w) (ancestors discrete links t)
  may_write (forced w) t = listing-one w
  may_write any t = listing-one t
  may_write any_climb t = ancestors discrete links t
  may_write (not_under w) t = listing-one t
  may_write (not_exact w) t = listing-one t

  writes_at : (l : Leaf A) (captured : Bool) (t : A) → Listing (WritesAt links l captured t)
  writes_at l true t = listing-from (MayWrite links l t) (λ v output. output ≡ v ∷ []) (may_write l t) (λ v. listing-one (v ∷ []))
  writes_at l false t = listing-one []

  leaf_outputs : (l : Leaf A) (captured : Bool) (input : List A) → Listing (Generates links (leaf l) captured input)
  leaf_outputs l captured [] = listing-none (Generates links (leaf l) captured []) (λ output (t, same, is, writes). absurd (omega (arith, ap length same)))
  leaf_outputs l captured (t ∷ []) =
      listing-like (λ output. Matches links l t × WritesAt links l captured t output) (Generates links (leaf l) captured (t ∷ []))
      (λ output (is, writes). (t, refl, is, writes))
      (λ output (u, same, is, writes). (let one : t ≡ u = cc in
      (subst (Matches links l) (sym one) is, subst (λ t. WritesAt links l captured t output) (sym one) writes)))
      (listing-where (Matches links l t) (WritesAt links l captured t) (matches l t) (writes_at l captured t))
  leaf_outputs l captured (t ∷ u ∷ input) =
      listing-none (Generates links (leaf l) captured (t ∷ u ∷ input)) (λ output (v, same, is, writes). absurd (omega (arith, ap length same)))

  nothing : (tree : Tree A) (captured : Bool) (output : List A) → Generates links tree captured [] output → output ≡ []
  nothing tree captured [] made = refl
  nothing tree captured (v ∷ output) made = absurd (omega (arith, Generates-shorter links tree captured [] (v ∷ output) made))

  -- what the expression generates from the input
  pub outputs : (tree : Tree A) (captured : Bool) (input : List A) → Listing (Generates links tree captured input)
  outputs (leaf l) captured input = leaf_outputs l captured input
  outputs (cat left right) captured input =
      joined (Generates links left captured) (Generates links right captured) (outputs left captured) (outputs right captured) input
  outputs (alt left right) captured input =
      listing-either (Generates links left captured input) (Generates links right captured input) (outputs left captured input) (outputs right captured input)
  outputs (rep inner least most) captured input =
      repeated discrete (Generates links inner captured) (nothing inner captured) (outputs inner captured) least most input
  outputs (cap inner) captured input = outputs inner true input

  pub patterns : (tree : Tree A) (sequence : List A) → Listing (IsPatternOf links tree sequence)
  patterns tree sequence =
      listing-like (λ pattern. Generates links tree false sequence pattern × (pattern ≢ [])) (IsPatternOf links tree sequence)
      (λ pattern both. (both.1, both.0)) (λ pattern both. (both.1, both.0))
      (listing-kept (Generates links tree false sequence) (λ pattern. pattern ≢ [])
      (λ pattern. decided-not (pattern ≡ []) (lists-discrete A discrete pattern [])) (outputs tree false sequence))
