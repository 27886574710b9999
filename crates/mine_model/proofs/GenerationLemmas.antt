-- What stands in an output: the items of a pattern are those of its sequence and what stands above them.
use Rattle.std.proofs.Common.{◌≡◌, ◌++◌, inl, inr, Bool, true, false, List, [], ◌∷◌, sym, ◌∙◌, subst}
use Rattle.std.specs.List.{AllByRecursion, flat_map}
use Rattle.mine_model.specs.Hierarchy.{Link, IsAncestor}
use Rattle.mine_model.specs.Expression.{Leaf, under, exact, climb, forced, any, any_climb, not_under, not_exact, Tree, leaf, cat, alt, rep, cap}
use Rattle.mine_model.specs.Generation.{Matches, MayWrite, WritesAt, Turn, Generates}
use Rattle.mine_model.proofs.ListLemmas.{Contains-none, front_of_both, back_of_both, of_both}

-- with no link only the item itself is above an item
pub IsAncestor-none : {A : Type 0} (w t : A) → IsAncestor [] w t → t ≡ w
IsAncestor-none w t ([], same) = same
IsAncestor-none w t (next ∷ steps, walk) = absurd (Contains-none _ walk.0)

module _ {A : Type 0} (links : List (Link A)) (P : A → Type 0) (up : (v t : A) → IsAncestor links v t → P t → P v) where
  written : (l : Leaf A) (t v : A) → Matches links l t → MayWrite links l t v → P t → P v
  written (under w) t v is may p = subst P (sym may) p
  written (exact w) t v is may p = subst P (is ∙ sym may) p
  written (climb w) t v is may p = up v t may.0 p
  written (forced w) t v is may p = subst P (sym may) (up w t is p)
  written any t v is may p = subst P (sym may) p
  written any_climb t v is may p = up v t may p
  written (not_under w) t v is may p = subst P (sym may) p
  written (not_exact w) t v is may p = subst P (sym may) p

  written_at : (l : Leaf A) (captured : Bool) (t : A) (output : List A) → Matches links l t → WritesAt links l captured t output → P t → AllByRecursion P output
  written_at l true t output is (v, may, same) p = subst (AllByRecursion P) (sym same) (written l t v is may p, tt)
  written_at l false t output is none p = subst (AllByRecursion P) (sym none) tt

  of_turns : (Made : List A → List A → Type 0) (turns : List (Turn A))
      → ((input output : List A) → Made input output → AllByRecursion P input → AllByRecursion P output)
      → AllByRecursion (λ turn. Made turn.input turn.output) turns
      → AllByRecursion P (flat_map (λ turn. turn.input) turns) → AllByRecursion P (flat_map (λ turn. turn.output) turns)
  of_turns Made [] each made all = tt
  of_turns Made (turn ∷ turns) each made all =
      let inputs : List A = flat_map (λ turn. turn.input) turns in
      of_both P turn.output (flat_map (λ turn. turn.output) turns)
      (each turn.input turn.output made.0 (front_of_both P turn.input inputs all))
      (of_turns Made turns each made.1 (back_of_both P turn.input inputs all))

  -- what holds of all items of the input, and of all above those of which it holds, holds of the items of the output
  pub Generates-items : (tree : Tree A) (captured : Bool) (input output : List A)
      → Generates links tree captured input output → AllByRecursion P input → AllByRecursion P output
  Generates-items (leaf l) captured input output (t, same, is, writes) all =
      written_at l captured t output is writes (subst (AllByRecursion P) same all).0
  Generates-items (cat left right) captured input output (input1, input2, output1, output2, cut, joined, first, second) all =
      let both : AllByRecursion P (input1 ++ input2) = subst (AllByRecursion P) cut all in
      subst (AllByRecursion P) (sym joined) (of_both P output1 output2
      (Generates-items left captured input1 output1 first (front_of_both P input1 input2 both))
      (Generates-items right captured input2 output2 second (back_of_both P input1 input2 both)))
  Generates-items (alt left right) captured input output (inl made) all = Generates-items left captured input output made all
  Generates-items (alt left right) captured input output (inr made) all = Generates-items right captured input output made all
  Generates-items (rep inner least most) captured input output (turns, enough, few, cut, joined, made) all =
      subst (AllByRecursion P) (sym joined)
      (of_turns (Generates links inner captured) turns (Generates-items inner captured) made (subst (AllByRecursion P) cut all))
  Generates-items (cap inner) captured input output made all = Generates-items inner true input output made all
