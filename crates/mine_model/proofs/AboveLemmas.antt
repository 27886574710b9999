-- What an expression writes stands above what it reads, and is no longer.
use Rattle.std.proofs.Common.{◌≤◌, inl, inr, Bool, true, false, List, [], ◌∷◌, ap, subst, length, length-append, arith}
use Rattle.std.specs.List.{All, AllByRecursion, Contains, flat_map}
use Rattle.std.proofs.lemmas.List.Elements.{All-contains}
use Rattle.mine_model.specs.Hierarchy.{Link, IsWalk, IsAncestor}
use Rattle.mine_model.specs.Expression.{Tree, leaf, cat, alt, rep, cap}
use Rattle.mine_model.specs.Generation.{Turn, Generates, IsPatternOf}
use Rattle.mine_model.specs.Support.{HoldsUnder}
use Rattle.mine_model.proofs.ListLemmas.{Contains-first, Contains-other, AllByRecursion-contained}
use Rattle.mine_model.proofs.GenerationLemmas.{Generates-items}
use Rattle.mine_model.proofs.WalkLemmas.{IsAncestor-itself, IsAncestor-chain}

module _ {A : Type 0} (links : List (Link A)) where
  -- what holds of both ends of each link holds of what stands above an item of which it holds
  pub IsAncestor-keeps : (P : A → Type 0) → All (λ link. P link.child × P link.parent) links → (w t : A) → P t → IsAncestor links w t → P w
  IsAncestor-keeps P ends w t p (steps, walk) = by t steps p walk
    where
      by : (t : A) (steps : List A) → P t → IsWalk links t steps w → P w
      by t [] p same = subst P same p
      by t (next ∷ steps) p walk =
          let both = All-contains (λ link. P link.child × P link.parent) links (record { child = t; parent = next }) ends walk.0 in
          by next steps both.1 walk.1

  -- with each item its sequence holds what stands above it
  pub HoldsUnder-above : (items : List A) (v t : A) → IsAncestor links v t → HoldsUnder links t items → HoldsUnder links v items
  HoldsUnder-above items v t above (u, held, under) = (u, held, IsAncestor-chain links v t u above under)

  holds_each : (items all : List A) → ((t : A) → Contains items t → Contains all t) → AllByRecursion (λ t. HoldsUnder links t all) items
  holds_each [] all among = tt
  holds_each (t ∷ items) all among = (
    (t, among t (Contains-first t items), IsAncestor-itself links t),
    holds_each items all (λ u held. among u (Contains-other t items u held)),
  )

  -- each item of what is generated is an item of the input or stands above one
  pub Generates-above : (tree : Tree A) (captured : Bool) (input output : List A) → Generates links tree captured input output
      → (w : A) → Contains output w → HoldsUnder links w input
  Generates-above tree captured input output made w held =
      AllByRecursion-contained (λ v. HoldsUnder links v input) output w
      (Generates-items links (λ v. HoldsUnder links v input) (λ v t above under. HoldsUnder-above input v t above under) tree captured input output made (holds_each input input (λ t is. is)))
      held

  turns_shorter : (Made : List A → List A → Type 0) (turns : List (Turn A))
      → ((input output : List A) → Made input output → length output ≤ length input)
      → AllByRecursion (λ turn. Made turn.input turn.output) turns
      → length (flat_map (λ turn. turn.output) turns) ≤ length (flat_map (λ turn. turn.input) turns)
  turns_shorter Made [] each made = omega arith
  turns_shorter Made (turn ∷ turns) each made =
      omega (
        arith,
        each turn.input turn.output made.0,
        turns_shorter Made turns each made.1,
        length-append turn.output (flat_map (λ (turn : Turn A). turn.output) turns),
        length-append turn.input (flat_map (λ (turn : Turn A). turn.input) turns),
      )

  -- what is generated is no longer than the input
  pub Generates-shorter : (tree : Tree A) (captured : Bool) (input output : List A) → Generates links tree captured input output → length output ≤ length input
  Generates-shorter (leaf l) true input output (t, same, is, (v, may, one)) = omega (arith, ap length same, ap length one)
  Generates-shorter (leaf l) false input output (t, same, is, none) = omega (arith, ap length none)
  Generates-shorter (cat left right) captured input output (input1, input2, output1, output2, cut, joined, first, second) =
      omega (
        arith,
        ap length cut,
        ap length joined,
        length-append input1 input2,
        length-append output1 output2,
        Generates-shorter left captured input1 output1 first,
        Generates-shorter right captured input2 output2 second,
      )
  Generates-shorter (alt left right) captured input output (inl made) = Generates-shorter left captured input output made
  Generates-shorter (alt left right) captured input output (inr made) = Generates-shorter right captured input output made
  Generates-shorter (rep inner least most) captured input output (turns, enough, few, cut, joined, made) =
      omega (arith, ap length cut, ap length joined, turns_shorter (Generates links inner captured) turns (Generates-shorter inner captured) made)
  Generates-shorter (cap inner) captured input output made = Generates-shorter inner true input output made

  -- the same of patterns
  pub pattern-above : (expression : Tree A) (sequence pattern : List A) → IsPatternOf links expression sequence pattern → (w : A) → Contains pattern w → HoldsUnder links w sequence
  pattern-above expression sequence pattern is w held = Generates-above expression false sequence pattern is.1 w held

  pub pattern-shorter : (expression : Tree A) (sequence pattern : List A) → IsPatternOf links expression sequence pattern → length pattern ≤ length sequence
  pattern-shorter expression sequence pattern is = Generates-shorter expression false sequence pattern is.1
