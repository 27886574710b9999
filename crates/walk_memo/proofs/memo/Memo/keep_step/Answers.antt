use Rattle.std.proofs.Common.{◌≡◌, ◌<◌, ◌⊎◌, ℕ, sym, subst, List, map, Some}
use Rattle.std.specs.List.{slice_get}
use Rattle.walk_memo.specs.declared.cells.Cells.{Cells}
use Rattle.walk_memo.specs.declared.step.Step.{Step}
use Rattle.walk_memo.specs.Cells.{HasCell}
use Rattle.walk_memo.specs.Moves.{MoveSets, move_sets}
use Rattle.walk_memo.specs.Memos.{MemoValue, IsStep}
use Rattle.walk_memo.specs.Kept.{IsMemo, IsStepAt}
use Rattle.walk_memo.proofs.MemoLemmas.{IsMemo-keep_step}
use Rattle.walk_memo.proofs.memo.Memo.keep_step.Given.{Over}
use Rattle.walk_memo.proofs.memo.Memo.keep_step.Goals as goal
use Rattle.walk_memo.proofs.memo.Memo.keep_step.Goals.{After-keep}

module _ (g : Over) (c : After-keep g) where
  abbrev memo : MemoValue
  memo = record { rows = c.self.inside.rows.items; moves = map (move_sets {W = g.row.W}) c.self.inside.moves.items; sets = c.self.inside.sets.keys; actions = c.self.inside.actions.items }

  right : IsStepAt memo c.args.number c.args.of c.args.step
  right = record {
    set = c.args.set.now;
    numbered = subst (λ (sets : List ℕ). slice_get sets c.args.number ≡ Some c.args.set.now) c.as_slice.ensures.keys (c.stands.ensures c.if-stands.true);
    step_is = subst (λ (v : MemoValue). (move : MoveSets) → slice_get v.moves c.args.of ≡ Some move → IsStep v move c.args.set.now c.args.step) (sym c.self.view_is) c.requires.step;
  }

  kept : (after : Cells Step) → after.columns ≡ c.self.inside.steps.columns
      → ((r k : ℕ) (v : Step) → k < c.self.inside.steps.columns → HasCell after r k v → (((r ≡ c.args.number) × (k ≡ c.args.of) × (v ≡ c.args.step)) ⊎ HasCell c.self.inside.steps r k v))
      → IsMemo g.row.W memo after c.self.inside.joins c.self.inside.most_sets
  kept after columns cells = IsMemo-keep_step g.row.W memo c.self.inside.steps c.self.inside.joins c.self.inside.most_sets c.self.invariant after c.args.number c.args.of c.args.step columns right cells

pub invariant_of-self : goal.invariant_of-self
invariant_of-self g c = kept g (goal.at.invariant_of-self g c).After-keep c.keep.new.self c.keep.ensures.columns c.keep.ensures.cells

pub invariant_of-self-in_err-keep : goal.invariant_of-self-in_err-keep
invariant_of-self-in_err-keep g c = kept g (goal.at.invariant_of-self-in_err-keep g c).After-keep c.keep.new.self c.keep.ensures.columns c.keep.ensures.cells
