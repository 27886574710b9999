use Rattle.std.proofs.Common.{◌≡◌, ◌<◌, ◌⊎◌, ℕ, sym, subst, List, map, Some}
use Rattle.std.specs.List.{slice_get}
use Rattle.walk_memo.specs.declared.cells.Cells.{Cells}
use Rattle.walk_memo.specs.Cells.{HasCell}
use Rattle.walk_memo.specs.Moves.{move_sets}
use Rattle.walk_memo.specs.Memos.{MemoValue, IsJoined}
use Rattle.walk_memo.specs.Kept.{IsMemo, IsJoinAt}
use Rattle.walk_memo.proofs.MemoLemmas.{IsMemo-keep_join}
use Rattle.walk_memo.proofs.memo.Memo.keep_join.Given.{Over}
use Rattle.walk_memo.proofs.memo.Memo.keep_join.Goals as goal
use Rattle.walk_memo.proofs.memo.Memo.keep_join.Goals.{After-keep}

module _ (g : Over) (c : After-keep g) where
  abbrev memo : MemoValue
  memo = record { rows = c.self.inside.rows.items; moves = map (move_sets {W = g.row.W}) c.self.inside.moves.items; sets = c.self.inside.sets.keys; actions = c.self.inside.actions.items }

  right : IsJoinAt memo c.args.number c.args.state c.args.joined
  right = record {
    set = c.args.set.now;
    numbered = subst (λ (sets : List ℕ). slice_get sets c.args.number ≡ Some c.args.set.now) c.as_slice.ensures.keys (c.stands.ensures c.if-stands.true);
    join_is = subst (λ (v : MemoValue). IsJoined v c.args.set.now c.args.state c.args.joined) (sym c.self.view_is) c.requires.joined;
  }

  kept : (after : Cells ℕ) → after.columns ≡ c.self.inside.joins.columns
      → ((r k : ℕ) (v : ℕ) → k < c.self.inside.joins.columns → HasCell after r k v → (((r ≡ c.args.number) × (k ≡ c.args.state) × (v ≡ c.args.joined)) ⊎ HasCell c.self.inside.joins r k v))
      → IsMemo g.row.W memo c.self.inside.steps after c.self.inside.most_sets
  kept after columns cells = IsMemo-keep_join g.row.W memo c.self.inside.steps c.self.inside.joins c.self.inside.most_sets c.self.invariant after c.args.number c.args.state c.args.joined columns right cells

pub invariant_of-self : goal.invariant_of-self
invariant_of-self g c = kept g (goal.at.invariant_of-self g c).After-keep c.keep.new.self c.keep.ensures.columns c.keep.ensures.cells

pub invariant_of-self-in_err-keep : goal.invariant_of-self-in_err-keep
invariant_of-self-in_err-keep g c = kept g (goal.at.invariant_of-self-in_err-keep g c).After-keep c.keep.new.self c.keep.ensures.columns c.keep.ensures.cells
