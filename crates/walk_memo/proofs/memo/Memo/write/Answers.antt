use Rattle.std.proofs.Common.{refl, List, map}
use Rattle.walk_memo.specs.declared.action.Action.{Action}
use Rattle.walk_memo.specs.Moves.{move_sets}
use Rattle.walk_memo.specs.Memos.{MemoValue}
use Rattle.walk_memo.specs.Kept.{IsMemo}
use Rattle.walk_memo.proofs.MemoLemmas.{IsMemo-grow, Keeps-actions}
use Rattle.walk_memo.proofs.memo.Memo.write.Given.{Over}
use Rattle.walk_memo.proofs.memo.Memo.write.Goals as goal
use Rattle.walk_memo.proofs.memo.Memo.write.Goals.{After-push_actions}

module _ (g : Over) (c : After-push_actions g) where
  abbrev with_actions : List Action → MemoValue
  with_actions actions = record { rows = c.self.inside.rows.items; moves = map (move_sets {W = g.row.W}) c.self.inside.moves.items; sets = c.self.inside.sets.keys; actions = actions }

  grown : IsMemo g.row.W (with_actions c.push_actions.new.actions.items) c.self.inside.steps c.self.inside.joins c.self.inside.most_sets
  grown = IsMemo-grow (with_actions c.self.inside.actions.items) (with_actions c.push_actions.new.actions.items) refl refl
      (Keeps-actions c.self.inside.rows.items (map (move_sets {W = g.row.W}) c.self.inside.moves.items) c.self.inside.sets.keys c.self.inside.actions.items c.push_actions.new.actions.items c.push_actions.ensures.grows)
      g.row.W c.self.inside.steps c.self.inside.joins c.self.inside.most_sets c.self.invariant c.self.invariant.sets_are

pub invariant_of-self : goal.invariant_of-self
invariant_of-self g c = grown g (goal.at.invariant_of-self g c).After-push_actions

pub invariant_of-self-in_err-last : goal.invariant_of-self-in_err-last
invariant_of-self-in_err-last g c = grown g (goal.at.invariant_of-self-in_err-last g c).After-push_actions

pub invariant_of-self-2 : goal.invariant_of-self-2
invariant_of-self-2 g c = grown g (goal.at.invariant_of-self-2 g c).After-push_actions
