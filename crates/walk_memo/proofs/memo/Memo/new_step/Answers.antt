use Rattle.std.proofs.Common.{◌≡◌, ◌<◌, ℕ, Some, length, subst, sym, ◌∙◌, rules}
use Rattle.std.specs.List.{slice_get}
use Rattle.std.proofs.lemmas.Option.{same_Some}
use Rattle.walk_memo.specs.Moves.{MoveSets, move_sets}
use Rattle.walk_memo.specs.Memos.{MemoValue, IsStep}
use Rattle.walk_memo.proofs.MemoLemmas.{IsStep-made}
use Rattle.walk_memo.proofs.memo.Memo.new_step.Given.{Over}
use Rattle.walk_memo.proofs.memo.Memo.new_step.Goals as goal
use Rattle.walk_memo.proofs.memo.Memo.new_step.Goals.{In_ok-step}

module _ (g : Over) (c : In_ok-step g) where
  same_rows : c.write.new.self.rows ≡ c.args.self.now.rows
  same_rows = c.in_ok-step.ensures.rows ∙ c.number_of.ensures.memo.rows

  same_moves : c.write.new.self.moves ≡ c.args.self.now.moves
  same_moves = c.in_ok-step.ensures.moves ∙ c.number_of.ensures.memo.moves

  -- the step from the set that was copied, at the move that was copied
  made : IsStep c.write.new.self (move_sets {W = g.row.W} c.movement.result.now) c.set.result.now c.in_ok-step.step
  made = IsStep-made c.write.new.self (move_sets {W = g.row.W} c.movement.result.now) c.set.result.now c.targets-targets.result c.intersect_with.new.self c.in_ok-step.step
      (rw (c.in_ok-step.ensures.sets, c.in_ok-step.ensures.next) c.in_ok-next.ensures.number)
      (rw same_rows c.targets-targets.ensures.are) c.intersect_with.ensures c.in_ok-step.ensures.ordered c.in_ok-step.ensures.within c.in_ok-step.ensures.written

  -- and so at each move that has the number
  made_at : (move : MoveSets) → slice_get c.args.self.now.moves c.args.of ≡ Some move → IsStep c.write.new.self move c.set.result.now c.in_ok-step.step
  made_at move found =
      subst (λ (m : MoveSets). IsStep c.write.new.self m c.set.result.now c.in_ok-step.step) (same_Some (move_sets {W = g.row.W} c.movement.result.now) move (sym c.movement.ensures ∙ found)) made

pub keep_step-requires : goal.keep_step-requires
keep_step-requires g c =
    let there = (goal.at.keep_step-requires g c).In_ok-step in
    let inside : c.args.of < length c.write.new.self.moves = rw (same_moves g there) c.requires.movement in
    let made : (move : MoveSets) → slice_get c.write.new.self.moves c.args.of ≡ Some move → IsStep c.write.new.self move c.set.result.now c.in_ok-step.step =
    λ move found. made_at g there move (rw (same_moves g there) at found) in
    let width = c.requires.width in
    search rules

pub returns-clause-step : goal.returns-clause-step
returns-clause-step g c before move found found_move =
    let there = (goal.at.returns-clause-step g c).In_ok-step in
    let set_is : c.set.result.now ≡ before = same_Some c.set.result.now before (sym c.set.ensures.is ∙ found) in
    subst (λ (s : ℕ). IsStep c.keep_step.new.self move s c.in_ok-step.step) set_is
    (subst (λ (m : MemoValue). IsStep m move c.set.result.now c.in_ok-step.step) (sym c.in_ok-keep_step.ensures) (made_at g there move found_move))
