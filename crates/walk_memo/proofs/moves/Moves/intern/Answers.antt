use Rattle.std.proofs.Common.{map, ◌≢◌, ℕ, ◌≡◌, ◌∙◌, sym, ap, subst, Some, List}
use Rattle.std.specs.List.{slice_get, AllPairs}
use Rattle.std.proofs.lemmas.Result.{IfOk-weaker}
use Rattle.mine_model.specs.Lists.{AddsTo}
use Rattle.mine_model.proofs.ListLemmas.{AddsTo-inserted}
use Rattle.mine_model.proofs.ElementLemmas.{slice_get-mapped_by}
use Rattle.walk_memo.specs.Moves.{MoveSets, move_sets}
use Rattle.walk_memo.proofs.MemoLemmas.{same_move, move_eq, moves_once}
use Rattle.walk_memo.proofs.moves.Moves.intern.Goals as goal

pub returns-clause-grows : goal.returns-clause-grows
returns-clause-grows g c =
    subst (λ (moves : List MoveSets). AddsTo moves (move_sets {W = g.row.W} c.args.movement.now) (map (move_sets {W = g.row.W}) c.insert_full.new.self.keys)) c.self.view_is
    (AddsTo-inserted (move_sets {W = g.row.W}) (move_eq {W = g.row.W}) c.self.inside.moves.keys c.insert_full.new.self.keys c.args.movement.now c.in_ok-index.ensures.keys)

pub returns-clause-number : goal.returns-clause-number
returns-clause-number g c =
    let (found, place, same) = c.in_ok-index.ensures.stored in
    let there : slice_get (map (move_sets {W = g.row.W}) c.insert_full.new.self.keys) c.in_ok-index.index ≡ Some (move_sets {W = g.row.W} c.args.movement.now) =
    slice_get-mapped_by (move_sets {W = g.row.W}) c.insert_full.new.self.keys c.in_ok-index.index found place ∙ ap Some (sym (same_move {W = g.row.W} c.args.movement.now found same)) in
    IfOk-weaker c.to_number.result (λ number. number ≡ c.in_ok-index.index) (λ number. slice_get (map (move_sets {W = g.row.W}) c.insert_full.new.self.keys) number ≡ Some (move_sets {W = g.row.W} c.args.movement.now)) (λ number is. subst (λ (n : ℕ). slice_get (map (move_sets {W = g.row.W}) c.insert_full.new.self.keys) n ≡ Some (move_sets {W = g.row.W} c.args.movement.now)) (sym is) there) c.to_number.ensures

pub returns-clause-once : goal.returns-clause-once
returns-clause-once g c = moves_once c.insert_full.new.self.keys c.insert_full.ensures.unique

pub returns-then-len-clause-once : goal.returns-then-len-clause-once
returns-then-len-clause-once g c =
    subst (λ (moves : List MoveSets). AllPairs (λ one other. one ≢ other) moves) c.self.view_is (moves_once c.self.inside.moves.keys c.len.ensures.unique)

pub returns-in_err-index-clause-once : goal.returns-in_err-index-clause-once
returns-in_err-index-clause-once g c = moves_once c.insert_full.new.self.keys c.insert_full.ensures.unique
