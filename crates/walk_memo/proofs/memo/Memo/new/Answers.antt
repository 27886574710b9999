use Rattle.std.proofs.Common.{refl, map}
use Rattle.std.specs.Bool.{◌==◌}
use Rattle.walk_memo.specs.Moves.{move_sets}
use Rattle.walk_memo.specs.Memos.{MemoValue}
use Rattle.walk_memo.proofs.MemoLemmas.{IsMemo-new, AreRows-none, first_set}
use Rattle.walk_memo.proofs.memo.Memo.new.Goals as goal

pub invariant_of-result : goal.invariant_of-result
invariant_of-result g c =
    let memo : MemoValue =
    record { rows = c.new-2.result.items; moves = map (move_sets {W = g.row.W}) c.new-3.result.items; sets = c.insert.new.self.keys; actions = c.new-4.result.items } in
    IsMemo-new g.row.W memo c.new-5.result c.new-6.result _ c.requires (AreRows-none g.row.W c.new-2.result.items c.new-2.ensures.items)
    (first_set (λ a b. a == b) c.new-sets.result.keys c.insert.new.self.keys c.new.result c.new-sets.ensures.empty c.new.ensures c.in_ok-insert.ensures.keys)
    (rw (c.new-5.ensures.columns, c.new-3.ensures.items) refl) (rw (c.new-6.ensures.columns, c.new-2.ensures.items) refl) c.new-5.ensures.cells c.new-6.ensures.cells
    (rw (c.new-2.ensures.items, c.new-3.ensures.items) refl)
