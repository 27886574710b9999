use Rattle.std.proofs.Common.{◌≡◌, ◌<◌, ◌+◌, ◌*◌, length, Some, slice_get, inl, inr, set, arith}
use Rattle.walk_memo.proofs.CellLemmas.{filled-set}
use Rattle.walk_memo.proofs.cells.Cells.keep.Goals as goal

pub returns-clause-cells : goal.returns-clause-cells
returns-clause-cells g c r k v inside is =
    let short : c.args.row * c.args.self.now.columns + c.args.column < length c.reach.new.cells.items = omega (arith, c.place-place.ensures, c.in_ok-reach.ensures.within) in
    let there : slice_get (set c.reach.new.cells.items (c.args.row * c.args.self.now.columns + c.args.column) (Some c.args.value)) (r * c.args.self.now.columns + k) ≡ Some (Some v) =
    rw c.place-place.ensures at is in
    elim (filled-set c.reach.new.cells.items c.args.self.now.columns c.args.row c.args.column r k c.args.value v c.requires inside short there) [
      | inl this ↦ inl this
      | inr old ↦ inr (c.in_ok-reach.ensures.cells (r * c.args.self.now.columns + k) v old)
    ]
