use Rattle.std.proofs.Common.{length, arith}
use Rattle.flat_lists.specs.Cuts.{AreCut}
use Rattle.flat_lists.proofs.CutLemmas.{length-lists_in}
use Rattle.flat_lists.proofs.ShelfLemmas.{elements_of-lists_in}
use Rattle.flat_lists.proofs.FlatLists.reserve.Goals as goal

pub returns-clause-room_for_lists : goal.returns-clause-room_for_lists
returns-clause-room_for_lists g c =
    omega (arith, length-lists_in c.reserve.new.self.items c.reserve-2.new.self.items, c.in_ok-reserve.ensures.ok, c.reserve.new.self.ok.0)

pub returns-clause-room_for_elements : goal.returns-clause-room_for_elements
returns-clause-room_for_elements g c =
    let cut : AreCut c.reserve.new.self.items (length c.reserve-2.new.self.items) = rw (c.in_ok-reserve.ensures.items, c.in_ok-reserve-2.ensures.items) c.self.invariant in
    omega (arith, elements_of-lists_in c.reserve.new.self.items c.reserve-2.new.self.items cut, c.in_ok-reserve-2.ensures.ok, c.reserve-2.new.self.ok.0)
