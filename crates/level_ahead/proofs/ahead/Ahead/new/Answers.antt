use Rattle.level_ahead.proofs.RoomLemmas.{room-none}
use Rattle.level_ahead.proofs.ahead.Ahead.new.Goals as goal

pub invariant_of-result : goal.invariant_of-result
invariant_of-result c = room-none c.new.result.items c.new-2.result c.new-3.result.sets.items c.new-4.result.items c.new.ensures.items c.new-2.ensures
