use Rattle.level_ahead.proofs.RoomLemmas.{room-none}
use Rattle.level_ahead.proofs.ahead.Ahead.begin.Goals as goal

pub invariant_of-self : goal.invariant_of-self
invariant_of-self c = room-none c.clear.new.self.items c.clear-2.new.self c.make_room.new.sets.items c.make_room.new.counts.items c.clear.ensures.items c.clear-2.ensures
