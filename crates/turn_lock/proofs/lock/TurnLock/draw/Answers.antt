use Rattle.std.proofs.Common.{arith}
use Rattle.turn_lock.proofs.Steps.{draws}
use Rattle.turn_lock.proofs.lock.TurnLock.draw.Goals as goal

pub fetch_add-requires : goal.fetch_add-requires
fetch_add-requires g c = (c.requires.seat, (let two = c.args.self.now.sized.0 in omega arith), draws _ _ _ _ _ _ _ c.requires.idle.0 c.requires.idle.1)
