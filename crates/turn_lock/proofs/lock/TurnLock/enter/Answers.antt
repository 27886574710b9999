use Rattle.std.proofs.Common.{arith}
use Rattle.turn_lock.proofs.Steps.{enters}
use Rattle.turn_lock.proofs.lock.TurnLock.enter.Goals as goal

pub load_new_seat-requires : goal.load_new_seat-requires
load_new_seat-requires g c = ((let two = c.args.self.now.sized.0 in omega arith), enters _ _ _ _ _)
