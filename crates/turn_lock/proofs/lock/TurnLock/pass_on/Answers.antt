use Rattle.std.proofs.Common.{arith}
use Rattle.turn_lock.proofs.Steps.{passes_on}
use Rattle.turn_lock.proofs.lock.TurnLock.pass_on.Goals as goal

pub fetch_add-requires : goal.fetch_add-requires
fetch_add-requires g c = (c.requires.seat, (let two = c.args.self.now.sized.0 in omega arith), passes_on _ _ _ _ _ _ _ c.requires.turn)
