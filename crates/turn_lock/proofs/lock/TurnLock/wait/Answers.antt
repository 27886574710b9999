use Rattle.std.proofs.Common.{arith}
use Rattle.turn_lock.proofs.Steps.{looks}
use Rattle.turn_lock.proofs.lock.TurnLock.wait.Goals as goal

pub load-serving-requires : goal.load-serving-requires
load-serving-requires g c =
    let same = c.loop.invariant.1 in
    (c.loop.invariant.0, (let two = c.args.self.now.sized.0 in omega arith), looks _ _ _ _ _ _ _ (rw same c.requires.waits.0) (rw same c.requires.waits.1))
