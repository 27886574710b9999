use Rattle.turn_lock.proofs.Turn.{turn_made}
use Rattle.turn_lock.proofs.lock.TurnLock.change.Goals as goal

pub pass_on-requires-clause-turn : goal.pass_on-requires-clause-turn
pass_on-requires-clause-turn g c κs within =
    let drew = c.draw-ticket.ensures.drew in let applied = c.apply-outcome.ensures in
    turn_made _ _ _ _ _ _ _ drew.0 _ _ _ c.args.pass.now.rests c.requires.pass.1 drew.2 c.wait.ensures.took applied.seat.1 applied.value
