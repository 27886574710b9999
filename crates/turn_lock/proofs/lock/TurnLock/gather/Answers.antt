use Rattle.std.proofs.Common.{◌∙◌, ap, arith}
use Rattle.turn_lock.specs.Passes.{IsPassOf}
use Rattle.turn_lock.proofs.Ends.{joins, gathers_on, gathers_parts, all_front, all_last}
use Rattle.turn_lock.proofs.lock.TurnLock.gather.Goals as goal

pub join_seat-requires : goal.join_seat-requires
join_seat-requires g c =
    let i = c.loop-pass.invariant in let two = c.args.self.now.sized.0 in let rests = c.in-Some.pass.rests in (
      i.0,
      (all_last (IsPassOf c.args.self.now) _ _ _ c.in-Some.ensures.items i.3).0,
      rests.0,
      (omega arith),
      joins _ _ _ _ _ _ _ _ (ap (λ m. m.0.stage) i.1) rests.1,
    )

pub loop-pass-preserved : goal.loop-pass-preserved
loop-pass-preserved g c =
    let i = c.loop-pass.invariant in let k = c.join_seat.ensures in let popped = c.in-Some.ensures.items in (
      k.0 ∙ i.0,
      gathers_on _ _ _ k.2 i.1,
      gathers_parts _ _ _ _ _ _ popped c.in-Some.pass.rests.2 i.2 (ap (λ m. m.0.parts) k.2),
      all_front (IsPassOf c.args.self.now) _ _ _ popped i.3,
    )
