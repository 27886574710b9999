use Rattle.std.proofs.Common.{◌∙◌, ap, sym, subst, refl, arith}
use Rattle.turn_lock.specs.History.{entries_made}
use Rattle.turn_lock.specs.Passes.{IsPassOf}
use Rattle.turn_lock.specs.Rests.{Rests}
use Rattle.turn_lock.proofs.Ends.{cuts, dealt_rest, dealt_pass, all_more, longer_by_one, fresh_more}
use Rattle.turn_lock.proofs.lock.TurnLock.deal.Goals as goal

pub split_seat-seat-requires : goal.split_seat-seat-requires
split_seat-seat-requires g c =
    let i = c.loop-number.invariant in let two = c.args.self.now.sized.0 in
    (i.0, (omega arith), cuts _ _ _ _ _ _ (ap (λ m. m.0.stage) i.1))

pub invariant_of-push : goal.invariant_of-push
invariant_of-push g c =
    let e = dealt_pass _ _ _ _ c.loop-number-test.true c.loop-number.invariant.1 _ c.split_seat-seat.ensures.4 in
    record { rests = subst (λ m. Rests m c.loop-number.number) (sym e) (refl, refl, refl) }

pub loop-number-preserved : goal.loop-number-preserved
loop-number-preserved g c =
    let i = c.loop-number.invariant in let s = c.split_seat-seat.ensures in
    let e = dealt_pass _ _ _ _ c.loop-number-test.true i.1 _ s.4 in
    let pushed = c.in_ok-push.ensures.items in (
      s.0 ∙ i.0,
      dealt_rest _ _ _ _ c.loop-number-test.true i.1 _ s.2,
      longer_by_one _ _ _ _ pushed i.2,
      all_more (IsPassOf c.args.self.now) _ _ _ pushed i.3 (s.3 ∙ i.0, ap (λ m. m.0.start) e),
      fresh_more _ _ _ pushed i.4 (sym i.2) (ap (λ m. entries_made m.0.parts) e),
    )
