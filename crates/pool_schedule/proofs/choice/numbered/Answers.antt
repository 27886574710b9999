use Rattle.std.proofs.Common.{◌-◌, [], length, refl, sym, ◌∙◌, arith}
use Rattle.std.proofs.lemmas.Option.{slice_get_read}
use Rattle.pool_schedule.proofs.CountLemmas.{events-length, event-next, event-found, no-more-events}
use Rattle.pool_schedule.proofs.choice.numbered.Goals as goal

pub own_event-requires-clause-number : goal.own_event-requires-clause-number
own_event-requires-clause-number g c = (
  c.index-workers-w.result,
  slice_get_read c.args.workers.now (length c.args.workers.now) c.loop-w.w c.index-workers-w.result refl c.loop-w-test.true c.index-workers-w.is,
  omega (arith, c.events_of_worker-events.ensures, c.if-left-events.true),
)

pub returns-then-left-events : goal.returns-then-left-events
returns-then-left-events g c label =
    event-found label c.args.workers.now c.loop-w.w c.loop-w.left c.args.number c.own_event.result c.loop-w-test.true (c.own_event.ensures label)
    (omega (arith, c.loop-w.invariant label))

pub loop-w-preserved : goal.loop-w-preserved
loop-w-preserved g c label =
    let at = slice_get_read c.args.workers.now (length c.args.workers.now) c.loop-w.w c.index-workers-w.result refl c.loop-w-test.true c.index-workers-w.is in
    event-next label c.args.workers.now c.loop-w.w c.args.number c.loop-w.left (c.loop-w.left - c.events_of_worker-events.result) c.events_of_worker-events.result
    (events-length label c.args.workers.now c.loop-w.w c.index-workers-w.result c.args.filled at c.requires.filled ∙ sym c.events_of_worker-events.ensures)
    (omega (arith, c.if-left-events.false)) (c.loop-w.invariant label)

pub unreachable-requires : goal.unreachable-requires
unreachable-requires g c =
    no-more-events (λ _. []) c.args.workers.now c.loop-w.w c.args.number c.loop-w.left c.args.filled c.loop-w-test.false c.loop-w.auto.w-end c.requires.filled c.requires.number
    (c.loop-w.invariant (λ _. []))
