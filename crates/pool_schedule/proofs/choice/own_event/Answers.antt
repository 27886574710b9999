use Rattle.std.proofs.Common.{◌≡◌, ◌-◌, ◌<◌, ℕ, List, Some, slice_get, get_or, subst, ap, ◌∙◌, arith}
use Rattle.pool_schedule.specs.Worker.{events_by}
use Rattle.pool_schedule.specs.declared.event.Event.TheVariants.{Put, Grow, Post}
use Rattle.pool_schedule.specs.declared.worker.Worker.{Worker}
use Rattle.pool_schedule.proofs.CountLemmas.{at-posting, at-busy, free-empty, free-first, free-later, posting-count, busy-count, free-count, thefts-empty, thefts-full, some-nodes, no-nodes, first-of, first-of-two, second-of-two, events_at}
use Rattle.pool_schedule.proofs.StepLemmas.{now-is, at-now}
use Rattle.pool_schedule.proofs.choice.own_event.Goals as goal

few : {N : Type 0} (workers : List (Worker N)) (w number filled : ℕ) (x now : Worker N) → slice_get workers w ≡ Some x → now ≡ get_or workers w now
    → number < events_by filled x → number < events_by filled now
few workers w number filled x now at read less = subst (λ (y : Worker _). number < events_by filled y) (now-is workers w x now at read) less

pub theft-requires-clause-number : goal.theft-requires-clause-number
theft-requires-clause-number g c label =
    let at = at-now c.args.workers.now c.args.w c.requires.number.0 c.index-workers-w.result c.requires.number.1 c.index-workers-w.is in
    let less = few c.args.workers.now c.args.w c.args.number c.args.filled c.requires.number.0 c.index-workers-w.result c.requires.number.1 c.index-workers-w.is c.requires.number.2 in
    let none = no-nodes c.index-workers-w.result.deque.items c.index-workers-w.result.deque.len c.index-workers-w.result.deque.ok.0 c.if-is_empty.ensures in
    omega (arith, thefts-empty label c.args.workers.now c.args.w c.index-workers-w.result at none, free-count c.index-workers-w.result c.args.filled c.in-Free.ensures, c.requires.filled)

pub theft-requires-in-Free-3-clause-number : goal.theft-requires-in-Free-3-clause-number
theft-requires-in-Free-3-clause-number g c label =
    let at = at-now c.args.workers.now c.args.w c.requires.number.0 c.index-workers-w.result c.requires.number.1 c.index-workers-w.is in
    let less = few c.args.workers.now c.args.w c.args.number c.args.filled c.requires.number.0 c.index-workers-w.result c.requires.number.1 c.index-workers-w.is c.requires.number.2 in
    let some = some-nodes c.index-workers-w.result.deque.items c.index-workers-w.result.deque.len c.index-workers-w.result.deque.ok.0 c.if-is_empty.ensures in
    omega (arith, thefts-full label c.args.workers.now c.args.w c.index-workers-w.result at some, free-count c.index-workers-w.result c.args.filled c.in-Free-3.ensures, c.requires.filled, c.if-number-eq0-2.false)

pub returns-in-Pending : goal.returns-in-Pending
returns-in-Pending g c label =
    let at = at-now c.args.workers.now c.args.w c.requires.number.0 c.index-workers-w.result c.requires.number.1 c.index-workers-w.is in
    let less = few c.args.workers.now c.args.w c.args.number c.args.filled c.requires.number.0 c.index-workers-w.result c.requires.number.1 c.index-workers-w.is c.requires.number.2 in
    first-of (events_at label c.args.workers.now c.args.w) (Post c.args.w) c.args.number (at-posting label c.args.workers.now c.args.w c.index-workers-w.result at c.in-Pending.ensures)
    (omega (arith, posting-count c.index-workers-w.result c.args.filled c.in-Pending.ensures))

pub returns-in-Busy : goal.returns-in-Busy
returns-in-Busy g c label =
    let at = at-now c.args.workers.now c.args.w c.requires.number.0 c.index-workers-w.result c.requires.number.1 c.index-workers-w.is in
    first-of-two (events_at label c.args.workers.now c.args.w) (Grow c.args.w) (Put c.args.w) c.args.number (at-busy label c.args.workers.now c.args.w c.index-workers-w.result at c.in-Busy.ensures)
    c.if-number-eq0.true

pub returns-in-Busy-2 : goal.returns-in-Busy-2
returns-in-Busy-2 g c label =
    let at = at-now c.args.workers.now c.args.w c.requires.number.0 c.index-workers-w.result c.requires.number.1 c.index-workers-w.is in
    let less = few c.args.workers.now c.args.w c.args.number c.args.filled c.requires.number.0 c.index-workers-w.result c.requires.number.1 c.index-workers-w.is c.requires.number.2 in
    second-of-two (events_at label c.args.workers.now c.args.w) (Grow c.args.w) (Put c.args.w) c.args.number (at-busy label c.args.workers.now c.args.w c.index-workers-w.result at c.in-Busy-2.ensures)
    c.if-number-eq0.false (omega (arith, busy-count c.index-workers-w.result c.args.filled c.in-Busy-2.ensures))

pub returns-in-Free : goal.returns-in-Free
returns-in-Free g c label =
    let at = at-now c.args.workers.now c.args.w c.requires.number.0 c.index-workers-w.result c.requires.number.1 c.index-workers-w.is in
    let none = no-nodes c.index-workers-w.result.deque.items c.index-workers-w.result.deque.len c.index-workers-w.result.deque.ok.0 c.if-is_empty.ensures in
    free-empty label c.args.workers.now c.args.w c.index-workers-w.result c.args.number c.theft.result at c.in-Free.ensures none (c.theft.ensures label)

pub returns-in-Free-2 : goal.returns-in-Free-2
returns-in-Free-2 g c label =
    let at = at-now c.args.workers.now c.args.w c.requires.number.0 c.index-workers-w.result c.requires.number.1 c.index-workers-w.is in
    let some = some-nodes c.index-workers-w.result.deque.items c.index-workers-w.result.deque.len c.index-workers-w.result.deque.ok.0 c.if-is_empty.ensures in
    ap (slice_get (events_at label c.args.workers.now c.args.w)) c.if-number-eq0-2.true
    ∙ free-first label c.args.workers.now c.args.w c.index-workers-w.result at c.in-Free-2.ensures some

pub returns-in-Free-3 : goal.returns-in-Free-3
returns-in-Free-3 g c label =
    let at = at-now c.args.workers.now c.args.w c.requires.number.0 c.index-workers-w.result c.requires.number.1 c.index-workers-w.is in
    let some = some-nodes c.index-workers-w.result.deque.items c.index-workers-w.result.deque.len c.index-workers-w.result.deque.ok.0 c.if-is_empty.ensures in
    free-later label c.args.workers.now c.args.w c.index-workers-w.result c.args.number (c.args.number - 1) c.theft-in-Free-3.result at c.in-Free-3.ensures some
    (omega (arith, c.if-number-eq0-2.false)) (c.theft-in-Free-3.ensures label)
