use Rattle.std.proofs.Common.{inl, inr, [], ◌∷◌, length, refl, arith}
use Rattle.std.proofs.lemmas.Option.{slice_get_read}
use Rattle.pool_schedule.specs.declared.event.Event.TheVariants.{Steal}
use Rattle.pool_schedule.proofs.CountLemmas.{one-theft, no-theft, theft-next, theft-found, no-more-thefts, some-nodes, no-nodes}
use Rattle.pool_schedule.proofs.choice.theft.Goals as goal
use Rattle.pool_schedule.proofs.choice.theft.Goals.{then-from-w+then-not-is_empty+else-left-eq0, else-from-w, else-from-w-via-then-from-w+else-not-is_empty, else-from-w-via-else-from-w}

pub returns-then-left-eq0 : goal.returns-then-left-eq0
returns-then-left-eq0 g c label =
    let at = slice_get_read c.args.workers.now (length c.args.workers.now) c.loop-from.from c.index-workers-from.result refl c.loop-from-test.true c.index-workers-from.is in
    let some = some-nodes c.index-workers-from.result.deque.items c.index-workers-from.result.deque.len c.index-workers-from.result.deque.ok.0 c.if-not-is_empty.ensures in
    theft-found label c.args.workers.now c.args.w c.loop-from.from c.args.number (Steal c.args.w c.loop-from.from) c.loop-from-test.true
    (one-theft label c.args.workers.now c.args.w c.loop-from.from c.index-workers-from.result at c.if-from-w.true some)
    (omega (arith, c.loop-from.invariant label, c.if-left-eq0.true))

pub loop-from-preserved : goal.loop-from-preserved
loop-from-preserved g c label =
    let at = slice_get_read c.args.workers.now (length c.args.workers.now) c.loop-from.from c.index-workers-from.result refl c.loop-from-test.true c.index-workers-from.is in
    elim c.if-from-w.branch [
      | then-from-w+then-not-is_empty+else-left-eq0 w ↦
          let some = some-nodes c.index-workers-from.result.deque.items c.index-workers-from.result.deque.len c.index-workers-from.result.deque.ok.0 w.if-not-is_empty.ensures in
          theft-next label c.args.workers.now c.args.w c.loop-from.from c.args.number c.loop-from.left c.if-from-w.left (Steal c.args.w c.loop-from.from ∷ [])
          (one-theft label c.args.workers.now c.args.w c.loop-from.from c.index-workers-from.result at w.if-from-w.true some)
          (omega (arith, w.left-is, w.if-left-eq0.false)) (c.loop-from.invariant label)
      | else-from-w w ↦ elim w.else-from-w.branch [
        | else-from-w-via-then-from-w+else-not-is_empty v ↦
            let none = no-nodes c.index-workers-from.result.deque.items c.index-workers-from.result.deque.len c.index-workers-from.result.deque.ok.0 v.if-not-is_empty.ensures in
            theft-next label c.args.workers.now c.args.w c.loop-from.from c.args.number c.loop-from.left c.if-from-w.left []
            (no-theft label c.args.workers.now c.args.w c.loop-from.from c.index-workers-from.result at (inr none)) (omega (arith, w.left-is)) (c.loop-from.invariant label)
        | else-from-w-via-else-from-w v ↦
            theft-next label c.args.workers.now c.args.w c.loop-from.from c.args.number c.loop-from.left c.if-from-w.left []
            (no-theft label c.args.workers.now c.args.w c.loop-from.from c.index-workers-from.result at (inl v.if-from-w.false)) (omega (arith, w.left-is)) (c.loop-from.invariant label)
      ]
    ]

pub unreachable-requires : goal.unreachable-requires
unreachable-requires g c =
    no-more-thefts (λ _. []) c.args.workers.now c.args.w c.loop-from.from c.args.number c.loop-from.left c.loop-from-test.false c.loop-from.auto.from-end (c.requires.number (λ _. []))
    (c.loop-from.invariant (λ _. []))
