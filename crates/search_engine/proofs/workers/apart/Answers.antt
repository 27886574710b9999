use Rattle.std.proofs.Common.{◌++◌, length, append_assoc, ap, sym, ◌∙◌, arith}
use Rattle.search_engine.proofs.CrewLemmas.{workers-more}
use Rattle.search_engine.proofs.workers.apart.Goals as goal

pub workers-preserved : goal.workers-preserved
workers-preserved g c =
    let steps = c.in-Some.ensures.steps in
    let seen = c.workers.yielded in
    record {
      seen = rw append_assoc (ap (λ xs. seen ++ xs) (sym steps.0) ∙ c.workers.invariant.seen);
      count = omega (arith, steps.1, c.workers.invariant.count, ap length steps.0);
      are = rw (c.in_ok-push.ensures.items, c.in_ok-push-2.ensures.items) (workers-more c.workers.seats.items c.workers.passes.items seen c.in-Some.worker c.workers.invariant.are);
    }
