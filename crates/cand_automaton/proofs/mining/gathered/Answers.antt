use Rattle.std.proofs.Common.{◌++◌, ◌∙◌, [], length, append_assoc, ap, sym, arith, refl}
use Rattle.cand_automaton.proofs.WorkerLemmas.{gathered-more}
use Rattle.cand_automaton.proofs.mining.gathered.Goals as goal

pub results-init : goal.results-init
results-init c = record {
  seen = c.into_iter-result-iterator.ensures.into_iter_gives.0;
  count = omega (arith, c.into_iter-result-iterator.ensures.into_iter_gives.1, ap length c.into_iter-result-iterator.ensures.into_iter_gives.0, c.args.results.ok.0);
  found = record { found = []; each = refl; rows = c.new-rows.ensures.items; sets = refl };
}

pub results-preserved : goal.results-preserved
results-preserved c =
    let steps = c.in-Some.ensures.steps in
    let seen = c.results.yielded in
    record {
      seen = rw append_assoc (ap (λ xs. seen ++ xs) (sym steps.0) ∙ c.results.invariant.seen);
      count = omega (arith, steps.1, c.results.invariant.count, ap length steps.0);
      found = rw c.in_ok-done.was (gathered-more seen (record { rows = c.results.rows; sets = c.results.sets }) c.in_ok-done.done (record { rows = c.append.new.self; sets = c.in-Some-checked_add.more })
          c.results.invariant.found c.in_ok-append.ensures.items c.in-Some-checked_add.ensures.1);
    }
