use Rattle.std.proofs.Common.{◌<◌, Ok, Result, IfOk, subst, arith}
use Rattle.std.proofs.lemmas.Option.{slice_get_within, get_or_from_slice_get}
use Rattle.mine_model.specs.declared.memory.NoMemory.{NoMemory}
use Rattle.cand_automaton.specs.declared.parts.Done.{Done}
use Rattle.cand_automaton.specs.Workers.{IsDone}
use Rattle.cand_automaton.proofs.mining.tried.Goals as goal

pub returns : goal.returns
returns g c =
    let results = c.in_ok-results.results.items in
    record {
      all = omega (arith, c.in_ok-results.ensures.len, c.in_ok-results.results.ok.0);
      each = λ worker done at.
          (let within : worker < c.args.workers = omega (arith, slice_get_within results worker (Ok done) at, c.in_ok-results.ensures.len, c.in_ok-results.results.ok.0) in
          subst (λ (r : Result Done NoMemory). IfOk r (IsDone c.args.job.now c.args.seeds.now c.args.workers worker)) (get_or_from_slice_get results worker (Ok done) (Ok done) at)
          (c.in_ok-results.ensures.each worker (Ok done) within).1.met);
    }
