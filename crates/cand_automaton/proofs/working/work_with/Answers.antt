use Rattle.std.proofs.Common.{◌≡◌, ◌<◌, ◌%◌, ◌+◌, ◌∙◌, ℕ, List, sym, subst, arith}
use Rattle.std.proofs.lemmas.List.{length-map}
use Rattle.mine_model.specs.declared.row.Row.{Row}
use Rattle.mine_model.proofs.ElementLemmas.{get-held}
use Rattle.mining_job.specs.declared.part_seed.PartSeed.{PartSeed}
use Rattle.mining_job.specs.Problems.{data_of}
use Rattle.mining_job.specs.Parts.{pivot_of, IsComplete}
use Rattle.pivot_partition.specs.Pivots.{pivots_in}
use Rattle.cand_automaton.specs.Pivots.{AreFound}
use Rattle.cand_automaton.proofs.WorkerLemmas.{found-none, found-passed, found-more, found-through}
use Rattle.cand_automaton.proofs.SeedLemmas.{pivot-at}
use Rattle.cand_automaton.proofs.working.work_with.Goals as goal

pub mine_part-requires-clause-complete : goal.mine_part-requires-clause-complete
mine_part-requires-clause-complete g c =
    subst (IsComplete c.args.job.now) (sym c.index-seeds-number.is) (c.requires.seeds.complete c.loop-number.number c.index-seeds-number.result c.loop-number-test.true)

pub mine_part-requires-clause-least : goal.mine_part-requires-clause-least
mine_part-requires-clause-least g c =
    let seed = c.index-seeds-number.result in
    let at = pivot-at c.args.seeds.now c.loop-number.number seed c.loop-number-test.true c.index-seeds-number.is in
    (c.requires.seeds.alive (pivot_of seed.pivot) (get-held (pivots_in c.args.seeds.now) c.loop-number.number (pivot_of seed.pivot) at)).0

pub mine_part-requires-clause-alive : goal.mine_part-requires-clause-alive
mine_part-requires-clause-alive g c =
    let seed = c.index-seeds-number.result in
    let at = pivot-at c.args.seeds.now c.loop-number.number seed c.loop-number-test.true c.index-seeds-number.is in
    (c.requires.seeds.alive (pivot_of seed.pivot) (get-held (pivots_in c.args.seeds.now) c.loop-number.number (pivot_of seed.pivot) at)).1

pub loop-number-init : goal.loop-number-init
loop-number-init g c =
    let seeds = c.args.seeds.now in
    let job = c.args.job.now in
    let Own : ℕ → Type 0 = λ place. (place < 0) × (place % c.args.workers ≡ c.args.worker) in
    let none = found-none (data_of job) job.ranking.order c.threshold-threshold.ensures.whole.ranks.once (pivots_in seeds) c.requires.seeds.rising (λ pivot held. (c.requires.seeds.alive pivot held).0)
    Own (λ place pivot at own. omega (arith, own.0)) in
    record {
      problem = c.requires.problem;
      kept = c.requires.kept;
      found = subst (λ (n : ℕ). AreFound (data_of job) job.ranking.order (pivots_in seeds) Own c.args.done.now.rows.items n) (sym c.requires.sets)
          (subst (λ (rows : List Row). AreFound (data_of job) job.ranking.order (pivots_in seeds) Own rows 0) (sym c.requires.rows) none);
    }

pub loop-number-preserved-then-number-workers : goal.loop-number-preserved-then-number-workers
loop-number-preserved-then-number-workers g c =
    let seeds = c.args.seeds.now in
    let job = c.args.job.now in
    record {
      problem = c.loop-number.invariant.problem;
      kept = c.loop-number.invariant.kept;
      found = found-passed (data_of job) job.ranking.order c.threshold-threshold.ensures.whole.ranks.once (pivots_in seeds) c.requires.seeds.rising (λ pivot held. (c.requires.seeds.alive pivot held).0)
          c.args.workers c.args.worker c.loop-number.number c.loop-number.done.rows.items c.loop-number.done.sets c.if-number-workers.true c.loop-number.invariant.found;
    }

pub loop-number-preserved : goal.loop-number-preserved
loop-number-preserved g c =
    let seeds = c.args.seeds.now in
    let job = c.args.job.now in
    let seed = c.index-seeds-number.result in
    let at = pivot-at seeds c.loop-number.number seed c.loop-number-test.true c.index-seeds-number.is in
    let (more, rows, rows_are) = c.in_ok-mine_part.ensures.rows in
    let (count, sets, sets_are) = c.in_ok-mine_part.ensures.sets in
    let Own : ℕ → Type 0 = λ place. (place < c.loop-number.number + 1) × (place % c.args.workers ≡ c.args.worker) in
    let both = found-more (data_of job) job.ranking.order c.threshold-threshold.ensures.whole.ranks.once (pivots_in seeds) c.requires.seeds.rising (λ pivot held. (c.requires.seeds.alive pivot held).0)
    c.args.workers c.args.worker c.loop-number.number (pivot_of seed.pivot) c.loop-number.done.rows.items more c.loop-number.done.sets count c.if-number-workers.false at rows_are sets_are c.loop-number.invariant.found in
    record {
      problem = c.mine_part.ensures.problem ∙ c.loop-number.invariant.problem;
      kept = c.in_ok-mine_part.ensures.kept;
      found = subst (λ (n : ℕ). AreFound (data_of job) job.ranking.order (pivots_in seeds) Own c.mine_part.new.done.rows.items n) (sym sets)
          (subst (λ (all : List Row). AreFound (data_of job) job.ranking.order (pivots_in seeds) Own all (c.loop-number.done.sets + count)) (sym rows) both);
    }

pub returns : goal.returns
returns g c =
    let seeds = c.args.seeds.now in
    let job = c.args.job.now in
    found-through (data_of job) job.ranking.order c.threshold-threshold.ensures.whole.ranks.once (pivots_in seeds) c.requires.seeds.rising (λ pivot held. (c.requires.seeds.alive pivot held).0)
    c.args.workers c.args.worker c.loop-number.number c.loop-number.done.rows.items c.loop-number.done.sets
    (omega (arith, c.loop-number-test.false, length-map seeds (λ (seed : PartSeed). pivot_of seed.pivot))) c.loop-number.invariant.found
