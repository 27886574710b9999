use Rattle.std.proofs.Common.{◌≡◌, ◌<◌, ◌%◌}
use Rattle.mining_job.specs.Problems.{data_of}
use Rattle.pivot_partition.specs.Pivots.{pivots_in}
use Rattle.cand_automaton.specs.Pivots.{AreFound}
use Rattle.cand_automaton.specs.Wholes.{IsKept}
use Rattle.cand_automaton.proofs.working.work_with.Given as goal

abbrev pub invariant-loop-number : goal.invariant-loop-number
invariant-loop-number g l = record {
  problem : l.candidates.part.problem ≡ l.job;
  kept : IsKept l.job l.candidates l.room.kept.order l.room.kept.alone;
  found : AreFound (data_of l.job) l.job.ranking.order (pivots_in l.seeds) (λ place. (place < l.number) × (place % l.workers ≡ l.worker)) l.done.rows.items l.done.sets;
}
