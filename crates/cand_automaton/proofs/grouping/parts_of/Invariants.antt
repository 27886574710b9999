use Rattle.std.proofs.Common.{◌≡◌, take}
use Rattle.std.specs.List.{AllZip}
use Rattle.mining_job.specs.Problems.{data_of}
use Rattle.mining_job.specs.Parts.{pivot_of}
use Rattle.automaton_model.specs.Groups.{part_of}
use Rattle.automaton_model.specs.Merges.{IsCodedBy}
use Rattle.snapshot_project.specs.Snapshots.{part_for}
use Rattle.cand_automaton.proofs.grouping.parts_of.Given as goal

abbrev pub invariant-loop-index : goal.invariant-loop-index
invariant-loop-index l = record {
  part : l.candidates.part ≡ part_for l.job l.seed;
  parts : AllZip (IsCodedBy (data_of l.job) l.job.ranking.order (pivot_of l.seed.pivot)) (take l.index (part_of (data_of l.job) l.seed.sequences.items)) l.parts.items;
}
