use Rattle.std.proofs.Common.{◌≡◌, take}
use Rattle.mining_job.specs.Problems.{data_of}
use Rattle.mining_job.specs.Parts.{pivot_of}
use Rattle.automaton_model.specs.Groups.{part_of}
use Rattle.automaton_model.specs.Registry.{IsRegistry}
use Rattle.cand_automaton.specs.Loads.{AreLoadsOf}
use Rattle.cand_automaton.proofs.parts.load_all.Given as goal

abbrev pub invariant-loop-index : goal.invariant-loop-index
invariant-loop-index l = record {
  part : l.candidates.part ≡ l.initial.candidates.part;
  kept : l.room.kept ≡ l.initial.room.kept;
  registry : IsRegistry l.room.registry;
  loads : AreLoadsOf (data_of l.job) l.job.ranking.order (pivot_of l.seed.pivot) (take l.index (part_of (data_of l.job) l.seed.sequences.items)) l.room.registry l.room.loads;
}
