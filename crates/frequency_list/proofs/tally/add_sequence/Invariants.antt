use Rattle.std.proofs.Common.{◌≡◌, ℕ, ◌+◌, ◌≤◌, take}
use Rattle.std.specs.List.{slice_index}
use Rattle.frequency_list.specs.Tallies.{owned}
use Rattle.frequency_list.proofs.TallyLemmas.{AreMarked}
use Rattle.frequency_list.proofs.tally.add_sequence.Given as goal

abbrev pub invariant-loop-t : goal.invariant-loop-t
invariant-loop-t l = record {
  owned : (k : ℕ) → owned l.stamp l.weight l.sums l.stamps k ≡ slice_index l.fn.sums k + l.weight;
  marked : AreMarked l.hierarchy.links l.stamp (take l.t-index l.items) l.stamps;
  stamped : (k : ℕ) → slice_index l.stamps k ≤ l.stamp;
}
