use Rattle.std.proofs.Common.{◌≡◌, ℕ, ◌≤◌, length}
use Rattle.std.specs.List.{slice_index, slice_range}
use Rattle.mine_model.specs.Ranks.{AreFrequencies}
use Rattle.frequency_list.proofs.tally.tally.Given as goal

abbrev pub invariant-loop-number : goal.invariant-loop-number
invariant-loop-number l = record {
  sums : AreFrequencies l.hierarchy.links (slice_range l.db l.from l.number) l.sums.items;
  stamped : (k : ℕ) → slice_index l.stamps.items k ≤ l.number;
  whole_sums : length l.sums.items ≡ l.hierarchy.items;
  whole_stamps : length l.stamps.items ≡ l.hierarchy.items;
}
