use Rattle.std.proofs.Common.{◌≡◌, ◌-◌, ◌≤◌, List, length}
use Rattle.place_walk.specs.declared.visit.Visit.{Visit}
use Rattle.stand_sums.specs.Sequences.{AreSequences}
use Rattle.stand_sums.specs.Kept.{AreSums}
use Rattle.stand_sums.proofs.PartLemmas.{AreCountedTo}
use Rattle.stand_sums.proofs.counting.count_all.Given as goal

abbrev pub invariant-sequences : goal.invariant-sequences
invariant-sequences g l = record {
  room : length l.sums ≡ length l.initial.sums;
  sums : AreSums l.number l.sums l.touched.items;
  within : l.from ≤ length l.visits;
  counted : (sequences : List (List Visit)) → AreSequences l.visits sequences
      → AreCountedTo (g.T.Outputs.ranks l.table) l.aim l.weights l.visits l.from sequences l.initial.sums l.sums;
}

abbrev pub decreases-sequences : goal.decreases-sequences
decreases-sequences g l = length l.visits - l.from
