use Rattle.std.proofs.Common.{◌-◌, List, length}
use Rattle.place_walk.specs.declared.visit.Visit.{Visit}
use Rattle.stand_sums.specs.Sequences.{AreSequences}
use Rattle.mask_sums.specs.Kept.{lacks}
use Rattle.mask_sums.proofs.RunLemmas.{AreCountedTo}
use Rattle.mask_sums.proofs.counting.count_all.Given as goal

abbrev pub invariant-sequences : goal.invariant-sequences
invariant-sequences g l = (sequences : List (List Visit)) → AreSequences l.visits sequences
    → AreCountedTo (g.T.Outputs.ranks l.table) (lacks l.lacking) l.visits l.from sequences l.initial.masked l.masked

abbrev pub decreases-sequences : goal.decreases-sequences
decreases-sequences g l = length l.visits - l.from
