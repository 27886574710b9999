use Rattle.std.proofs.Common.{◌≡◌, ◌-◌, List, length}
use Rattle.place_walk.specs.declared.visit.Visit.{Visit}
use Rattle.place_walk.specs.Courses.{course_of}
use Rattle.stand_sums.specs.Sequences.{AreSequences}
use Rattle.level_ahead.proofs.AddLemmas.{AreAddedTo}
use Rattle.level_ahead.proofs.counting.count_all.Given as goal

abbrev pub invariant-sequences : goal.invariant-sequences
invariant-sequences g l = record {
  rows : l.memo.rows ≡ l.fn.memo.rows;
  moves : l.memo.moves ≡ l.fn.memo.moves;
  sets : length l.gathered.sets.items ≡ length l.fn.gathered.sets.items;
  room : length l.counts ≡ length l.fn.counts;
  added : (sequences : List (List Visit)) → AreSequences l.visits sequences
      → AreAddedTo (course_of l.fn.memo l.places) (g.T.Outputs.ranks l.table) l.lacking l.asked l.visits l.from sequences l.fn.counts l.counts;
}

abbrev pub decreases-sequences : goal.decreases-sequences
decreases-sequences g l = length l.visits - l.from
