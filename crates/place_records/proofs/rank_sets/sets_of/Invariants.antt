use Rattle.place_records.specs.Ranks.{AreSetsTo}
use Rattle.place_records.proofs.rank_sets.sets_of.Given as goal

abbrev pub invariant-loop-row : goal.invariant-loop-row
invariant-loop-row l = AreSetsTo l.kinds l.sets.items l.row
