use Rattle.place_records.specs.Twins.{AreTargets}
use Rattle.place_records.proofs.twins.targets_below.Given as goal

abbrev pub invariant-loop-k : goal.invariant-loop-k
invariant-loop-k g l = AreTargets l.k l.targets
