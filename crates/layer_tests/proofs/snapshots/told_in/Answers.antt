use Rattle.std.proofs.Common.{[]}
use Rattle.layer_tests.proofs.snapshots.told_in.Goals as goal

pub told_of-requires-clause-projected : goal.told_of-requires-clause-projected
told_of-requires-clause-projected c = ([], c.in_ok-part.ensures.start c.max.result)
