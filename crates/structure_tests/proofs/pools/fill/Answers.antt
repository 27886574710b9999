use Rattle.std.proofs.Common.{◌∙◌}
use Rattle.structure_tests.proofs.pools.fill.Goals as goal

pub put-requires-after_bounds : goal.put-requires-after_bounds
put-requires-after_bounds c = λ _. c.labels.invariant.2 ∙ c.requires.ground
