use Rattle.std.proofs.Common.{◌<◌}
use Rattle.std.specs.List.{AllByRecursion}
use Rattle.layer_tests.proofs.data.database.Given as goal

abbrev pub invariant-loop-weight : goal.invariant-loop-weight
invariant-loop-weight l = AllByRecursion (λ s. AllByRecursion (λ t. t.0 < 11) s.items) l.db

abbrev pub invariant-loop : goal.invariant-loop
invariant-loop l = AllByRecursion (λ s. AllByRecursion (λ t. t.0 < 11) s.items) l.db
