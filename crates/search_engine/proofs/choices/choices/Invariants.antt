use Rattle.std.proofs.Common.{◌≡◌, ◌-◌, ◌++◌}
use Rattle.search_engine.specs.Choices.{choices_from, choices_of}
use Rattle.search_engine.proofs.choices.choices.Given as goal

abbrev pub invariant-loop : goal.invariant-loop
invariant-loop l = l.choices.items ++ choices_from (4096 - l.counter) l.state ≡ choices_of l.seed
