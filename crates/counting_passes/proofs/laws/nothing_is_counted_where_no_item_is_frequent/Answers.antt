use Rattle.sieve_passes.proofs.LevelLemmas.{levels-none}
use Rattle.counting_passes.proofs.EmptyLemmas.{nothing-counted}
use Rattle.counting_passes.proofs.laws.nothing_is_counted_where_no_item_is_frequent.Goals as goal

pub returns-clause-levels : goal.returns-clause-levels
returns-clause-levels c = levels-none

pub returns-clause-counted : goal.returns-clause-counted
returns-clause-counted c = nothing-counted
