use Rattle.prefix_sieve.proofs.SieveLemmas.{passes_all, passes_counted, passes_frequent}
use Rattle.prefix_sieve.proofs.laws.each_prefix_of_a_frequent_pattern_passes.Goals as goal

pub returns-clause-alive : goal.returns-clause-alive
returns-clause-alive c = passes_all

pub returns-clause-frequent : goal.returns-clause-frequent
returns-clause-frequent c = passes_frequent

pub returns-clause-counted : goal.returns-clause-counted
returns-clause-counted c = passes_counted
