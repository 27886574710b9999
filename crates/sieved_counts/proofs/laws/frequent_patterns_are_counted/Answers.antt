use Rattle.prefix_sieve.specs.Hashes.{hash_of}
use Rattle.sieved_counts.proofs.LawLemmas.{pattern-held, sum-counted}
use Rattle.sieved_counts.proofs.laws.frequent_patterns_are_counted.Goals as goal

pub returns-clause-all : goal.returns-clause-all
returns-clause-all c = λ d order levels prefixes are counted held pattern list ranked support counts enough some.
    pattern-held d order levels prefixes counted pattern list ranked
    (c.each_prefix_of_a_frequent_pattern_passes.ensures.frequent d order hash_of levels are pattern list ranked support counts enough)
    support counts some

pub returns-clause-each : goal.returns-clause-each
returns-clause-each c = sum-counted
