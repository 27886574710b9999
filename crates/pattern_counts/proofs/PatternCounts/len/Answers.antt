use Rattle.pattern_counts.proofs.SumLemmas.{held_or_nothing}
use Rattle.pattern_counts.proofs.PatternCounts.len.Goals as goal

pub returns-clause-all : goal.returns-clause-all
returns-clause-all c = held_or_nothing c.args.self.now
