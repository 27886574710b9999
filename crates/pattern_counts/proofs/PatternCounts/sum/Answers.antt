use Rattle.std.proofs.Common.{◌∙◌}
use Rattle.std.proofs.lemmas.Option.{get_or_from_slice_get}
use Rattle.pattern_counts.proofs.SumLemmas.{sum_at}
use Rattle.pattern_counts.proofs.PatternCounts.sum.Goals as goal

pub returns-clause-of_list : goal.returns-clause-of_list
returns-clause-of_list c = rw (← c.self.view_is) (λ list at.
    sum_at c.self.inside.counts.tally.lists c.self.inside.counts.tally.sums c.args.number list c.sum.ensures.tally.distinct at
    ∙ get_or_from_slice_get c.self.inside.counts.tally.sums c.args.number c.sum.result 0 c.sum.ensures.sum)
