use Rattle.std.proofs.Common.{◌∙◌}
use Rattle.candidate_pairs.proofs.TellingLemmas.{told-more}
use Rattle.candidate_pairs.proofs.telling.sum_of_told.Goals as goal

pub loop-told-preserved : goal.loop-told-preserved
loop-told-preserved c =
    c.saturating_add-sum.ensures ∙ told-more c.args.shares.now c.loop-told.told-index c.loop-told.sum 0 c.loop-told-test.true c.loop-told.invariant
