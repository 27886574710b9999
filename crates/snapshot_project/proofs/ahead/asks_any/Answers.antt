use Rattle.std.proofs.Common.{◌≡◌, ◌∙◌, false, sym}
use Rattle.stand_sums.specs.declared.next_rank.NextRank.{NextRank}
use Rattle.stand_sums.proofs.WritingLemmas.{no_rank}
use Rattle.level_ahead.specs.Counts.{is_asked}
use Rattle.snapshot_project.proofs.PlacedLemmas.{so-far, so-all}
use Rattle.snapshot_project.proofs.ahead.asks_any.Goals as goal

pub loop-next-preserved : goal.loop-next-preserved
loop-next-preserved c =
    so-far (λ (n : NextRank). is_asked c.args.lacks n ≡ false) c.args.found.now c.loop-next.next-index no_rank c.loop-next-test.true c.loop-next.invariant
    (sym c.asks_about.ensures ∙ c.if-asks_about.false)

pub returns : goal.returns
returns c _ = so-all (λ (n : NextRank). is_asked c.args.lacks n ≡ false) c.args.found.now c.loop-next.next-index c.loop-next-test.false c.loop-next.invariant
