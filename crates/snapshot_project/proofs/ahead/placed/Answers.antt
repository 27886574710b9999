use Rattle.std.proofs.Common.{◌≡◌, ◌≤◌, get_or}
use Rattle.stand_sums.specs.declared.next_rank.NextRank.{NextRank}
use Rattle.stand_sums.proofs.WritingLemmas.{no_rank}
use Rattle.snapshot_project.proofs.PlacedLemmas.{so-far, so-all}
use Rattle.snapshot_project.proofs.ahead.placed.Goals.{else-next-rank-via-then-next-rank+else-next, else-next-rank-via-else-next-rank}
use Rattle.snapshot_project.proofs.ahead.placed.Goals as goal

pub loop-next-preserved : goal.loop-next-preserved
loop-next-preserved c =
    let next : NextRank = get_or c.args.found.now c.loop-next.next-index no_rank in
    let this : next.rank ≡ c.args.rank → next.last ≤ next.first = elim c.else-next-rank.branch [
      | else-next-rank-via-then-next-rank+else-next w ↦ λ same. w.if-next.false
      | else-next-rank-via-else-next-rank w ↦ λ same. absurd (w.if-next-rank.false same)
    ] in
    so-far (λ (n : NextRank). n.rank ≡ c.args.rank → n.last ≤ n.first) c.args.found.now c.loop-next.next-index no_rank c.loop-next-test.true c.loop-next.invariant this

pub returns-clause-none : goal.returns-clause-none
returns-clause-none c =
    so-all (λ (n : NextRank). n.rank ≡ c.args.rank → n.last ≤ n.first) c.args.found.now c.loop-next.next-index c.loop-next-test.false c.loop-next.invariant
