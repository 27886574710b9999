use Rattle.std.proofs.Common.{ℕ, List, sym, subst, rules}
use Rattle.mining_job.specs.Problems.{Problem}
use Rattle.sequence_grids.specs.Grids.{GridList}
use Rattle.snapshot_project.specs.Layouts.{HasStarts}
use Rattle.snapshot_project.proofs.PackedLemmas.{has-starts}
use Rattle.snapshot_project.proofs.waiting.unpacked.Goals as goal

pub unpacked_by-requires-clause-starts : goal.unpacked_by-requires-clause-starts
unpacked_by-requires-clause-starts c =
    let part : GridList = c.args.part.now in
    subst (HasStarts part) (sym c.as_slice.ensures.value)
    (subst (λ (p : Problem). HasStarts (record part { problem = p }) c.in_ok-made.made.items) c.job.ensures
    (subst (λ (l : List ℕ). HasStarts (record part { problem = c.job.result.now; sequences = l }) c.in_ok-made.made.items) c.sequences.ensures
    (c.in_ok-made.ensures part.bound)))

pub unpacked_by-requires-else-is_empty-clause-starts : goal.unpacked_by-requires-else-is_empty-clause-starts
unpacked_by-requires-else-is_empty-clause-starts c = has-starts c.args.part.now c.starts-starts.result.now c.starts-starts.ensures.starts (search rules)
