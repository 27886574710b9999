use Rattle.std.proofs.Common.{◌≡◌, ℕ, arith}
use Rattle.mine_model.specs.Database.{sequence_at}
use Rattle.snapshot_project.proofs.BeginLemmas.{all-by-place}
use Rattle.snapshot_project.proofs.beginning.all_are_one.Goals as goal

pub returns : goal.returns
returns c = λ _. all-by-place (λ (i : ℕ). (sequence_at c.args.job.now.sequences i).weight ≡ 1) c.args.sequences.now
    (λ k inside. c.loop-number.invariant k (omega (arith, inside, c.loop-number-test.false)))
