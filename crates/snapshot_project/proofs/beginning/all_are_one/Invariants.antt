use Rattle.std.proofs.Common.{◌≡◌, ℕ, ◌<◌}
use Rattle.std.specs.List.{slice_index}
use Rattle.mine_model.specs.Database.{sequence_at}
use Rattle.snapshot_project.proofs.beginning.all_are_one.Given as goal

-- the sequences so far weigh 1
abbrev pub invariant-loop-number : goal.invariant-loop-number
invariant-loop-number l = (k : ℕ) → k < l.number-index → (sequence_at l.job.sequences (slice_index l.sequences k)).weight ≡ 1
