use Rattle.std.proofs.Common.{◌≡◌, ◌++◌, replicate}
use Rattle.snapshot_project.proofs.beginning.push_all.Given as goal

abbrev pub invariant-loop-place : goal.invariant-loop-place
invariant-loop-place l = l.weights.items ≡ l.fn.weights.items ++ replicate l._place l.weight
