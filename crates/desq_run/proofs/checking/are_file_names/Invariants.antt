use Rattle.std.proofs.Common.{ℕ, ◌<◌, []}
use Rattle.std.specs.List.{slice_index_or}
use Rattle.desq_run.proofs.checking.are_file_names.Given as goal
use Rattle.mine_model.specs.Names.{IsFileName}

abbrev pub invariant-loop-number : goal.invariant-loop-number
invariant-loop-number l = (k : ℕ) → k < l.number → IsFileName (slice_index_or l.names k [])
