use Rattle.std.proofs.Common.{ℕ, ◌<◌, ◌^◌}
use Rattle.std.specs.List.{slice_index}
use Rattle.walk_places.proofs.places.are_low.Given as goal

abbrev pub invariant-loop-name : goal.invariant-loop-name
invariant-loop-name l = (number : ℕ) → number < l.name-index → slice_index l.names number < 2 ^ 12
