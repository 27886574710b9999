use Rattle.std.proofs.Common.{◌≡◌, ℕ, List, IfSome}
use Rattle.snapshot_project.specs.Stands.{IsProjected}
use Rattle.layer_tests.proofs.snapshots.follow.Given as goal

abbrev pub invariant-loop-rank : goal.invariant-loop-rank
invariant-loop-rank l = record {
  room : l.room.ranks ≡ l.fn.room.ranks;
  known : IfSome l.room.part (λ known. known ≡ l.part);
  projected : (ranks : List ℕ) × IsProjected l.part l.least ranks l.found;
}
