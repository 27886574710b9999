use Rattle.std.proofs.Common.{◌≡◌, length, [], All}
use Rattle.std.specs.Global.{Vec}
use Rattle.std.proofs.Common.{ℕ}
use Rattle.pivot_partition.proofs.splitting.push_empty.Given as goal

abbrev pub invariant-loop-place : goal.invariant-loop-place
invariant-loop-place l = record {
  long : length l.lists.items ≡ l._place;
  empty : All (λ (list : Vec ℕ). list.items ≡ []) l.lists.items;
}
