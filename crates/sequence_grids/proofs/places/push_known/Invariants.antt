use Rattle.std.proofs.Common.{ℕ, ◌+◌, ◌≤◌, ◌≡◌, drop, vec_len, vec_capacity}
use Rattle.sequence_grids.specs.Kinds.{Extends}
use Rattle.sequence_grids.specs.Places.{HasTriple, AreFilled}
use Rattle.sequence_grids.proofs.places.push_known.Given as goal

abbrev pub invariant-loop-position : goal.invariant-loop-position
invariant-loop-position l = record {
  less : l.position ≤ l.count;
  triple : HasTriple l.job l.bound l.tables.triples (drop l.position l.items) l.triple;
  capacity : vec_capacity l.places ≡ vec_capacity l.fn.places;
  room : vec_len l.places + l.position ≤ vec_capacity l.places;
  grow : Extends l.fn.places.items l.places.items;
  filled : (from : ℕ) → AreFilled l.job l.bound l.tables l.kinds l.fn.places.items from l.items l.count
      → AreFilled l.job l.bound l.tables l.kinds l.places.items from l.items l.position;
}

abbrev pub decreases-loop-position : goal.decreases-loop-position
decreases-loop-position l = l.position
