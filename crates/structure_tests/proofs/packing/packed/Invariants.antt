use Rattle.std.proofs.Common.{◌≡◌, List}
use Rattle.packed_snapshots.specs.declared.snapshot.PlainSnapshot.{PlainSnapshot}
use Rattle.packed_snapshots.specs.Snapshots.{last_place}
use Rattle.packed_snapshots.specs.Packed.{IsPacked}
use Rattle.structure_tests.proofs.packing.packed.Given as goal

abbrev pub invariant-loop-numbers : goal.invariant-loop-numbers
invariant-loop-numbers l =
    (list : List PlainSnapshot) × IsPacked list l.bytes.items × (last_place list ≡ l.before)
