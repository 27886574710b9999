use Rattle.packed_snapshots.proofs.SnapshotLemmas.{IsPacked-one}
use Rattle.packed_snapshots.proofs.laws.equal_bytes_hold_equal_snapshots.Goals as goal

pub returns : goal.returns
returns c = IsPacked-one
