use Rattle.packed_snapshots.specs.Snapshots.{start}
use Rattle.packed_snapshots.proofs.SnapshotLemmas.{snapshots_behind-packed}
use Rattle.packed_snapshots.proofs.laws.walks_give_what_was_packed.Goals as goal

pub returns : goal.returns
returns c = snapshots_behind-packed start
