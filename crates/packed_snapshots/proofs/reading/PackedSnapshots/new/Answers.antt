use Rattle.std.proofs.Common.{◌≡◌, sym, subst}
use Rattle.packed_snapshots.specs.declared.snapshot.Place.{Place}
use Rattle.packed_snapshots.specs.Ahead.{numbers_in, snapshots_behind}
use Rattle.packed_snapshots.specs.Snapshots.{start}
use Rattle.packed_snapshots.proofs.SnapshotLemmas.{snapshots_behind-packed}
use Rattle.packed_snapshots.proofs.reading.PackedSnapshots.new.Goals as goal

pub returns : goal.returns
returns c list is =
    let first : c.default.result ≡ start = (λ i. record { sequence = c.default.ensures.0 i; position = c.default.ensures.1 i }) in
    subst (λ (before : Place). snapshots_behind before (numbers_in c.args.bytes.now) ≡ list) (sym first) (snapshots_behind-packed start list c.args.bytes.now is)
