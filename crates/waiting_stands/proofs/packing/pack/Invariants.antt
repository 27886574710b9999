use Rattle.std.proofs.Common.{◌≡◌, List, take}
use Rattle.std.specs.List.{All}
use Rattle.packed_snapshots.specs.declared.snapshot.PlainSnapshot.{PlainSnapshot}
use Rattle.packed_snapshots.specs.Snapshots.{last_place}
use Rattle.packed_snapshots.specs.Packed.{IsPacked}
use Rattle.waiting_stands.specs.Layouts.{AreStandsOf, HasSeen}
use Rattle.waiting_stands.proofs.LayoutLemmas.{IsReached}
use Rattle.waiting_stands.proofs.packing.pack.Given as goal

abbrev pub invariant-loop-index : goal.invariant-loop-index
invariant-loop-index l = record {
  packed : (list : List PlainSnapshot) → AreStandsOf l.sequences l.starts list l.stands
      → All (HasSeen l.seen) list → IsPacked (take l.index list) l.bytes.items;
  before : (list : List PlainSnapshot) → AreStandsOf l.sequences l.starts list l.stands
      → last_place (take l.index list) ≡ l.before;
  reached : IsReached l.sequences l.index l.grid l.before;
}
