use Rattle.std.proofs.Common.{◌≡◌, List, ◌++◌, None}
use Rattle.std.specs.List.{AllZip}
use Rattle.packed_snapshots.specs.declared.snapshot.PlainSnapshot.{PlainSnapshot}
use Rattle.packed_snapshots.specs.Packed.{IsPacked}
use Rattle.waiting_stands.specs.Layouts.{IsStandOf, AreMarked}
use Rattle.waiting_stands.proofs.MarkLemmas.{IsReachedBy}
use Rattle.waiting_stands.proofs.unpacking.unpack.Given as goal

abbrev pub invariant-loop-next : goal.invariant-loop-next
invariant-loop-next l = record {
  seen : (list : List PlainSnapshot) → IsPacked list l.bytes → l.yielded ++ l.next-iterator ≡ list;
  stands : AllZip (IsStandOf l.sequences l.starts) l.yielded l.stands.items;
  marks : AreMarked None l.yielded l.stands.items;
  reached : IsReachedBy l.sequences l.yielded l.first l.grid;
}
