use Rattle.std.proofs.Common.{ℕ, None, Result, Ok, Err, List, map, sym, subst}
use Rattle.std.specs.List.{All, AllZip}
use Rattle.std.specs.Result.{IfOk}
use Rattle.std.proofs.lemmas.Result.{IfOk-weaker}
use Rattle.packed_snapshots.specs.declared.snapshot.PlainSnapshot.{PlainSnapshot}
use Rattle.packed_snapshots.specs.Packed.{IsPacked}
use Rattle.sequence_grids.specs.Grids.{GridList}
use Rattle.waiting_stands.specs.Layouts.{HasStand, IsStandOf as IsLaidOut, AreMarked}
use Rattle.snapshot_project.specs.Snapshots.{SnapshotList, AreSnapshots}
use Rattle.snapshot_project.specs.Stands.{AreStandsOf, plain}
use Rattle.snapshot_project.proofs.PackedLemmas.{part-layout, all-have-stands, stands-back}
use Rattle.snapshot_project.proofs.waiting.unpacked_by.Goals as goal

-- what holds of each in two ways
both-of : {V E X : Type 0} (A : X → Type 0) (P Q : X → V → Type 0) (r : Result V E) → ((x : X) → A x → IfOk r (P x)) → ((x : X) → A x → IfOk r (Q x))
    → IfOk r (λ v. (x : X) → A x → P x v × Q x v)
both-of A P Q (Ok v) one other = λ x a. (one x a, other x a)
both-of A P Q (Err e) one other = tt

pub unpack-requires : goal.unpack-requires
unpack-requires c =
    let part : GridList = c.args.part.now in
    let starts : List ℕ = c.args.starts.now in
    let (ranks, list, are, packed) = c.requires.packed in
    record {
      layout = rw c.sequences.ensures (part-layout part c.requires.is starts c.requires.starts);
      packed = (
        map (plain list.seen) list.snapshots,
        packed,
        subst (λ (l : List ℕ). All (HasStand l starts) (map (plain list.seen) list.snapshots)) (sym c.sequences.ensures)
            (all-have-stands part c.requires.is starts c.requires.starts ranks list are list.seen),
      );
    }

pub returns : goal.returns
returns c =
    let part : GridList = c.args.part.now in
    let starts : List ℕ = c.args.starts.now in
    let A : List PlainSnapshot → Type 0 = λ plains. IsPacked plains c.args.bytes.now in
    IfOk-weaker c.unpack.result
    (λ stands. (plains : List PlainSnapshot) → IsPacked plains c.args.bytes.now → AllZip (IsLaidOut c.sequences.result.now starts) plains stands.items × AreMarked None plains stands.items)
    (λ stands. (ranks : List ℕ) (list : SnapshotList) → AreSnapshots part ranks list → IsPacked (map (plain list.seen) list.snapshots) c.args.bytes.now
    → AreStandsOf part list.snapshots stands.items)
    (λ stands both ranks list are packed.
    let (zip, marks) = both (map (plain list.seen) list.snapshots) packed in
    stands-back part c.requires.is starts c.requires.starts list.seen list.snapshots stands.items are.rising
    (subst (λ (l : List ℕ). AllZip (IsLaidOut l starts) (map (plain list.seen) list.snapshots) stands.items) c.sequences.ensures zip) marks)
    (both-of A (λ plains stands. AllZip (IsLaidOut c.sequences.result.now starts) plains stands.items) (λ plains stands. AreMarked None plains stands.items) c.unpack.result
    c.unpack.ensures.stands c.unpack.ensures.marks)
