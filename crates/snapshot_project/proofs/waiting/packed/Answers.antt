use Rattle.std.proofs.Common.{◌≡◌, ◌∙◌, ℕ, ◌<◌, Bool, List, ◌∷◌, [], ◌++◌, map, sym, ap, subst}
use Rattle.std.specs.List.{slice_range}
use Rattle.packed_snapshots.specs.Packed.{IsPacked}
use Rattle.place_walk.specs.declared.stand.Stand.{Stand}
use Rattle.sequence_grids.specs.Grids.{GridList}
use Rattle.waiting_stands.specs.Layouts.{IsLayout, AreStandsOf as AreLaidOut}
use Rattle.snapshot_project.specs.Stands.{StandList, plain}
use Rattle.snapshot_project.proofs.FormLemmas.{piece-stands, piece-packed}
use Rattle.snapshot_project.proofs.PackedLemmas.{part-layout, stands-laid, plain-seen}
use Rattle.snapshot_project.proofs.waiting.packed.Goals as goal

pub pack-requires-clause-layout : goal.pack-requires-clause-layout
pack-requires-clause-layout c =
    subst (λ (l : List ℕ). IsLayout l c.args.starts.now) (sym c.sequences.ensures) (part-layout c.args.part.now c.requires.is c.args.starts.now c.requires.starts)

pub pack-requires-clause-stands : goal.pack-requires-clause-stands
pack-requires-clause-stands c =
    let part : GridList = c.args.part.now in
    let run : List Stand = c.args.run.now.stands in
    let starts : List ℕ = c.args.starts.now in
    let (least, ranks, kept) = c.requires.kept in
    let some : c.args.next.first < c.args.next.last = c.if-next.true in
    let stands = piece-stands part c.args.aim least ranks run c.args.next kept some (c.requires.within some) in
    let laid : AreLaidOut part.sequences starts (map (plain c.sees-seen.result) kept.snapshots.snapshots) (slice_range run c.args.next.first c.args.next.last) =
    stands-laid part c.requires.is starts c.requires.starts (ranks ++ c.args.next.rank ∷ []) kept.snapshots kept.are c.sees-seen.result (slice_range run c.args.next.first c.args.next.last) stands in (
      map (plain c.sees-seen.result) kept.snapshots.snapshots,
      subst (λ (l : List ℕ). AreLaidOut l starts (map (plain c.sees-seen.result) kept.snapshots.snapshots) c.piece-stands.result) (sym c.sequences.ensures)
          (subst (AreLaidOut part.sequences starts (map (plain c.sees-seen.result) kept.snapshots.snapshots)) (sym c.piece-stands.ensures) laid),
    )

pub packed-requires : goal.packed-requires
packed-requires c =
    let part : GridList = c.args.part.now in
    let run : List Stand = c.args.run.now.stands in
    let starts : List ℕ = c.args.starts.now in
    let (least, ranks, kept) = c.requires.kept in
    let some : c.args.next.first < c.args.next.last = c.if-next.true in
    let stands = piece-stands part c.args.aim least ranks run c.args.next kept some (c.requires.within some) in
    let laid : AreLaidOut part.sequences starts (map (plain c.sees-seen.result) kept.snapshots.snapshots) (slice_range run c.args.next.first c.args.next.last) =
    stands-laid part c.requires.is starts c.requires.starts (ranks ++ c.args.next.rank ∷ []) kept.snapshots kept.are c.sees-seen.result (slice_range run c.args.next.first c.args.next.last) stands in (
      map (plain c.sees-seen.result) kept.snapshots.snapshots,
      c.in_ok-bytes.ensures (map (plain c.sees-seen.result) kept.snapshots.snapshots)
          (subst (λ (l : List ℕ). AreLaidOut l starts (map (plain c.sees-seen.result) kept.snapshots.snapshots) c.piece-stands.result) (sym c.sequences.ensures)
          (subst (AreLaidOut part.sequences starts (map (plain c.sees-seen.result) kept.snapshots.snapshots)) (sym c.piece-stands.ensures) laid))
          (plain-seen c.sees-seen.result kept.snapshots.snapshots),
    )

pub returns-in_ok-bytes : goal.returns-in_ok-bytes
returns-in_ok-bytes c = λ least ranks kept.
    let part : GridList = c.args.part.now in
    let run : List Stand = c.args.run.now.stands in
    let starts : List ℕ = c.args.starts.now in
    let some : c.args.next.first < c.args.next.last = c.if-next.true in
    let stands = piece-stands part c.args.aim least ranks run c.args.next kept some (c.requires.within some) in
    let laid : AreLaidOut part.sequences starts (map (plain c.sees-seen.result) kept.snapshots.snapshots) (slice_range run c.args.next.first c.args.next.last) =
    stands-laid part c.requires.is starts c.requires.starts (ranks ++ c.args.next.rank ∷ []) kept.snapshots kept.are c.sees-seen.result (slice_range run c.args.next.first c.args.next.last) stands in
    let bytes : List ℕ = c.in_ok-bytes.bytes.items in
    let packed : IsPacked (map (plain c.sees-seen.result) kept.snapshots.snapshots) bytes =
    c.in_ok-bytes.ensures (map (plain c.sees-seen.result) kept.snapshots.snapshots)
    (subst (λ (l : List ℕ). AreLaidOut l starts (map (plain c.sees-seen.result) kept.snapshots.snapshots) c.piece-stands.result) (sym c.sequences.ensures)
    (subst (AreLaidOut part.sequences starts (map (plain c.sees-seen.result) kept.snapshots.snapshots)) (sym c.piece-stands.ensures) laid))
    (plain-seen c.sees-seen.result kept.snapshots.snapshots) in
    let seen : c.sees-seen.result ≡ kept.snapshots.seen = c.sees-seen.ensures ∙ kept.seen in
    piece-packed part c.args.aim least ranks run c.args.next kept c.packed.result (ap (λ (l : StandList). l.seen) c.packed.ensures ∙ seen) (ap (λ (l : StandList). l.support) c.packed.ensures)
    (ap (λ (l : StandList). l.next) c.packed.ensures) bytes (ap (λ (l : StandList). l.bytes) c.packed.ensures)
    (subst (λ (b : Bool). IsPacked (map (plain b) kept.snapshots.snapshots) bytes) seen packed)
