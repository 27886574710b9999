-- The forms in which what is kept of a prefix waits.
use Rattle.std.proofs.Common.{◌≡◌, ℕ, ◌-◌, ◌≤◌, ◌<◌, inl, inr, Bool, Option, None, Some, List, [], ◌∷◌, ◌++◌, length, map, drop, min, sym, ap, ◌∙◌, subst, arith, length-take, length-drop}
use Rattle.std.specs.List.{AllZip, slice_range}
use Rattle.mine_model.proofs.ListLemmas.{Contains-first, Contains-other}
use Rattle.packed_snapshots.specs.Packed.{IsPacked}
use Rattle.place_walk.specs.declared.stand.Stand.{Stand}
use Rattle.sequence_grids.specs.Grids.{GridList}
use Rattle.stand_sums.specs.declared.aim.Aim.{Aim}
use Rattle.stand_sums.specs.declared.next_rank.NextRank.{NextRank}
use Rattle.snapshot_project.specs.declared.next_rank.NextRank.{NextRank as Next}
use Rattle.snapshot_project.specs.Longer.{kept_of, AreKept, IsKeptOf}
use Rattle.snapshot_project.specs.Snapshots.{SnapshotList, AreSnapshots}
use Rattle.snapshot_project.specs.Stands.{AreStandsOf, TellNext, StandList, IsProjected, standing, plain}

module _ (part : GridList) (least : ℕ) (ranks : List ℕ) (kept : StandList) (projected : IsProjected part least ranks kept) where
  -- by stands
  pub as-stands : kept.next ≡ None → kept.bytes ≡ None → IsProjected part least ranks (standing kept.seen kept.support kept.stands)
  as-stands untold loose = record {
    snapshots = projected.snapshots;
    are = projected.are;
    seen = projected.seen;
    support = projected.support;
    stands = subst (TellNext part least ranks projected.snapshots kept.stands None) loose
        (subst (λ (next : Option (List Next)). TellNext part least ranks projected.snapshots kept.stands next kept.bytes) untold projected.stands);
  }

  -- by bytes
  pub as-bytes : kept.next ≡ None → (bytes : List ℕ) → kept.bytes ≡ Some bytes → IsPacked (map (plain projected.snapshots.seen) projected.snapshots.snapshots) bytes
  as-bytes untold bytes some =
      subst (TellNext part least ranks projected.snapshots kept.stands None) some
      (subst (λ (next : Option (List Next)). TellNext part least ranks projected.snapshots kept.stands next kept.bytes) untold projected.stands)

  -- which are made stands again
  pub from-bytes : (stands : List Stand) → AreStandsOf part projected.snapshots.snapshots stands → IsProjected part least ranks (standing kept.seen kept.support stands)
  from-bytes stands are = record {
    snapshots = projected.snapshots;
    are = projected.are;
    seen = projected.seen;
    support = projected.support;
    stands = inl are;
  }

-- what is kept of each as stands is told of it
pub zip-kept : (part : GridList) (aim : Aim) (least : ℕ) (ranks : List ℕ) (run : List Stand) (found : List NextRank) → AreKept part aim least ranks run found
    → AllZip (IsKeptOf part least ranks) found (map (kept_of aim run) found)
zip-kept part aim least ranks run [] kept = tt
zip-kept part aim least ranks run (next ∷ found) kept =
    (kept next (Contains-first next found), zip-kept part aim least ranks run found (λ other held. kept other (Contains-other next found other held)))

-- a piece that has places has stands
piece-some : (run : List Stand) (from end : ℕ) → from < end → end ≤ length run → slice_range run from end ≡ [] → ⊥
piece-some run from end some within none =
    let cut : length (slice_range run from end) ≡ min (end - from) (length (drop from run)) = length-take (end - from) (drop from run) in
    let rest : length (drop from run) ≡ length run - from = length-drop from run in
    let nothing : length (slice_range run from end) ≡ 0 = ap (λ (l : List Stand). length l) none in
    omega arith

module _ (part : GridList) (aim : Aim) (least : ℕ) (ranks : List ℕ) (run : List Stand) (next : NextRank)
    (kept : IsKeptOf part least ranks next (kept_of aim run next)) where
  -- the stands of such a piece are those of the snapshots of the prefix
  pub piece-stands : next.first < next.last → next.last ≤ length run → AreStandsOf part kept.snapshots.snapshots (slice_range run next.first next.last)
  piece-stands some within = elim kept.stands [
    | inl are ↦ are
    | inr light ↦ absurd (piece-some run next.first next.last some within light.0)
  ]

  -- and their bytes are told of it
  pub piece-packed : (list : StandList) → list.seen ≡ kept.snapshots.seen → list.support ≡ next.support → list.next ≡ None → (bytes : List ℕ) → list.bytes ≡ Some bytes
      → IsPacked (map (plain kept.snapshots.seen) kept.snapshots.snapshots) bytes → IsKeptOf part least ranks next list
  piece-packed list seen support untold bytes some packed = record {
    snapshots = kept.snapshots;
    are = kept.are;
    seen = seen;
    support = support ∙ kept.support;
    stands = subst (TellNext part least (ranks ++ next.rank ∷ []) kept.snapshots list.stands list.next) (sym some)
        (subst (λ (told : Option (List Next)). TellNext part least (ranks ++ next.rank ∷ []) kept.snapshots list.stands told (Some bytes)) (sym untold) packed);
  }

-- what was unpacked stands for what is kept
pub bytes-standing : (part : GridList) (least : ℕ) (ranks : List ℕ) (kept : StandList) (projected : IsProjected part least ranks kept) → kept.next ≡ None
    → (seen : Bool) → seen ≡ kept.seen → (bytes : List ℕ) → kept.bytes ≡ Some bytes → (stands told : List Stand) → told ≡ stands
    → ((ranks : List ℕ) (list : SnapshotList) → AreSnapshots part ranks list → IsPacked (map (plain list.seen) list.snapshots) bytes → AreStandsOf part list.snapshots stands)
    → IsProjected part least ranks (standing seen kept.support told)
bytes-standing part least ranks kept projected untold seen same bytes some stands told is unpacked =
    let are : AreStandsOf part projected.snapshots.snapshots stands =
    unpacked ranks projected.snapshots projected.are (as-bytes part least ranks kept projected untold bytes some) in
    subst (λ (b : Bool). IsProjected part least ranks (standing b kept.support told)) (sym same)
    (subst (λ (l : List Stand). IsProjected part least ranks (standing kept.seen kept.support l)) (sym is) (from-bytes part least ranks kept projected stands are))

-- and so do its stands
pub stands-standing : (part : GridList) (least : ℕ) (ranks : List ℕ) (kept : StandList) (projected : IsProjected part least ranks kept) → kept.next ≡ None → kept.bytes ≡ None
    → (seen : Bool) → seen ≡ kept.seen → (told : List Stand) → told ≡ kept.stands → IsProjected part least ranks (standing seen kept.support told)
stands-standing part least ranks kept projected untold loose seen same told is =
    subst (λ (b : Bool). IsProjected part least ranks (standing b kept.support told)) (sym same)
    (subst (λ (l : List Stand). IsProjected part least ranks (standing kept.seen kept.support l)) (sym is) (as-stands part least ranks kept projected untold loose))
