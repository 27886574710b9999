-- Which snapshots a list has.
use Rattle.std.proofs.Common.{◌≡◌, ◌↔◌, ℕ, inl, inr, List, [], ◌∷◌, ◌++◌, refl, subst}
use Rattle.std.specs.List.{Contains}
use Rattle.mine_model.proofs.RankedLemmas.{ranked-push}
use Rattle.mining_job.specs.Problems.{items_of}
use Rattle.sequence_grids.specs.Grids.{GridList}
use Rattle.snapshot_project.specs.declared.snapshot.Snapshot.{Snapshot}
use Rattle.snapshot_project.specs.Extensions.{GrowsBehind}
use Rattle.snapshot_project.specs.Snapshots.{IsPart, IsOpen, SnapshotList, AreSnapshots}
use Rattle.snapshot_project.proofs.NeedLemmas.{needed-append}
use Rattle.snapshot_project.proofs.SnapshotLemmas.{written-behind}
use Rattle.snapshot_project.proofs.OpenLemmas.{writes-begins}
use Rattle.snapshot_project.proofs.WalkLemmas.{goes-seen}
use Rattle.snapshot_project.proofs.ExtensionLemmas.{ranked-allowed, grows-next}

module _ (part : GridList) (ranks : List ℕ) (list : SnapshotList) (are : AreSnapshots part ranks list) where
  -- more is written from a snapshot of a sequence exactly where the sequence has a longer pattern
  pub open-longer : IsPart part → (i : ℕ) → Contains part.sequences i
      → ((snapshot : Snapshot) × Contains list.snapshots snapshot × (snapshot.sequence ≡ i) × IsOpen part are.prefix snapshot)
      ↔ ((rank : ℕ) × GrowsBehind part (ranks ++ rank ∷ []) (items_of part.problem i))
  open-longer is i inside = (
    (λ (snapshot, held, same, on).
        let (known, at) = are.right snapshot held in
        let allowed = ranked-allowed part.problem.ranking part.bound are.prefix ranks are.ranked are.top in
        let (v, (rank, has, few), behind) =
        written-behind part.problem part.bound is.whole (items_of part.problem snapshot.sequence) are.prefix allowed snapshot.position snapshot.state at on in (
          rank,
          subst (λ (k : ℕ). GrowsBehind part (ranks ++ rank ∷ []) (items_of part.problem k)) same
              (are.prefix ++ v ∷ [], ranked-push part.problem.ranking.order are.prefix ranks v rank are.ranked has, behind),
        )),
    (λ (rank, grows).
        let (position, state, writes) = (grows-next part is.whole are.prefix ranks are.ranked are.top (items_of part.problem i) rank).0 grows in
        let (start, from, early, at, on) = writes-begins part.problem is.whole part.bound (items_of part.problem i) are.prefix rank position state writes in
        let here : Snapshot = record { sequence = i; position = start; state = from } in
        (here, are.all here (inside, at) on, refl, on)),
  )

  -- more is written from each
  pub held-open : (snapshot : Snapshot) → Contains list.snapshots snapshot → IsOpen part are.prefix snapshot
  held-open snapshot held =
      let (v, more, path, allowed, met) = are.on snapshot held in (
        v,
        more,
        path,
        allowed,
        (needed-append part.problem.ranking part.bound.need are.prefix (v ∷ more)).1
            (elim (goes-seen part.problem.ranking part.bound.need list.seen (v ∷ more) met) [ inl seen ↦ inl (are.seen.0 seen) | inr holds ↦ inr holds ]),
      )
