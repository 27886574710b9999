-- Lists of snapshots of a prefix, with all from which more can be written.
use Rattle.std.proofs.Common.{◌≡◌, ◌↔◌, ℕ, zero, suc, ◌+◌, ◌≤◌, ◌<◌, inl, inr, Bool, false, Option, Some, None, List, [], ◌∷◌, ◌++◌, length, map, drop, refl, sym, ap, ◌∙◌, subst, arith}
use Rattle.std.specs.List.{AllPairs, AllByRecursion, Contains, slice_get}
use Rattle.std.proofs.lemmas.Bool.{cases_lt}
use Rattle.std.proofs.lemmas.Option.{slice_get-get_or}
use Rattle.mine_model.specs.declared.item.Item.{Item}
use Rattle.mine_model.specs.Database.{sequence_at}
use Rattle.mine_model.specs.Support.{Sequence}
use Rattle.mine_model.specs.Ranks.{HasRank}
use Rattle.mine_model.proofs.ElementLemmas.{get-some, get-held}
use Rattle.mine_model.proofs.FrequencyLemmas.{Counts-none}
use Rattle.mine_model.proofs.ListLemmas.{of_both, Contains-none}
use Rattle.mine_model.proofs.RankedLemmas.{ranked-push}
use Rattle.mining_job.specs.Problems.{IsWhole, items_of}
use Rattle.sequence_grids.specs.Grids.{GridList, HoldsNeeded, Completes, Continues}
use Rattle.sequence_grids.proofs.GridLemmas.{continues-unseen}
use Rattle.snapshot_project.specs.declared.snapshot.Snapshot.{Snapshot}
use Rattle.snapshot_project.specs.Aims.{sees, goes}
use Rattle.snapshot_project.specs.Snapshots.{HasSnapshot, WritesOn, IsSnapshotOf, IsOpen, ComesBefore, SnapshotList, MayGoOn, AreSnapshots}
use Rattle.snapshot_project.specs.Extensions.{sequences_of, GrowsBehind, GeneratesWithin, IsSupportOf}
use Rattle.snapshot_project.specs.Live.{WritesNext, OpensNext, AreSnapshotsOf, IsGroup}
use Rattle.snapshot_project.proofs.NeedLemmas.{needed-none, needed-longer}
use Rattle.snapshot_project.proofs.SnapshotLemmas.{snapshot-start}
use Rattle.snapshot_project.proofs.LiveLemmas.{longer-first, longer-next}
use Rattle.snapshot_project.proofs.OpenLemmas.{open-goes, writes-begins}
use Rattle.snapshot_project.proofs.ExtensionLemmas.{grows-shorter, grows-next, generates-next, generates-none}
use Rattle.snapshot_project.proofs.WalkLemmas.{sees-tells}

-- where nothing that is needed was seen, a path goes on by what it writes
pub goes-unseen : (need : Option ℕ) → goes false need ≡ false
goes-unseen None = refl
goes-unseen (Some need) = refl

module _ (part : GridList) (prefix : List Item) (snapshots : List Snapshot) (are : AreSnapshotsOf part prefix snapshots) where
  -- a sequence between two places of the list has no snapshot in it
  pub none-between : (cut sequence : ℕ)
      → ((k : ℕ) (snapshot : Snapshot) → k < cut → slice_get snapshots k ≡ Some snapshot → snapshot.sequence < sequence)
      → ((k : ℕ) (snapshot : Snapshot) → cut ≤ k → slice_get snapshots k ≡ Some snapshot → sequence < snapshot.sequence)
      → (snapshot : Snapshot) → Contains snapshots snapshot → snapshot.sequence ≡ sequence → ⊥
  none-between cut sequence before behind snapshot (k, inside, is) same =
      let at : slice_get snapshots k ≡ Some snapshot = slice_get-get_or snapshots k snapshot inside ∙ ap Some is in
      elim (cases_lt k cut) [
        | inl below ↦ let less = before k snapshot below at in omega arith
        | inr above ↦ let more = behind k snapshot above at in omega arith
      ]

  module _ (sequence from end : ℕ) (group : IsGroup snapshots sequence from end) where
    -- the sequence of a group is one of the part
    pub group-known : Contains part.sequences sequence
    group-known =
        let some : from < end = group.some in
        let within : end ≤ length snapshots = group.within in
        let (first, at) = get-some snapshots from (omega arith) in
        let same : first.sequence ≡ sequence = (group.exact from first at).1 (omega arith, some) in
        let (known, has) = are.right first (get-held snapshots from first at) in
        subst (Contains part.sequences) same known

    -- a group has snapshots of its sequence
    pub group-right : (position state k : ℕ) → slice_get snapshots k ≡ Some (record { sequence = sequence; position = position; state = state })
        → HasSnapshot part.problem part.bound (items_of part.problem sequence) prefix position state
    group-right position state k at =
        let here : Snapshot = record { sequence = sequence; position = position; state = state } in
        let (known, has) = are.right here (get-held snapshots k here at) in has

    -- and all of them from which more can be written
    pub group-all : (position state : ℕ) → HasSnapshot part.problem part.bound (items_of part.problem sequence) prefix position state
        → WritesOn part.problem part.bound prefix (drop position (items_of part.problem sequence)) state
        → (k : ℕ) × (from ≤ k) × (k < end) × (slice_get snapshots k ≡ Some (record { sequence = sequence; position = position; state = state }))
    group-all position state has on =
        let here : Snapshot = record { sequence = sequence; position = position; state = state } in
        let (k, inside, is) = are.all here (group-known, has) on in
        let at : slice_get snapshots k ≡ Some here = slice_get-get_or snapshots k here inside ∙ ap Some is in
        let (least, most) = (group.exact k here at).0 refl in
        (k, least, most, at)

module _ (part : GridList) (whole : IsWhole part.problem) where
  -- ---- sequences that are not in the list

  module _ (ranks : List ℕ) (list : SnapshotList) (are : AreSnapshots part ranks list) (i : ℕ) (inside : Contains part.sequences i) where
    -- what is written in a sequence is written behind a snapshot in the list
    pub writes-listed : (rank position state : ℕ) → WritesNext part.problem part.bound (items_of part.problem i) are.prefix rank position state
        → (snapshot : Snapshot) × Contains list.snapshots snapshot × (snapshot.sequence ≡ i)
    writes-listed rank position state writes =
        let (start, from, early, snapshot, on) = writes-begins part.problem whole part.bound (items_of part.problem i) are.prefix rank position state writes in
        let here : Snapshot = record { sequence = i; position = start; state = from } in
        (here, are.all here (inside, snapshot) on, refl)

    module _ (rank : ℕ) (none : (snapshot : Snapshot) → Contains list.snapshots snapshot → snapshot.sequence ≡ i → ⊥) where
      -- a sequence without snapshots in the list does not grow by a rank
      pub grows-not : GrowsBehind part (ranks ++ rank ∷ []) (items_of part.problem i) → ⊥
      grows-not grows =
          let (position, state, writes) = (grows-next part whole are.prefix ranks are.ranked are.top (items_of part.problem i) rank).0 grows in
          let (snapshot, held, same) = writes-listed rank position state writes in
          none snapshot held same

      -- and the prefix with it is no pattern of the sequence
      pub generates-not : GeneratesWithin part (ranks ++ rank ∷ []) (items_of part.problem i) → ⊥
      generates-not generates =
          let (position, state, (writes, holds, ends)) = (generates-next part whole are.prefix ranks are.ranked are.top (items_of part.problem i) rank).0 generates in
          let (snapshot, held, same) = writes-listed rank position state writes in
          none snapshot held same

  -- ---- new lists

  none-generates : (numbers : List ℕ)
      → AllByRecursion (λ (s : Sequence Item). GeneratesWithin part [] s.items → ⊥) (map (λ (i : ℕ). sequence_at part.problem.sequences i) numbers)
  none-generates [] = tt
  none-generates (i ∷ numbers) = (generates-none part (items_of part.problem i), none-generates numbers)

  -- the snapshots of the empty prefix, which generates nothing
  pub snapshots-start : (list : SnapshotList) → list.seen ≡ false → list.support ≡ 0 → AllPairs ComesBefore list.snapshots
      → ((snapshot : Snapshot) → Contains list.snapshots snapshot ↔ (Contains part.sequences snapshot.sequence × (snapshot.position ≡ 0) × (snapshot.state ≡ 0)
      × Completes part.problem part.bound (items_of part.problem snapshot.sequence) 0 false))
      → AreSnapshots part [] list
  snapshots-start list unseen nothing rising exact = record {
    prefix = [];
    ranked = tt;
    top = tt;
    seen = ((λ seen. absurd (cc)), (λ holds. absurd (needed-none part.problem.ranking part.bound.need holds)));
    rising = rising;
    right = λ snapshot held.
        let (known, first, start, completes) = (exact snapshot).0 held in
        (known, (snapshot-start part.problem part.bound (items_of part.problem snapshot.sequence) snapshot.position snapshot.state).1 (first, start, completes));
    on = λ snapshot held.
        let (known, first, start, completes) = (exact snapshot).0 held in
        let items = items_of part.problem snapshot.sequence in
        let unseen_goes : goes list.seen part.bound.need ≡ false = ap (λ (b : Bool). goes b part.bound.need) unseen ∙ goes-unseen part.bound.need in
        subst (Continues part.problem part.bound (drop snapshot.position items) snapshot.state) (sym unseen_goes)
        (subst (λ (q : ℕ). Continues part.problem part.bound (drop snapshot.position items) q false) (sym start)
        (subst (λ (k : ℕ). Continues part.problem part.bound (drop k items) 0 false) (sym first)
        ((continues-unseen part.problem part.bound items 0).0 completes)));
    all = λ snapshot is on.
        let (known, has) = is in
        let (first, start, completes) = (snapshot-start part.problem part.bound (items_of part.problem snapshot.sequence) snapshot.position snapshot.state).0 has in
        (exact snapshot).1 (known, first, start, completes);
    support = subst (IsSupportOf part []) (sym nothing) (Counts-none (GeneratesWithin part []) (sequences_of part) (none-generates part.sequences));
  }

  module _ (ranks : List ℕ) (list : SnapshotList) (are : AreSnapshots part ranks list) (w : Item) (rank : ℕ)
      (has : HasRank part.problem.ranking.order w rank) (few : rank ≤ part.bound.top) where
    opens-from : (items : List Item) (position state : ℕ) → HasSnapshot part.problem part.bound items (are.prefix ++ w ∷ []) position state
        → WritesOn part.problem part.bound (are.prefix ++ w ∷ []) (drop position items) state
        → OpensNext part.problem part.bound items are.prefix list.seen rank position state
    opens-from items zero state at on = absurd (longer-first part.problem whole part.bound items are.prefix w state at)
    opens-from items (suc before) state at on =
        let is : suc before ≡ before + 1 = omega arith in
        let tells = sees-tells (HoldsNeeded part.problem.ranking part.bound.need are.prefix) part.bound.need list.seen rank are.seen in
        let longer = needed-longer part.problem whole part.bound.need are.prefix w rank has in (
          before,
          is,
          (longer-next part.problem whole part.bound items are.prefix w rank has few before state).0
              (subst (λ (k : ℕ). HasSnapshot part.problem part.bound items (are.prefix ++ w ∷ []) k state) is at),
          open-goes part.problem part.bound (are.prefix ++ w ∷ []) (sees list.seen part.bound.need rank)
              ((λ seen. longer.1 (tells.0 seen)), (λ holds. tells.1 (longer.0 holds))) (drop (suc before) items) state on,
        )

    opens-to : (i position state : ℕ) → OpensNext part.problem part.bound (items_of part.problem i) are.prefix list.seen rank position state
        → HasSnapshot part.problem part.bound (items_of part.problem i) (are.prefix ++ w ∷ []) position state
    opens-to i position state (before, is, writes, completes) =
        subst (λ (k : ℕ). HasSnapshot part.problem part.bound (items_of part.problem i) (are.prefix ++ w ∷ []) k state) (sym is)
        ((longer-next part.problem whole part.bound (items_of part.problem i) are.prefix w rank has few before state).1 writes)

    -- so by what is a snapshot of it
    pub snapshots-by : (longer : SnapshotList) → longer.seen ≡ sees list.seen part.bound.need rank → IsSupportOf part (ranks ++ rank ∷ []) longer.support
        → AllPairs ComesBefore longer.snapshots
        → ((snapshot : Snapshot) → Contains longer.snapshots snapshot → IsSnapshotOf part (are.prefix ++ w ∷ []) snapshot)
        → ((snapshot : Snapshot) → Contains longer.snapshots snapshot → MayGoOn part (sees list.seen part.bound.need rank) snapshot)
        → ((snapshot : Snapshot) → IsSnapshotOf part (are.prefix ++ w ∷ []) snapshot → IsOpen part (are.prefix ++ w ∷ []) snapshot
        → Contains longer.snapshots snapshot)
        → AreSnapshots part (ranks ++ rank ∷ []) longer
    snapshots-by longer says support rising right on all =
        let tells = sees-tells (HoldsNeeded part.problem.ranking part.bound.need are.prefix) part.bound.need list.seen rank are.seen in
        let holds = needed-longer part.problem whole part.bound.need are.prefix w rank has in
        record {
          prefix = are.prefix ++ w ∷ [];
          ranked = ranked-push part.problem.ranking.order are.prefix ranks w rank are.ranked has;
          top = of_both (λ rank. rank ≤ part.bound.top) ranks (rank ∷ []) are.top (few, tt);
          seen = ((λ seen. holds.1 (tells.0 (sym says ∙ seen))), (λ needed. says ∙ tells.1 (holds.0 needed)));
          rising = rising;
          right = right;
          on = λ snapshot held. subst (λ (b : Bool). MayGoOn part b snapshot) (sym says) (on snapshot held);
          all = all;
          support = support;
        }

    -- the snapshots of a prefix that is longer by one rank
    pub snapshots-longer : (longer : SnapshotList) → longer.seen ≡ sees list.seen part.bound.need rank → IsSupportOf part (ranks ++ rank ∷ []) longer.support
        → AllPairs ComesBefore longer.snapshots
        → ((snapshot : Snapshot) → Contains longer.snapshots snapshot ↔ (Contains part.sequences snapshot.sequence
        × OpensNext part.problem part.bound (items_of part.problem snapshot.sequence) are.prefix list.seen rank snapshot.position snapshot.state))
        → AreSnapshots part (ranks ++ rank ∷ []) longer
    snapshots-longer longer says support rising exact = snapshots-by longer says support rising
        (λ snapshot held.
        let (known, opens) = (exact snapshot).0 held in
        (known, opens-to snapshot.sequence snapshot.position snapshot.state opens))
        (λ snapshot held.
        let (known, (before, is, writes, completes)) = (exact snapshot).0 held in completes)
        (λ snapshot (known, at) on.
        (exact snapshot).1 (known, opens-from (items_of part.problem snapshot.sequence) snapshot.position snapshot.state at on))

    -- a longer prefix from all of whose snapshots paths can only end
    pub snapshots-ended : (support : ℕ) → IsSupportOf part (ranks ++ rank ∷ []) support
        → ((i position state : ℕ) → Contains part.sequences i
        → OpensNext part.problem part.bound (items_of part.problem i) are.prefix list.seen rank position state → ⊥)
        → AreSnapshots part (ranks ++ rank ∷ []) (record { seen = sees list.seen part.bound.need rank; support = support; snapshots = [] })
    snapshots-ended support is none =
        snapshots-longer (record { seen = sees list.seen part.bound.need rank; support = support; snapshots = [] }) refl is
        (λ i j d less inside. absurd (omega (arith, inside)))
        (λ snapshot. (
          (λ held. absurd (Contains-none snapshot held)),
          (λ (known, opens). absurd (none snapshot.sequence snapshot.position snapshot.state known opens)),
        ))

  -- where more follows a prefix with a rank, the prefix with it goes on from somewhere
  pub follows-opens : (ranks : List ℕ) (list : SnapshotList) (are : AreSnapshots part ranks list) (items : List Item) (rank other : ℕ)
      → GrowsBehind part ((ranks ++ rank ∷ []) ++ other ∷ []) items
      → (position : ℕ) × (state : ℕ) × OpensNext part.problem part.bound items are.prefix list.seen rank position state
  follows-opens ranks list are items rank other grows =
      let (first, from, writes) = (grows-next part whole are.prefix ranks are.ranked are.top items rank).0 (grows-shorter part whole (ranks ++ rank ∷ []) (other ∷ []) items grows) in
      let (t, before, here, live, leads, (w, has, few, reads), completes) = writes in
      let ranked = ranked-push part.problem.ranking.order are.prefix ranks w rank are.ranked has in
      let top = of_both (λ rank. rank ≤ part.bound.top) ranks (rank ∷ []) are.top (few, tt) in
      let (place, next, more) = (grows-next part whole (are.prefix ++ w ∷ []) (ranks ++ rank ∷ []) ranked top items other).0 grows in
      let (start, state, early, snapshot, on) = writes-begins part.problem whole part.bound items (are.prefix ++ w ∷ []) other place next more in
      (start, state, opens-from ranks list are w rank has few items start state snapshot on)
