-- From sums by rank to the ranks that may follow.
use Rattle.std.proofs.Common.{◌≡◌, ℕ, ◌≤◌, ◌<◌, Some, List, [], ◌∷◌, ◌++◌, length, map, get_or, sym, subst, arith}
use Rattle.std.specs.List.{AllPairs, AllZip, slice_get}
use Rattle.std.proofs.lemmas.List.Kept.{AllPairs-cons}
use Rattle.std.proofs.lemmas.Option.{slice_get-get_or}
use Rattle.mine_model.proofs.AliveLemmas.{WeighAtLeast-counted, WeighAtLeast-some}
use Rattle.mine_model.proofs.ElementLemmas.{get-some, get-held}
use Rattle.mine_model.proofs.ListLemmas.{Contains-by, Contains-from, AllPairs-head, AllPairs-tail}
use Rattle.mine_model.specs.Growth.{WeighAtLeast}
use Rattle.sequence_grids.specs.Grids.{GridList}
use Rattle.place_walk.specs.declared.stand.Stand.{Stand}
use Rattle.place_walk.specs.declared.visit.Visit.{Visit}
use Rattle.place_walk.specs.Courses.{Course}
use Rattle.place_walk.specs.Visits.{AreVisits}
use Rattle.stand_sums.specs.declared.aim.Aim.{Aim}
use Rattle.stand_sums.specs.declared.next_rank.NextRank.{NextRank as SummedRank}
use Rattle.stand_sums.specs.Writings.{Ranks, ends, follows}
use Rattle.stand_sums.specs.Sequences.{HasOne}
use Rattle.stand_sums.specs.Sums.{Tally, empty_tally, AreCounted, AreNext}
use Rattle.snapshot_project.specs.declared.next_rank.NextRank.{NextRank}
use Rattle.snapshot_project.specs.Snapshots.{IsPart, SnapshotList, AreSnapshots}
use Rattle.snapshot_project.specs.Extensions.{sequences_of, GrowsBehind, GeneratesWithin, CanFollow, IsSupportOf, AreNextRanks}
use Rattle.snapshot_project.specs.Stands.{IsLight}
use Rattle.snapshot_project.specs.Grouped.{AreGroupsIn, AreAllGrids, AreWeights}
use Rattle.snapshot_project.specs.Longer.{told_of}
use Rattle.snapshot_project.proofs.ExtensionLemmas.{grows-next}
use Rattle.snapshot_project.proofs.TallyLemmas.{weight-all, support-all, longer-all}
use Rattle.snapshot_project.proofs.SumLemmas.{AllWithin, AllTell, AllOpen, follows-counted, ends-counted, opens-counted}

-- what holds of each element and each later one holds of their images
pub pairs-mapped : {X Y : Type 0} (R : X → X → Type 0) (S : Y → Y → Type 0) (f : X → Y) → ((x y : X) → R x y → S (f x) (f y))
    → (xs : List X) → AllPairs R xs → AllPairs S (map f xs)
pairs-mapped R S f keeps [] pairs = λ i j d less within. absurd (omega (arith, within))
pairs-mapped {X} {Y} R S f keeps (x ∷ xs) pairs =
    AllPairs-cons S (f x) (map f xs)
    (λ k d below.
    let y : Y = get_or (map f xs) k d in
    let (z, held, same) = Contains-from f xs y (get-held (map f xs) k y (slice_get-get_or (map f xs) k d below)) in
    subst (S (f x)) (sym same) (keeps x z (AllPairs-head R x xs pairs z held)))
    (pairs-mapped R S f keeps xs (AllPairs-tail R x xs pairs))

module _ (part : GridList) (is : IsPart part) (prefixes : List ℕ) (list : SnapshotList) (are : AreSnapshots part prefixes list) where
  -- what grows in sequences that weigh something is a rank
  pub weighs-rank : (rank least : ℕ) → 1 ≤ least → WeighAtLeast (GrowsBehind part (prefixes ++ rank ∷ [])) (sequences_of part) least
      → (1 ≤ rank) × (rank ≤ part.bound.top)
  weighs-rank rank least some weighs =
      let (sequence, held, grows) = WeighAtLeast-some (GrowsBehind part (prefixes ++ rank ∷ [])) (sequences_of part) least some weighs in
      let (position, state, writes) = (grows-next part is.whole are.prefix prefixes are.ranked are.top sequence.items rank).0 grows in
      let (t, from, here, live, leads, (w, has, few, reads), completes) = writes in
      (has.least, few)

  -- the ranks whose sums reach the least are those that may follow in sequences that weigh so much
  pub next-told : (least : ℕ) → 1 ≤ least → (tallies : List Tally) → length part.problem.ranking.order < length tallies
      → ((rank : ℕ) (tally : Tally) → slice_get tallies rank ≡ Some tally → CanFollow part prefixes rank tally.weight)
      → ((rank : ℕ) (tally : Tally) → slice_get tallies rank ≡ Some tally → IsSupportOf part (prefixes ++ rank ∷ []) tally.support)
      → (found : List SummedRank) → AreNext least least tallies found → AreNextRanks part prefixes least (map told_of found)
  next-told least some tallies long weights supports found next = record {
    rising = pairs-mapped (λ (low high : SummedRank). low.rank < high.rank) (λ (low high : NextRank). low.rank < high.rank) told_of
        (λ low high less. less) found next.rising;
    right = λ one held.
        let (summed, inside, same) = Contains-from told_of found one held in
        let (tally, at, reached, is_told) = next.right summed inside in
        subst (λ (n : NextRank). (least ≤ n.weight) × CanFollow part prefixes n.rank n.weight × IsSupportOf part (prefixes ++ n.rank ∷ []) n.support) (sym same) (
          subst (λ (n : ℕ). least ≤ n) (sym is_told.weight) reached,
          subst (CanFollow part prefixes summed.rank) (sym is_told.weight) (weights summed.rank tally at),
          subst (IsSupportOf part (prefixes ++ summed.rank ∷ [])) (sym is_told.support) (supports summed.rank tally at),
        );
    all = λ rank weighs.
        let (least_rank, few) = weighs-rank rank least some weighs in
        let top : part.bound.top ≤ length part.problem.ranking.order = is.top in
        let (tally, at) = get-some tallies rank (omega arith) in
        let reached : least ≤ tally.weight =
        (WeighAtLeast-counted (GrowsBehind part (prefixes ++ rank ∷ [])) (sequences_of part) tally.weight least (weights rank tally at)).0 weighs in
        let (summed, inside, same) = next.all rank tally some at reached in
        (told_of summed, Contains-by told_of found summed inside, same);
  }

  -- ---- from the visits of all groups

  module _ (ranks : Ranks) (aim : Aim) (course : Course) (visit-within : AllWithin part are.prefix list.seen course)
      (grids : List ℕ) (rising : AllPairs (λ low high. low < high) grids) (all : AreAllGrids part list.snapshots grids)
      (groups : List (List Stand)) (in' : AreGroupsIn part are.prefix list.seen grids groups)
      (sequences : List (List Visit)) (visited : AllZip (AreVisits course) groups sequences)
      (weights : List ℕ) (weigh : AreWeights part weights) (visits : List Visit) where
    -- what was counted of all visits tells which ranks may follow
    pub next-counted : ((rank : ℕ) → AllTell part are.prefix list.seen course (GrowsBehind part (prefixes ++ rank ∷ [])) (HasOne (follows ranks aim rank)))
        → ((rank : ℕ) → AllTell part are.prefix list.seen course (GeneratesWithin part (prefixes ++ rank ∷ [])) (HasOne (ends ranks aim rank)))
        → (least : ℕ) → 1 ≤ least → (tallies : List Tally) → length part.problem.ranking.order < length tallies
        → ((rank : ℕ) (tally : Tally) → slice_get tallies rank ≡ Some tally → AreCounted ranks aim weights rank visits sequences empty_tally tally)
        → (found : List SummedRank) → AreNext least least tallies found → AreNextRanks part prefixes least (map told_of found)
    next-counted grows-visit generates-visit least some tallies long counted =
        next-told least some tallies long
        (λ rank tally at. follows-counted part is ranks aim prefixes list are course visit-within grids rising all groups in' sequences visited weights weigh
        rank (grows-visit rank) tally.weight (weight-all ranks aim weights rank visits sequences tally (counted rank tally at)))
        (λ rank tally at. ends-counted part is ranks aim prefixes list are course visit-within grids rising all groups in' sequences visited weights weigh
        rank (generates-visit rank) tally.support (support-all ranks aim weights rank visits sequences tally (counted rank tally at)))

    -- and behind which of them nothing follows that weighs enough
    pub light-counted : (rank : ℕ) → AllOpen part are.prefix list.seen course ranks aim rank
        → (tally : Tally) → AreCounted ranks aim weights rank visits sequences empty_tally tally → (least : ℕ) → tally.longer < least
        → IsLight part (prefixes ++ rank ∷ []) least
    light-counted rank opens-visit tally counted least few =
        opens-counted part is ranks aim prefixes list are course visit-within grids rising all groups in' sequences visited weights weigh
        rank opens-visit tally.longer least (longer-all ranks aim weights rank visits sequences tally counted) few
