-- What is told of each prefix that is longer by one rank.
use Rattle.std.proofs.Common.{◌≡◌, ℕ, ◌+◌, ◌-◌, ◌≤◌, ◌<◌, inl, inr, Bool, Some, None, List, [], ◌∷◌, ◌++◌, length, take, drop, refl, sym, ap, ◌∙◌, subst, arith}
use Rattle.std.specs.List.{AllPairs, AllZip, Contains, slice_get, slice_range}
use Rattle.std.proofs.lemmas.Bool.{cases_lt, le-leb, lt-leb}
use Rattle.mine_model.specs.Support.{Sequence, Counts}
use Rattle.mine_model.proofs.SupportLemmas.{Counts-one}
use Rattle.sequence_grids.specs.Grids.{GridList}
use Rattle.place_walk.specs.declared.stand.Stand.{Stand}
use Rattle.place_walk.specs.declared.visit.Visit.{Visit}
use Rattle.stand_sums.specs.declared.aim.Aim.{Aim}
use Rattle.stand_sums.specs.declared.next_rank.NextRank.{NextRank}
use Rattle.stand_sums.specs.Writings.{Ranks, opens, ends, follows}
use Rattle.stand_sums.specs.Sequences.{AreSequences, HasOne, all_weighed}
use Rattle.stand_sums.specs.Sums.{Tally, empty_tally, stands_among, Grows, AreCounted, room_for, IsTold, AreNext}
use Rattle.stand_sums.specs.Files.{stands_of}
use Rattle.snapshot_project.specs.Aims.{sees}
use Rattle.snapshot_project.specs.Extensions.{sequences_of, GrowsBehind, CanFollow, IsSupportOf}
use Rattle.snapshot_project.specs.Grouped.{AreAllGrids}
use Rattle.snapshot_project.specs.Snapshots.{IsPart, SnapshotList, AreSnapshots}
use Rattle.snapshot_project.specs.Stands.{AreStandsOf, IsLight, IsProjected}
use Rattle.snapshot_project.proofs.ExtensionLemmas.{grows-next}
use Rattle.snapshot_project.proofs.LongerLemmas.{aim_of, AreVisitsIn, longer-stands}
use Rattle.snapshot_project.specs.Longer.{HasPlaces}
use Rattle.snapshot_project.proofs.RoomLemmas.{stands-long, places-found}

-- ---- ranges

pub range-none : {X : Type 0} (xs : List X) (from end : ℕ) → end ≤ from → slice_range xs from end ≡ []
range-none xs from end none = let zero' : end - from ≡ 0 = omega arith in ap (λ (n : ℕ). take n (drop from xs)) zero'

none-long : {X : Type 0} (xs : List X) → length xs ≡ 0 → xs ≡ []
none-long [] none = refl
none-long (x ∷ xs) none = absurd (omega arith)

-- what a sum that grew from nothing counts
grown-counts : (test : Visit → Bool) (sequences : List (Sequence Visit)) (sum : ℕ) → Grows test sequences 0 sum → Counts (HasOne test) sequences sum
grown-counts test sequences sum (n, counts, is) = let same : n ≡ sum = omega arith in subst (Counts (HasOne test) sequences) same counts

-- a rank that can follow is one of the bound
pub follow-ranked : (part : GridList) → IsPart part → (prefixes : List ℕ) (list : SnapshotList) → AreSnapshots part prefixes list → (rank n : ℕ)
    → CanFollow part prefixes rank n → 1 ≤ n → (1 ≤ rank) × (rank ≤ part.bound.top)
follow-ranked part is prefixes list are rank n counts some =
    let (items, grows) = Counts-one (GrowsBehind part (prefixes ++ rank ∷ [])) (sequences_of part) n counts some in
    let (position, state, writes) = (grows-next part is.whole are.prefix prefixes are.ranked are.top items rank).0 grows in
    let (t, from, here, live, leads, (w, has, few, reads), completes) = writes in
    (has.least, few)

module _ (part : GridList) (is : IsPart part) (prefixes : List ℕ) (list : SnapshotList) (are : AreSnapshots part prefixes list) (ranks : Ranks)
    (grids : List ℕ) (rising : AllPairs (λ low high. low < high) grids) (all_grids : AreAllGrids part list.snapshots grids) (sequences : List (List Visit))
    (all : (rank : ℕ) → AllZip (AreVisitsIn part are.prefix list.seen ranks rank) grids sequences) (least : ℕ) where
  abbrev aim : Aim
  aim = aim_of part list.seen

  module _ (next : NextRank) (low : 1 ≤ next.rank) (high : next.rank ≤ part.bound.top) (tally : Tally) (told : IsTold least tally next)
      (long : tally.stands ≡ length (stands_of ranks aim next.rank sequences)) (run : List Stand)
      (filed : next.first < next.last → slice_range run next.first next.last ≡ stands_of ranks aim next.rank sequences) where
    -- where what more follows weighs too little, nothing is told
    range-light : tally.longer < least → slice_range run next.first next.last ≡ []
    range-light light =
        let last : next.last ≡ next.first + room_for least tally = told.stands in
        let room : room_for least tally ≡ 0 = rw (lt-leb least tally.longer light) refl in
        range-none run next.first next.last (omega arith)

    -- else all stands are
    range-heavy : least ≤ tally.longer → slice_range run next.first next.last ≡ stands_of ranks aim next.rank sequences
    range-heavy heavy =
        let last : next.last ≡ next.first + room_for least tally = told.stands in
        let room : room_for least tally ≡ tally.stands = rw (le-leb least tally.longer heavy) refl in
        elim (cases_lt 0 tally.stands) [
          | inl some ↦ filed (omega arith)
          | inr none ↦ range-none run next.first next.last (omega arith) ∙ sym (none-long (stands_of ranks aim next.rank sequences) (omega arith))
        ]

    pub kid-projected : IsSupportOf part (prefixes ++ next.rank ∷ []) tally.support → (tally.longer < least → IsLight part (prefixes ++ next.rank ∷ []) least)
        → IsProjected part least (prefixes ++ next.rank ∷ [])
        (record { seen = sees list.seen part.bound.need next.rank; support = next.support; stands = slice_range run next.first next.last; next = None; bytes = None })
    kid-projected support light =
        let support' : IsSupportOf part (prefixes ++ next.rank ∷ []) next.support = subst (IsSupportOf part (prefixes ++ next.rank ∷ [])) (sym told.support) support in
        let (snapshots, taken, stands) = longer-stands part is prefixes list are ranks next.rank grids rising all_grids sequences (all next.rank) next.support low high support' in
        record {
          snapshots = record { seen = sees list.seen part.bound.need next.rank; support = next.support; snapshots = snapshots };
          are = taken;
          seen = refl;
          support = refl;
          stands = elim (cases_lt tally.longer least) [
            | inl little ↦ inr (range-light little, light little)
            | inr enough ↦ inl (subst (AreStandsOf part snapshots) (sym (range-heavy enough)) stands)
          ];
        }

  -- ---- all of them

  module _ (some : 1 ≤ least) (weights : List ℕ) (visits : List Visit) (cut : AreSequences visits sequences) (tallies : List Tally)
      (counted : (rank : ℕ) (tally : Tally) → slice_get tallies rank ≡ Some tally → AreCounted ranks aim weights rank visits sequences empty_tally tally)
      (found : List NextRank) (are_next : AreNext least least tallies found) where
    -- for each stand a place
    pub kids-places : (next : NextRank) → Contains found next → HasPlaces ranks aim sequences next
    kids-places = places-found ranks aim sequences least least tallies found are_next (λ rank tally at.
        let stands : tally.stands ≡ 0 + stands_among ranks aim rank visits = (counted rank tally at).stands in
        let long : length (stands_of ranks aim rank sequences) ≡ stands_among ranks aim rank visits = stands-long ranks aim rank visits sequences cut in
        omega arith)

    pub kids-projected : ((rank n : ℕ) → Counts (HasOne (follows ranks aim rank)) (all_weighed weights sequences) n → CanFollow part prefixes rank n)
        → ((rank n : ℕ) → Counts (HasOne (ends ranks aim rank)) (all_weighed weights sequences) n → IsSupportOf part (prefixes ++ rank ∷ []) n)
        → ((rank n : ℕ) → Counts (HasOne (opens ranks aim rank)) (all_weighed weights sequences) n → n < least → IsLight part (prefixes ++ rank ∷ []) least)
        → (run : List Stand)
        → ((next : NextRank) → Contains found next → next.first < next.last → slice_range run next.first next.last ≡ stands_of ranks aim next.rank sequences)
        → (next : NextRank) → Contains found next
        → IsProjected part least (prefixes ++ next.rank ∷ [])
        (record { seen = sees list.seen part.bound.need next.rank; support = next.support; stands = slice_range run next.first next.last; next = None; bytes = None })
    kids-projected follow support light run filed next held =
        let (tally, at, heavy, told) = are_next.right next held in
        let count = counted next.rank tally at in
        let follows' = follow next.rank tally.weight (grown-counts (follows ranks aim next.rank) (all_weighed weights sequences) tally.weight count.weight) in
        let (low, high) = follow-ranked part is prefixes list are next.rank tally.weight follows' (omega arith) in
        let stands : tally.stands ≡ 0 + stands_among ranks aim next.rank visits = count.stands in
        let long : length (stands_of ranks aim next.rank sequences) ≡ stands_among ranks aim next.rank visits = stands-long ranks aim next.rank visits sequences cut in
        kid-projected next low high tally told (omega arith) run (filed next held)
        (support next.rank tally.support (grown-counts (ends ranks aim next.rank) (all_weighed weights sequences) tally.support count.support))
        (light next.rank tally.longer (grown-counts (opens ranks aim next.rank) (all_weighed weights sequences) tally.longer count.longer))
