-- What may follow a prefix, by its live states.
use Rattle.std.proofs.Common.{◌≡◌, ◌↔◌, ℕ, zero, suc, ◌+◌, ◌≤◌, List, [], ◌∷◌, ◌++◌, drop, refl, ap, ◌∙◌, subst, arith, append_assoc}
use Rattle.std.specs.List.{AllByRecursion}
use Rattle.mine_model.specs.declared.item.Item.{Item}
use Rattle.mine_model.specs.Generation.{IsPatternOf}
use Rattle.mine_model.specs.Growth.{HasPatternBehind}
use Rattle.mine_model.specs.Numbered.{tree_of}
use Rattle.mine_model.specs.Ranks.{Ranking, HasRank, AreRanked}
use Rattle.mine_model.specs.Pivots.{IsWithin}
use Rattle.mine_model.proofs.ListLemmas.{front_of_both, back_of_both, of_both}
use Rattle.mine_model.proofs.RankedLemmas.{item_rank, ranked-same, ranked-push, ranked-split}
use Rattle.mining_job.specs.declared.bound.Bound.{Bound}
use Rattle.mining_job.specs.Problems.{IsWhole, data_of}
use Rattle.sequence_grids.specs.Grids.{GridList, IsAllowed, HoldsNeeded, Ends}
use Rattle.snapshot_project.specs.Snapshots.{HasSnapshot}
use Rattle.snapshot_project.specs.Extensions.{GrowsBehind, GeneratesWithin}
use Rattle.snapshot_project.specs.Live.{WritesNext, EndsNext}
use Rattle.snapshot_project.proofs.NeedLemmas.{needed-longer}
use Rattle.snapshot_project.proofs.SnapshotLemmas.{snapshot-law, snapshot-ends}
use Rattle.snapshot_project.proofs.LiveLemmas.{longer-first, longer-next}

-- the items of ranks up to the top are allowed
pub ranked-allowed : (ranking : Ranking) (bound : Bound) (items : List Item) (ranks : List ℕ) → AreRanked ranking.order items ranks
    → AllByRecursion (λ rank. rank ≤ bound.top) ranks → AllByRecursion (IsAllowed ranking bound) items
ranked-allowed ranking bound [] ranks ranked top = tt
ranked-allowed ranking bound (v ∷ items) [] ranked top = absurd ranked
ranked-allowed ranking bound (v ∷ items) (rank ∷ ranks) ranked top = ((rank, ranked.0, top.0), ranked-allowed ranking bound items ranks ranked.1 top.1)

-- the item of one rank
ranked-one : (order items : List Item) (rank : ℕ) → AreRanked order items (rank ∷ []) → (w : Item) × (items ≡ w ∷ []) × HasRank order w rank
ranked-one order [] rank ranked = absurd ranked
ranked-one order (w ∷ []) rank ranked = (w, refl, ranked.0)
ranked-one order (w ∷ v ∷ items) rank ranked = absurd ranked.1

-- the empty prefix is no pattern
pub generates-none : (part : GridList) (items : List Item) → GeneratesWithin part [] items → ⊥
generates-none part items ([], ranked, (some, generates), within) = some refl
generates-none part items (v ∷ pattern, ranked, generates, within) = ranked

module _ (part : GridList) (whole : IsWhole part.problem) where
  -- what grows with more grows with less
  pub grows-shorter : (ranks more : List ℕ) (items : List Item) → GrowsBehind part (ranks ++ more) items → GrowsBehind part ranks items
  grows-shorter ranks more items (longer, ranked, behind) =
      let (front, back, cut, first, second) = ranked-split part.problem.ranking.order longer ranks more ranked in
      let (rest, pattern, within) = subst
      (λ (l : List Item). HasPatternBehind (data_of part.problem) (IsWithin part.problem.ranking.order part.bound.top part.bound.need) l items) cut behind in
      let e : (front ++ back) ++ rest ≡ front ++ (back ++ rest) = append_assoc front back rest in (
        front,
        first,
        (
          back ++ rest,
          subst (IsPatternOf part.problem.hierarchy.links (tree_of part.problem.transducer.expression) items) e pattern,
          subst (IsWithin part.problem.ranking.order part.bound.top part.bound.need) e within,
        ),
      )

  module _ (prefix : List Item) (ranks : List ℕ) (ranked : AreRanked part.problem.ranking.order prefix ranks)
      (top : AllByRecursion (λ rank. rank ≤ part.bound.top) ranks) (items : List Item) where
    allowed : AllByRecursion (IsAllowed part.problem.ranking part.bound) prefix
    allowed = ranked-allowed part.problem.ranking part.bound prefix ranks ranked top

    -- THE LAW, by ranks
    pub grows-snapshot : GrowsBehind part ranks items
        ↔ ((position : ℕ) × (state : ℕ) × HasSnapshot part.problem part.bound items prefix position state)
    grows-snapshot =
        let law = snapshot-law part.problem part.bound whole items prefix allowed in (
          (λ (other, others, behind). law.1 (subst
              (λ (l : List Item). HasPatternBehind (data_of part.problem) (IsWithin part.problem.ranking.order part.bound.top part.bound.need) l items)
              (ranked-same part.problem.ranking.order other prefix ranks others ranked) behind)),
          (λ snapshots. (prefix, ranked, law.0 snapshots)),
        )

    pub generates-snapshot : GeneratesWithin part ranks items
        ↔ ((position : ℕ) × (state : ℕ) × HasSnapshot part.problem part.bound items prefix position state
        × HoldsNeeded part.problem.ranking part.bound.need prefix × Ends part.problem (drop position items) state)
    generates-snapshot =
        let law = snapshot-ends part.problem part.bound whole items prefix allowed in (
          (λ (other, others, pattern, within).
              let same : other ≡ prefix = ranked-same part.problem.ranking.order other prefix ranks others ranked in law.1 (
                subst (IsPatternOf part.problem.hierarchy.links (tree_of part.problem.transducer.expression) items) same pattern,
                subst (IsWithin part.problem.ranking.order part.bound.top part.bound.need) same within,
              )),
          (λ snapshots. let (pattern, within) = law.0 snapshots in (prefix, ranked, pattern, within)),
        )

    -- the rank of an item that is allowed is within the bound
    rank-few : (w : Item) (rank : ℕ) → HasRank part.problem.ranking.order w rank → IsAllowed part.problem.ranking part.bound w → rank ≤ part.bound.top
    rank-few w rank has (other, others, few) =
        let same : rank ≡ other = item_rank part.problem.ranking.order whole.ranks.once w rank other has others in omega arith

    module _ (rank : ℕ) where
      next-by : (w : Item) → HasRank part.problem.ranking.order w rank → rank ≤ part.bound.top → (position state : ℕ)
          → HasSnapshot part.problem part.bound items (prefix ++ w ∷ []) position state
          → (position : ℕ) × (state : ℕ) × WritesNext part.problem part.bound items prefix rank position state
      next-by w has few zero state snapshot = absurd (longer-first part.problem whole part.bound items prefix w state snapshot)
      next-by w has few (suc position) state snapshot =
          let next : suc position ≡ position + 1 = omega arith in (
            position,
            state,
            (longer-next part.problem whole part.bound items prefix w rank has few position state).0
                (subst (λ (k : ℕ). HasSnapshot part.problem part.bound items (prefix ++ w ∷ []) k state) next snapshot),
          )

      next-from : GrowsBehind part (ranks ++ rank ∷ []) items
          → (position : ℕ) × (state : ℕ) × WritesNext part.problem part.bound items prefix rank position state
      next-from (longer, longer_ranked, (more, pattern, within)) =
          let (front, back, cut, first, second) = ranked-split part.problem.ranking.order longer ranks (rank ∷ []) longer_ranked in
          let (w, one, has) = ranked-one part.problem.ranking.order back rank second in
          let same : longer ≡ prefix ++ w ∷ [] =
          cut ∙ ap (λ (l : List Item). l ++ back) (ranked-same part.problem.ranking.order front prefix ranks first ranked) ∙ ap (λ (l : List Item). prefix ++ l) one in
          let inside : IsWithin part.problem.ranking.order part.bound.top part.bound.need ((prefix ++ w ∷ []) ++ more) =
          subst (λ (l : List Item). IsWithin part.problem.ranking.order part.bound.top part.bound.need (l ++ more)) same within in
          let all : AllByRecursion (IsAllowed part.problem.ranking part.bound) (prefix ++ w ∷ []) =
          front_of_both (IsAllowed part.problem.ranking part.bound) (prefix ++ w ∷ []) more inside.ranked in
          let few : rank ≤ part.bound.top = rank-few w rank has (back_of_both (IsAllowed part.problem.ranking part.bound) prefix (w ∷ []) all).0 in
          let generated : IsPatternOf part.problem.hierarchy.links (tree_of part.problem.transducer.expression) items ((prefix ++ w ∷ []) ++ more) =
          subst (λ (l : List Item). IsPatternOf part.problem.hierarchy.links (tree_of part.problem.transducer.expression) items (l ++ more)) same pattern in
          let (position, state, snapshot) = (snapshot-law part.problem part.bound whole items (prefix ++ w ∷ []) all).1 (more, generated, inside) in
          next-by w has few position state snapshot

      next-to : (position state : ℕ) → WritesNext part.problem part.bound items prefix rank position state → GrowsBehind part (ranks ++ rank ∷ []) items
      next-to position state writes =
          let (t, from, here, live, leads, (w, has, few, reads), completes) = writes in
          let snapshot = (longer-next part.problem whole part.bound items prefix w rank has few position state).1 writes in
          let all = of_both (IsAllowed part.problem.ranking part.bound) prefix (w ∷ []) allowed ((rank, has, few), tt) in (
            prefix ++ w ∷ [],
            ranked-push part.problem.ranking.order prefix ranks w rank ranked has,
            (snapshot-law part.problem part.bound whole items (prefix ++ w ∷ []) all).0 (position + 1, state, snapshot),
          )

      -- the ranks that follow are those that edges from live states write
      pub grows-next : GrowsBehind part (ranks ++ rank ∷ []) items
          ↔ ((position : ℕ) × (state : ℕ) × WritesNext part.problem part.bound items prefix rank position state)
      grows-next = (next-from, (λ (position, state, writes). next-to position state writes))

      ends-by : (w : Item) → HasRank part.problem.ranking.order w rank → rank ≤ part.bound.top → (position state : ℕ)
          → HasSnapshot part.problem part.bound items (prefix ++ w ∷ []) position state → HoldsNeeded part.problem.ranking part.bound.need (prefix ++ w ∷ [])
          → Ends part.problem (drop position items) state
          → (position : ℕ) × (state : ℕ) × EndsNext part.problem part.bound items prefix rank position state
      ends-by w has few zero state snapshot holds ends = absurd (longer-first part.problem whole part.bound items prefix w state snapshot)
      ends-by w has few (suc position) state snapshot holds ends =
          let next : suc position ≡ position + 1 = omega arith in (
            position,
            state,
            (
              (longer-next part.problem whole part.bound items prefix w rank has few position state).0
                  (subst (λ (k : ℕ). HasSnapshot part.problem part.bound items (prefix ++ w ∷ []) k state) next snapshot),
              (needed-longer part.problem whole part.bound.need prefix w rank has).0 holds,
              subst (λ (k : ℕ). Ends part.problem (drop k items) state) next ends,
            ),
          )

      ends-from : GeneratesWithin part (ranks ++ rank ∷ []) items
          → (position : ℕ) × (state : ℕ) × EndsNext part.problem part.bound items prefix rank position state
      ends-from (pattern, longer_ranked, generates, within) =
          let (front, back, cut, first, second) = ranked-split part.problem.ranking.order pattern ranks (rank ∷ []) longer_ranked in
          let (w, one, has) = ranked-one part.problem.ranking.order back rank second in
          let same : pattern ≡ prefix ++ w ∷ [] =
          cut ∙ ap (λ (l : List Item). l ++ back) (ranked-same part.problem.ranking.order front prefix ranks first ranked) ∙ ap (λ (l : List Item). prefix ++ l) one in
          let inside : IsWithin part.problem.ranking.order part.bound.top part.bound.need (prefix ++ w ∷ []) =
          subst (IsWithin part.problem.ranking.order part.bound.top part.bound.need) same within in
          let few : rank ≤ part.bound.top = rank-few w rank has (back_of_both (IsAllowed part.problem.ranking part.bound) prefix (w ∷ []) inside.ranked).0 in
          let is : IsPatternOf part.problem.hierarchy.links (tree_of part.problem.transducer.expression) items (prefix ++ w ∷ []) =
          subst (IsPatternOf part.problem.hierarchy.links (tree_of part.problem.transducer.expression) items) same generates in
          let (position, state, snapshot, holds, ends) = (snapshot-ends part.problem part.bound whole items (prefix ++ w ∷ []) inside.ranked).1 (is, inside) in
          ends-by w has few position state snapshot holds ends

      ends-to : (position state : ℕ) → EndsNext part.problem part.bound items prefix rank position state → GeneratesWithin part (ranks ++ rank ∷ []) items
      ends-to position state (writes, holds, ends) =
          let (t, from, here, live, leads, (w, has, few, reads), completes) = writes in
          let snapshot = (longer-next part.problem whole part.bound items prefix w rank has few position state).1 writes in
          let all = of_both (IsAllowed part.problem.ranking part.bound) prefix (w ∷ []) allowed ((rank, has, few), tt) in
          let (pattern, within) = (snapshot-ends part.problem part.bound whole items (prefix ++ w ∷ []) all).0 (
            position + 1,
            state,
            snapshot,
            (needed-longer part.problem whole part.bound.need prefix w rank has).1 holds,
            ends,
          ) in
          (prefix ++ w ∷ [], ranked-push part.problem.ranking.order prefix ranks w rank ranked has, pattern, within)

      -- the prefix with the rank is itself a pattern where what is needed is seen with it and such an edge leads to an end
      pub generates-next : GeneratesWithin part (ranks ++ rank ∷ []) items
          ↔ ((position : ℕ) × (state : ℕ) × EndsNext part.problem part.bound items prefix rank position state)
      generates-next = (ends-from, (λ (position, state, ends). ends-to position state ends))
