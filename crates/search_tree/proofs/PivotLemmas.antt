-- A pattern of ranked items has one pivot: its greatest rank.
use Rattle.std.proofs.Common.{◌≡◌, ◌≢◌, ℕ, zero, suc, ◌≤◌, inl, inr, List, [], ◌∷◌, refl, arith}
use Rattle.std.specs.List.{AllByRecursion, AllPairs}
use Rattle.std.proofs.lemmas.Bool.{cases_lt}
use Rattle.mine_model.specs.declared.item.Item.{Item}
use Rattle.mine_model.specs.Ranks.{AreRanked}
use Rattle.mine_model.specs.Pivots.{IsRankedUpTo, HoldsRank, IsWithinPivot}
use Rattle.mine_model.proofs.ListLemmas.{Contains-first, Contains-other, AllByRecursion-contained}
use Rattle.mine_model.proofs.RankedLemmas.{item_rank}

raised : (order : List Item) (low high : ℕ) → low ≤ high → (items : List Item) → AllByRecursion (IsRankedUpTo order low) items → AllByRecursion (IsRankedUpTo order high) items
raised order low high less [] all = tt
raised order low high less (v ∷ items) ((rank, has, most), all) = ((rank, has, omega (arith, less, most)), raised order low high less items all)

-- the greatest rank of items that have ranks, and where it stands
greatest : (order : List Item) (v : Item) (items : List Item) (r : ℕ) (ranks : List ℕ) → AreRanked order (v ∷ items) (r ∷ ranks)
    → (top : ℕ) × AllByRecursion (IsRankedUpTo order top) (v ∷ items) × HoldsRank order (v ∷ items) top
greatest order v [] r ranks ranked = (r, ((r, ranked.0, omega arith), tt), (v, Contains-first v [], ranked.0))
greatest order v (w ∷ items) r [] ranked = absurd ranked.1
greatest order v (w ∷ items) r (s ∷ ranks) ranked =
    let (top, all, (holder, held, has)) = greatest order w items s ranks ranked.1 in
    elim (cases_lt top r) [
      | inl more ↦ (r, ((r, ranked.0, omega arith), raised order top r (omega arith) (w ∷ items) all), (v, Contains-first v (w ∷ items), ranked.0))
      | inr most ↦ (top, ((r, ranked.0, most), all), (holder, Contains-other v (w ∷ items) holder held, has))
    ]

-- the bound of a pivot, put together and taken apart
bound-made : (order : List Item) (top : ℕ) → 1 ≤ top → (items : List Item) → AllByRecursion (IsRankedUpTo order top) items → HoldsRank order items top → IsWithinPivot order top items
bound-made order zero least items all holds = absurd (omega (arith, least))
bound-made order (suc before) least items all holds = record { ranked = all; needed = holds }

bound-taken : (order : List Item) (top : ℕ) → 1 ≤ top → (items : List Item) → IsWithinPivot order top items → AllByRecursion (IsRankedUpTo order top) items × HoldsRank order items top
bound-taken order zero least items within = absurd (omega (arith, least))
bound-taken order (suc before) least items within = (within.ranked, within.needed)

module _ (order : List Item) (once : AllPairs (λ v w. v ≢ w) order) where
  pivot-most : (first second : ℕ) → 1 ≤ first → 1 ≤ second → (items : List Item) → IsWithinPivot order first items → IsWithinPivot order second items → first ≤ second
  pivot-most first second one two items within also =
      let (all, (v, held, has)) = bound-taken order first one items within in
      let (rank, ranked, most) = AllByRecursion-contained (IsRankedUpTo order second) items v (bound-taken order second two items also).0 held in
      omega (arith, item_rank order once v first rank has ranked, most)

  -- a pattern has one pivot
  pub pivot-same : (first second : ℕ) → 1 ≤ first → 1 ≤ second → (items : List Item) → IsWithinPivot order first items → IsWithinPivot order second items → first ≡ second
  pivot-same first second one two items within also = omega (arith, pivot-most first second one two items within also, pivot-most second first two one items also within)

-- where a pattern stands: its greatest rank
pub place_of : (order : List Item) (items : List Item) (ranks : List ℕ) → items ≢ [] → AreRanked order items ranks → (pivot : ℕ) × (1 ≤ pivot) × IsWithinPivot order pivot items
place_of order [] ranks some ranked = absurd (some refl)
place_of order (v ∷ items) [] some ranked = absurd ranked
place_of order (v ∷ items) (r ∷ ranks) some ranked =
    let (top, all, holds) = greatest order v items r ranks ranked in
    let (holder, held, has) = holds in
    let least : 1 ≤ top = has.least in
    (top, least, bound-made order top least (v ∷ items) all holds)
