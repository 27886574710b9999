-- The front goes over the items: what was found, and what is still to be found from the front.
use Rattle.std.proofs.Common.{◌≡◌, ℕ, zero, suc, ◌+◌, ◌≤◌, ◌<◌, ◌⊎◌, ◌↔◌, inl, inr, false, List, [], ◌∷◌, length, drop, subst, arith}
use Rattle.std.specs.List.{Contains, slice_index}
use Rattle.std.proofs.lemmas.Bool.{cases_lt}
use Rattle.mine_model.specs.declared.item.Item.{Item}
use Rattle.mining_job.specs.Problems.{Problem, IsWhole}
use Rattle.sequence_grids.specs.Grids.{Completes}
use Rattle.pivot_partition.specs.Tops.{no_rank, bound_by, WritesFrom}
use Rattle.pivot_partition.proofs.TopLemmas.{end-writes}

-- what was found, and what can be written from the front over the rest, are what can be written from the start over
-- all
pub record AreFoundSoFar (problem : Problem) (items : List Item) (front found : List ℕ) (index : ℕ) : Type 0 where
  pub ranks : (rank : ℕ) → Contains found rank → (1 ≤ rank) × (rank ≤ length problem.ranking.order)
  pub exact : (p : ℕ) → p ≤ length problem.ranking.order
      → (Contains found p ⊎ WritesFrom problem front (drop index items) p) ↔ Completes problem (bound_by p) items 0 false

module _ (problem : Problem) (whole : IsWhole problem) (items : List Item) where
  pub found-begin : (front found : List ℕ) → length problem.ranking.order < no_rank → slice_index front 0 ≡ 0
      → ((state : ℕ) → 1 ≤ state → state ≤ length problem.transducer.labels → slice_index front state ≡ no_rank)
      → ((rank : ℕ) → Contains found rank → ⊥) → AreFoundSoFar problem items front found 0
  found-begin front found few first others none = record {
    ranks = λ rank held. absurd (none rank held);
    exact = λ p most. (
      (λ either. elim either [
        | inl held ↦ absurd (none p held)
        | inr (state, inside, low, writes) ↦ start p most state inside low writes
      ]),
      (λ writes. inr (0, omega arith, omega (arith, first), writes)),
    );
  }
    where
      start : (p : ℕ) → p ≤ length problem.ranking.order → (state : ℕ) → state ≤ length problem.transducer.labels → slice_index front state ≤ p
          → Completes problem (bound_by p) items state false → Completes problem (bound_by p) items 0 false
      start p most zero inside low writes = writes
      start p most (suc k) inside low writes =
          let none' : slice_index front (suc k) ≡ no_rank = others (suc k) (omega arith) inside in
          absurd (omega (arith, none', low, most, few))

  pub found-more : (front after found more : List ℕ) (index : ℕ) (t : Item) → drop index items ≡ t ∷ drop (index + 1) items
      → AreFoundSoFar problem items front found index
      → ((rank : ℕ) → Contains more rank → (1 ≤ rank) × (rank ≤ length problem.ranking.order))
      → (Written : ℕ → Type 0)
      → ((p : ℕ) → p ≤ length problem.ranking.order → Contains more p ↔ (Contains found p ⊎ Written p))
      → ((p : ℕ) → p ≤ length problem.ranking.order
      → WritesFrom problem front (t ∷ drop (index + 1) items) p ↔ (Written p ⊎ WritesFrom problem after (drop (index + 1) items) p))
      → AreFoundSoFar problem items after more (index + 1)
  found-more front after found more index t here before ranks Written added step = record {
    ranks = ranks;
    exact = λ p most.
        let was = subst (λ (rest : List Item). (Contains found p ⊎ WritesFrom problem front rest p) ↔ Completes problem (bound_by p) items 0 false) here (before.exact p most) in
        let add = added p most in
        let go = step p most in (
          (λ either. elim either [
            | inl held ↦ elim (add.0 held) [
              | inl old ↦ was.0 (inl old)
              | inr new' ↦ was.0 (inr (go.1 (inl new')))
            ]
            | inr later ↦ was.0 (inr (go.1 (inr later)))
          ]),
          (λ writes. elim (was.1 writes) [
            | inl old ↦ inl (add.1 (inl old))
            | inr now ↦ elim (go.0 now) [
              | inl new' ↦ inl (add.1 (inr new'))
              | inr later ↦ inr later
            ]
          ]),
        );
  }

  pub found-all : (front found : List ℕ) (index : ℕ) → drop index items ≡ [] → AreFoundSoFar problem items front found index
      → (rank : ℕ) → Contains found rank ↔ ((1 ≤ rank) × (rank ≤ length problem.ranking.order) × Completes problem (bound_by rank) items 0 false)
  found-all front found index over are rank = (
    (λ held. let (least, most) = are.ranks rank held in (least, most, (are.exact rank most).0 (inl held))),
    (λ (least, most, writes). elim ((are.exact rank most).1 writes) [
      | inl held ↦ held
      | inr (state, inside, low, more) ↦
          absurd (end-writes problem whole state rank (subst (λ (rest : List Item). Completes problem (bound_by rank) rest state false) over more))
    ]),
  )

-- what is written at the states below one more: at those below, or at that one
pub written-with : (Low Under Out : ℕ → Type 0) (Before Old New : Type 0) (count : ℕ) → 1 ≤ count
    → Old ↔ (Before ⊎ ((state : ℕ) × (1 ≤ state) × (state < count) × Low state × Under state × Out state)) → New ↔ (Old ⊎ (Low count × Under count × Out count))
    → New ↔ (Before ⊎ ((state : ℕ) × (1 ≤ state) × (state < count + 1) × Low state × Under state × Out state))
written-with Low Under Out Before Old New count some old new' = (
  (λ has. elim (new'.0 has) [
    | inl was ↦ elim (old.0 was) [
      | inl before ↦ inl before
      | inr (state, least, less, low, under, out) ↦ inr (state, least, omega (arith, less), low, under, out)
    ]
    | inr (low, under, out) ↦ inr (count, some, omega arith, low, under, out)
  ]),
  (λ either. elim either [
    | inl before ↦ new'.1 (inl (old.1 (inl before)))
    | inr (state, least, less, low, under, out) ↦ elim (cases_lt state count) [
      | inl early ↦ new'.1 (inl (old.1 (inr (state, least, early, low, under, out))))
      | inr late ↦ let same : state ≡ count = omega (arith, less, late) in new'.1 (inr (subst Low same low, subst Under same under, subst Out same out))
    ]
  ]),
)
