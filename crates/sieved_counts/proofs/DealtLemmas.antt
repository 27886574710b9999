-- Sums over sequences that were dealt to two workers.
use Rattle.std.proofs.Common.{◌≡◌, ℕ, ◌+◌, ◌⊎◌, inl, inr, Bool, List, [], ◌∷◌, ◌++◌, refl, sym, subst, arith}
use Rattle.mine_model.specs.declared.item.Item.{Item}
use Rattle.mine_model.specs.Answer.{Data}
use Rattle.mine_model.specs.Support.{Sequence, Counts}
use Rattle.prefix_sieve.specs.Sieves.{HasCandidate, AreDealt}
use Rattle.prefix_counts.specs.Prefixes.{Prefixes}
use Rattle.prefix_counts.specs.Sums.{sum_of, AreJoined}
use Rattle.sieved_counts.specs.Counted.{AreCounted}

module _ (Has : List Item → Type 0) where
  -- without a sequence that stands among the others
  abbrev IsCountedBeside : Sequence Item → List (Sequence Item) → ℕ → Type 0
  IsCountedBeside s others n =
      (Has s.items × ((rest : ℕ) × (n ≡ s.weight + rest) × Counts Has others rest)) ⊎ ((Has s.items → ⊥) × Counts Has others n)

  counts-beside : (before behind : List (Sequence Item)) (s : Sequence Item) (n : ℕ) → Counts Has (before ++ s ∷ behind) n → IsCountedBeside s (before ++ behind) n
  counts-beside [] behind s n counts = counts
  counts-beside (x ∷ before) behind s n (inl p) = elim (counts-beside before behind s p.1.0 p.1.2) [
    | inl q ↦
        let sum = p.1.1 in
        let rest = q.1.1 in
        inl (q.0, (x.weight + q.1.0, omega (arith, sum, rest), inl (p.0, (q.1.0, refl, q.1.2))))
    | inr q ↦ inr (q.0, inl (p.0, (p.1.0, p.1.1, q.1)))
  ]
  counts-beside (x ∷ before) behind s n (inr p) = elim (counts-beside before behind s n p.1) [
    | inl q ↦ inl (q.0, (q.1.0, q.1.1, inr (p.0, q.1.2)))
    | inr q ↦ inr (q.0, inr (p.0, q.1))
  ]

  -- the sums of both are that of all
  pub counts-dealt : (all some others : List (Sequence Item)) (n m : ℕ) → AreDealt all some others → Counts Has some n → Counts Has others m → Counts Has all (n + m)
  counts-dealt [] some others n m dealt mine theirs =
      let none : n ≡ 0 = subst (λ (ss : List (Sequence Item)). Counts Has ss n) dealt.0 mine in
      let nothing : m ≡ 0 = subst (λ (ss : List (Sequence Item)). Counts Has ss m) dealt.1 theirs in
      omega (arith, none, nothing)
  counts-dealt (s ∷ all) some others n m (inl (before, behind, is, dealt)) mine theirs =
      elim (counts-beside before behind s n (subst (λ (ss : List (Sequence Item)). Counts Has ss n) is mine)) [
        | inl q ↦ let sum = q.1.1 in inl (q.0, (q.1.0 + m, omega (arith, sum), counts-dealt all (before ++ behind) others q.1.0 m dealt q.1.2 theirs))
        | inr q ↦ inr (q.0, counts-dealt all (before ++ behind) others n m dealt q.1 theirs)
      ]
  counts-dealt (s ∷ all) some others n m (inr (before, behind, is, dealt)) mine theirs =
      elim (counts-beside before behind s m (subst (λ (ss : List (Sequence Item)). Counts Has ss m) is theirs)) [
        | inl q ↦ let sum = q.1.1 in inl (q.0, (n + q.1.0, omega (arith, sum), counts-dealt all some (before ++ behind) n q.1.0 dealt mine q.1.2))
        | inr q ↦ inr (q.0, counts-dealt all some (before ++ behind) n m dealt mine q.1)
      ]

-- WHAT BOTH COUNTED, joined, is all
pub counted-joined : (d : Data Item) (order : List Item) (levels : List (List Bool)) (all some others : List (Sequence Item)) (mine theirs joined : Prefixes)
    → AreDealt all some others → AreCounted d order levels some mine → AreCounted d order levels others theirs → AreJoined mine theirs joined
    → AreCounted d order levels all joined
counted-joined d order levels all some others mine theirs joined dealt one other both = record {
  exact = λ list passes.
      subst (λ (n : ℕ). Counts (HasCandidate d order list) all n) (sym (both.added list))
      (counts-dealt (HasCandidate d order list) all some others (sum_of mine list) (sum_of theirs list) dealt (one.exact list passes) (other.exact list passes));
  none = λ list never.
      let sum = both.added list in
      let here = one.none list never in
      let there = other.none list never in
      omega (arith, sum, here, there);
}
