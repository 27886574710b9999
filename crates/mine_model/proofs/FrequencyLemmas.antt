-- The items of a pattern are at least as frequent as the pattern, so where its support reaches the threshold it is
-- counted among the patterns of frequent items.
use Rattle.std.proofs.Common.{◌≡◌, ℕ, ◌+◌, ◌*◌, ◌≤◌, ◌<◌, ◌↔◌, inl, inr, List, [], ◌∷◌, ◌++◌, length, refl, arith}
use Rattle.std.specs.List.{All, AllByRecursion, Contains, slice_index}
use Rattle.std.proofs.lemmas.Bool.{cases_lt}
use Rattle.std.proofs.lemmas.List.Elements.{All-head, All-tail}
use Rattle.mine_model.specs.declared.item.Item.{Item}
use Rattle.mine_model.specs.Hierarchy.{Link}
use Rattle.mine_model.specs.Expression.{Tree}
use Rattle.mine_model.specs.Generation.{IsPatternOf}
use Rattle.mine_model.specs.Support.{Sequence, Counts, HasSupport, HoldsUnder, HasFrequency}
use Rattle.mine_model.specs.Candidates.{IsFrequentItem, IsCandidateOf}
use Rattle.mine_model.specs.Ranks.{AreFrequencies}
use Rattle.mine_model.proofs.ListLemmas.{AllByRecursion-contained, AllByRecursion-weaker, Contains-first, Contains-other}
use Rattle.mine_model.proofs.SupportLemmas.{Counts-some, Counts-one}
use Rattle.mine_model.proofs.AboveLemmas.{IsAncestor-keeps, pattern-above}

-- Counting

-- a property that follows from another counts at least as much
pub Counts-le : {A : Type 0} (Has Also : List A → Type 0) (sequences : List (Sequence A)) (n m : ℕ) → ((items : List A) → Has items → Also items)
    → Counts Has sequences n → Counts Also sequences m → n ≤ m
Counts-le Has Also [] n m follows p q = omega arith
Counts-le Has Also (s ∷ sequences) n m follows (inl p) (inl q) =
    let less : p.1.0 ≤ q.1.0 = Counts-le Has Also sequences p.1.0 q.1.0 follows p.1.2 q.1.2 in omega (arith, p.1.1, q.1.1)
Counts-le Has Also (s ∷ sequences) n m follows (inl p) (inr q) = absurd (q.0 (follows s.items p.0))
Counts-le Has Also (s ∷ sequences) n m follows (inr p) (inl q) =
    let less : n ≤ q.1.0 = Counts-le Has Also sequences n q.1.0 follows p.1 q.1.2 in omega (arith, q.1.1)
Counts-le Has Also (s ∷ sequences) n m follows (inr p) (inr q) = Counts-le Has Also sequences n m follows p.1 q.1

-- properties that follow from each other are counted alike
pub Counts-by : {A : Type 0} (Has Also : List A → Type 0) → ((items : List A) → Has items ↔ Also items)
    → (sequences : List (Sequence A)) (n : ℕ) → Counts Has sequences n → Counts Also sequences n
Counts-by Has Also same [] n p = p
Counts-by Has Also same (s ∷ sequences) n (inl p) = inl ((same s.items).0 p.0, (p.1.0, p.1.1, Counts-by Has Also same sequences p.1.0 p.1.2))
Counts-by Has Also same (s ∷ sequences) n (inr p) = inr ((λ also. p.0 ((same s.items).1 also)), Counts-by Has Also same sequences n p.1)

-- what no sequence has is counted as 0
pub Counts-none : {A : Type 0} (Has : List A → Type 0) (sequences : List (Sequence A)) → AllByRecursion (λ s. Has s.items → ⊥) sequences → Counts Has sequences 0
Counts-none Has [] none = refl
Counts-none Has (s ∷ sequences) none = inr (none.0, Counts-none Has sequences none.1)

-- the counts of two parts add up
pub Counts-append : {A : Type 0} (Has : List A → Type 0) (xs ys : List (Sequence A)) (n m : ℕ) → Counts Has xs n → Counts Has ys m → Counts Has (xs ++ ys) (n + m)
Counts-append Has [] ys n m p q = let e : n + m ≡ m = omega arith in rw e q
Counts-append Has (s ∷ xs) ys n m (inl p) q = inl (p.0, (p.1.0 + m, omega (arith, p.1.1), Counts-append Has xs ys p.1.0 m p.1.2 q))
Counts-append Has (s ∷ xs) ys n m (inr p) q = inr (p.0, Counts-append Has xs ys n m p.1 q)

-- no count exceeds the greatest weight of as many sequences
pub Counts-most : {A : Type 0} (Has : List A → Type 0) (most : ℕ) (sequences : List (Sequence A)) (n : ℕ) → All (λ s. s.weight ≤ most) sequences
    → Counts Has sequences n → n ≤ length sequences * most
Counts-most Has most [] n all p = omega arith
Counts-most {A} Has most (s ∷ sequences) n all (inl p) =
    let Light : Sequence A → Type 0 = λ s. s.weight ≤ most in
    let rest : p.1.0 ≤ length sequences * most = Counts-most Has most sequences p.1.0 (All-tail Light s sequences all) p.1.2 in
    let weight : s.weight ≤ most = All-head Light s sequences all in grind arith
Counts-most {A} Has most (s ∷ sequences) n all (inr p) =
    let rest : n ≤ length sequences * most = Counts-most Has most sequences n (All-tail (λ (s : Sequence A). s.weight ≤ most) s sequences all) p.1 in grind arith

-- Frequencies

module _ {A : Type 0} (links : List (Link A)) (sequences : List (Sequence A)) where
  -- an item of a pattern is at least as frequent as the pattern
  pub support-le-frequency : (expression : Tree A) (pattern : List A) (w : A) (n m : ℕ)
      → HasSupport links expression sequences pattern n → Contains pattern w → HasFrequency links sequences w m → n ≤ m
  support-le-frequency expression pattern w n m support held frequency =
      Counts-le (λ items. IsPatternOf links expression items pattern) (HoldsUnder links w) sequences n m
      (λ items is. pattern-above links expression items pattern is w held) support frequency

  -- The lemmas below want that each item has a frequency: see `frequencies-known`.
  module _ (known : (w : A) → (m : ℕ) × HasFrequency links sequences w m) (threshold : ℕ) where
    -- a pattern whose support reaches the threshold has frequent items alone
    pub frequent-items : (expression : Tree A) (pattern : List A) (n : ℕ) → HasSupport links expression sequences pattern n → threshold ≤ n
        → AllByRecursion (IsFrequentItem links sequences threshold) pattern
    frequent-items expression pattern n support enough = each pattern (λ w held. held)
      where
        each : (ws : List A) → ((w : A) → Contains ws w → Contains pattern w) → AllByRecursion (IsFrequentItem links sequences threshold) ws
        each [] among = tt
        each (w ∷ ws) among =
            let (m, frequency) = known w in
            let most : n ≤ m = support-le-frequency expression pattern w n m support (among w (Contains-first w ws)) frequency in
            (record { frequency = m; exact = frequency; enough = omega arith }, each ws (λ v held. among v (Contains-other w ws v held)))

    -- where the threshold is reached, the support is what is counted of the patterns of allowed items, if all
    -- frequent items are allowed
    pub support-by_candidates : (Allowed : A → Type 0) → ((w : A) → IsFrequentItem links sequences threshold w → Allowed w)
        → (expression : Tree A) (pattern : List A) (n : ℕ) → 1 ≤ threshold → threshold ≤ n
        → HasSupport links expression sequences pattern n ↔ Counts (λ items. IsCandidateOf links expression Allowed items pattern) sequences n
    support-by_candidates Allowed allows expression pattern n least enough =
        let Has : List A → Type 0 = λ items. IsPatternOf links expression items pattern in
        let Also : List A → Type 0 = λ items. IsCandidateOf links expression Allowed items pattern in (
          λ support. Counts-by Has Also (same (AllByRecursion-weaker (IsFrequentItem links sequences threshold) Allowed allows pattern (frequent-items expression pattern n support enough))) sequences n support,
          λ counted.
              let (items, has) = Counts-one Also sequences n counted (omega arith) in
              Counts-by Also Has (λ items. ((same has.allowed items).1, (same has.allowed items).0)) sequences n counted,
        )
      where
        same : AllByRecursion Allowed pattern → (items : List A) → IsPatternOf links expression items pattern ↔ IsCandidateOf links expression Allowed items pattern
        same allowed items = ((λ is. record { generated = is; allowed = allowed }), (λ is. is.generated))

-- Items by numbers

module _ (links : List (Link Item)) (size : ℕ) (ends : All (λ link. (link.child.0 < size) × (link.parent.0 < size)) links) where
  -- what stands above an item of the sequence is one of so many items
  HoldsUnder-within : (items : List Item) (w : Item) → AllByRecursion (λ t. t.0 < size) items → HoldsUnder links w items → w.0 < size
  HoldsUnder-within items w within (t, held, above) =
      IsAncestor-keeps links (λ t. t.0 < size) ends w t (AllByRecursion-contained (λ t. t.0 < size) items t within held) above

  -- an item that is counted at all is one of so many items
  pub HasFrequency-within : (sequences : List (Sequence Item)) (w : Item) (n : ℕ) → AllByRecursion (λ s. AllByRecursion (λ t. t.0 < size) s.items) sequences
      → HasFrequency links sequences w n → 1 ≤ n → w.0 < size
  HasFrequency-within sequences w n within frequency some =
      let (items, has, all) = Counts-some (HoldsUnder links w) (λ items. AllByRecursion (λ t. t.0 < size) items) sequences n frequency some within in
      HoldsUnder-within items w all has

  none_past : (sequences : List (Sequence Item)) (w : Item) → AllByRecursion (λ s. AllByRecursion (λ t. t.0 < size) s.items) sequences → size ≤ w.0
      → AllByRecursion (λ s. HoldsUnder links w s.items → ⊥) sequences
  none_past [] w within past = tt
  none_past (s ∷ sequences) w within past = (
    (λ has. let below : w.0 < size = HoldsUnder-within s.items w within.0 has in omega arith),
    none_past sequences w within.1 past,
  )

  -- where the list has the frequencies of so many items, each item has a frequency: the others have 0
  pub frequencies-known : (sequences : List (Sequence Item)) (frequencies : List ℕ) → AllByRecursion (λ s. AllByRecursion (λ t. t.0 < size) s.items) sequences
      → length frequencies ≡ size → AreFrequencies links sequences frequencies → (w : Item) → (m : ℕ) × HasFrequency links sequences w m
  frequencies-known sequences frequencies within whole are w = elim (cases_lt w.0 (length frequencies)) [
    | inl below ↦ (slice_index frequencies w.0, are w below)
    | inr past ↦ (0, Counts-none (HoldsUnder links w) sequences (none_past sequences w within (omega (arith, past, whole))))
  ]
