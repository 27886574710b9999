-- The sequences with a pivot, what they weigh, and the seeds of those that weigh enough.
use Rattle.std.proofs.Common.{◌≡◌, ◌≢◌, ◌↔◌, ℕ, zero, suc, ◌+◌, ◌*◌, ◌^◌, ◌<◌, ◌≤◌, inl, inr, Bool, true, false, leb, cond, Option, Some, IfSome, List, [], ◌∷◌, ◌++◌, length, map, get_or, set, take, drop, refl, sym, ap, ◌∙◌, subst, arith, sum_by}
use Rattle.std.specs.List.{All, AllPairs, Contains, slice_index}
use Rattle.std.specs.Global.{Vec}
use Rattle.std.proofs.lemmas.Bool.{cases_eq, eq-eqb, ne_eqb, leb-true, leb-false}
use Rattle.std.proofs.lemmas.List.{append-nil, append_assoc, get_or-set_same, get_or-set_other, get_or_read, length-set, map-append, take-append-drop, take_more}
use Rattle.std.proofs.lemmas.Grind.{flat_map-append}
use Rattle.std.proofs.lemmas.List.Elements.{All-push, Contains-append_left, Contains-push, Contains-push_cases, Contains-get_or}
use Rattle.std.proofs.lemmas.List.Kept.{AllPairs-cons}
use Rattle.std.proofs.lemmas.List.Quantifiers.{all_pairs_push}
use Rattle.std.proofs.lemmas.List.Sums.{sum_by-cons, sum_by-append}
use Rattle.mine_model.specs.declared.item.Item.{Item}
use Rattle.mine_model.specs.Database.{sequence_at, IsWithinLimits}
use Rattle.mine_model.specs.Limits.{most_sequences, most_weight}
use Rattle.mine_model.specs.Support.{Counts}
use Rattle.mine_model.specs.Growth.{HasPatternBehind, IsAlive}
use Rattle.mine_model.specs.Pivots.{IsWithinPivot, IsAliveLabel}
use Rattle.mine_model.proofs.ListLemmas.{Contains-cases, Contains-first, Contains-other, Contains-none, AllPairs-head, AllPairs-tail}
use Rattle.mine_model.proofs.ElementLemmas.{flat-held}
use Rattle.mine_model.proofs.RankLemmas.{HasRank-most}
use Rattle.mine_model.proofs.RankedLemmas.{ranked-same}
use Rattle.mine_model.proofs.FrequencyLemmas.{Counts-most}
use Rattle.mine_model.proofs.AliveLemmas.{Counts-part, IsAlive-counted, IsAlive-some}
use Rattle.mining_job.specs.declared.part_seed.PartSeed.{PartSeed}
use Rattle.mining_job.specs.Problems.{Problem, data_of, items_of}
use Rattle.mining_job.specs.Parts.{pivot_of, IsComplete}
use Rattle.pivot_partition.specs.declared.pairs.Pair.{Pair}
use Rattle.pivot_partition.specs.Pivots.{IsPivotOf, pivots_in}
use Rattle.pivot_partition.specs.Pairs.{ComesFirst, ArePairs, sequences_with, weight_with, AreWeights, AreLists, all_of}
use Rattle.pivot_partition.proofs.PairLemmas.{pair_of}

-- Sequences with a pivot

module _ (pivot : ℕ) where
  pub with-same : (pair : Pair) (pairs : List Pair) → pair.pivot ≡ pivot → sequences_with pivot (pair ∷ pairs) ≡ pair.sequence ∷ sequences_with pivot pairs
  unfolding sequences_with
  with-same pair pairs same = ap (λ b. cond b (pair.sequence ∷ sequences_with pivot pairs) (sequences_with pivot pairs)) (eq-eqb pair.pivot pivot same)

  pub with-other : (pair : Pair) (pairs : List Pair) → pair.pivot ≢ pivot → sequences_with pivot (pair ∷ pairs) ≡ sequences_with pivot pairs
  unfolding sequences_with
  with-other pair pairs other = ap (λ b. cond b (pair.sequence ∷ sequences_with pivot pairs) (sequences_with pivot pairs)) (ne_eqb pair.pivot pivot other)

  pub with-none : sequences_with pivot [] ≡ []
  unfolding sequences_with
  with-none = refl

  pub with-append : (xs ys : List Pair) → sequences_with pivot (xs ++ ys) ≡ sequences_with pivot xs ++ sequences_with pivot ys
  with-append [] ys = rw with-none refl
  with-append (pair ∷ xs) ys = elim (cases_eq pair.pivot pivot) [
    | inl same ↦ with-same pair (xs ++ ys) same ∙ ap (λ l. pair.sequence ∷ l) (with-append xs ys) ∙ ap (λ l. l ++ sequences_with pivot ys) (sym (with-same pair xs same))
    | inr other ↦ with-other pair (xs ++ ys) other ∙ with-append xs ys ∙ ap (λ l. l ++ sequences_with pivot ys) (sym (with-other pair xs other))
  ]

  pub with-held : (pairs : List Pair) (i : ℕ) → Contains (sequences_with pivot pairs) i → Contains pairs (pair_of i pivot)
  with-held [] i held = absurd (Contains-none i (subst (λ l. Contains l i) with-none held))
  with-held (pair ∷ pairs) i held = elim (cases_eq pair.pivot pivot) [
    | inl same ↦ elim (Contains-cases pair.sequence (sequences_with pivot pairs) i (subst (λ l. Contains l i) (with-same pair pairs same) held)) [
      | inl here ↦ subst (Contains (pair ∷ pairs)) (ap (λ s. pair_of s pair.pivot) (sym here) ∙ ap (pair_of i) same) (Contains-first pair pairs)
      | inr later ↦ Contains-other pair pairs (pair_of i pivot) (with-held pairs i later)
    ]
    | inr other ↦ Contains-other pair pairs (pair_of i pivot) (with-held pairs i (subst (λ l. Contains l i) (with-other pair pairs other) held))
  ]

  pub held-with : (pairs : List Pair) (i : ℕ) → Contains pairs (pair_of i pivot) → Contains (sequences_with pivot pairs) i
  held-with [] i held = absurd (Contains-none (pair_of i pivot) held)
  held-with (pair ∷ pairs) i held = elim (Contains-cases pair pairs (pair_of i pivot) held) [
    | inl here ↦
        let same : pair.pivot ≡ pivot = ap (λ (p : Pair). p.pivot) (sym here) in
        let is : pair.sequence ≡ i = ap (λ (p : Pair). p.sequence) (sym here) in
        subst (λ l. Contains l i) (sym (with-same pair pairs same)) (subst (Contains (pair.sequence ∷ sequences_with pivot pairs)) is (Contains-first pair.sequence (sequences_with pivot pairs)))
    | inr later ↦ elim (cases_eq pair.pivot pivot) [
      | inl same ↦ subst (λ l. Contains l i) (sym (with-same pair pairs same)) (Contains-other pair.sequence (sequences_with pivot pairs) i (held-with pairs i later))
      | inr other ↦ subst (λ l. Contains l i) (sym (with-other pair pairs other)) (held-with pairs i later)
    ]
  ]

  pub with-rising : (pairs : List Pair) → AllPairs ComesFirst pairs → AllPairs (λ low high. low < high) (sequences_with pivot pairs)
  with-rising [] ordered = rw with-none (λ i j d less inside. absurd (omega (arith, inside)))
  with-rising (pair ∷ pairs) ordered = elim (cases_eq pair.pivot pivot) [
    | inl same ↦ rw (with-same pair pairs same)
        (AllPairs-cons (λ low high. low < high) pair.sequence (sequences_with pivot pairs)
        (λ k d inside. later same (get_or (sequences_with pivot pairs) k d) (Contains-get_or (sequences_with pivot pairs) k d inside))
        (with-rising pairs (AllPairs-tail ComesFirst pair pairs ordered)))
    | inr other ↦ rw (with-other pair pairs other) (with-rising pairs (AllPairs-tail ComesFirst pair pairs ordered))
  ]
    where
      later : pair.pivot ≡ pivot → (i : ℕ) → Contains (sequences_with pivot pairs) i → pair.sequence < i
      later same i held = elim (AllPairs-head ComesFirst pair pairs ordered (pair_of i pivot) (with-held pairs i held)) [
        | inl less ↦ less
        | inr (at, differ) ↦ absurd (differ same)
      ]

-- Weights

module _ (problem : Problem) where
  abbrev pub weight_at : ℕ → ℕ
  weight_at i = (sequence_at problem.sequences i).weight

  pub weight-append : (pivot : ℕ) (xs ys : List Pair) → weight_with problem pivot (xs ++ ys) ≡ weight_with problem pivot xs + weight_with problem pivot ys
  weight-append pivot xs ys = ap (sum_by weight_at) (with-append pivot xs ys) ∙ sum_by-append weight_at (sequences_with pivot xs) (sequences_with pivot ys)

  pub weight-same : (pivot : ℕ) (pair : Pair) → pair.pivot ≡ pivot → weight_with problem pivot (pair ∷ []) ≡ weight_at pair.sequence
  weight-same pivot pair same =
      ap (sum_by weight_at) (with-same pivot pair [] same ∙ ap (λ l. pair.sequence ∷ l) (with-none pivot)) ∙ one
    where
      one : sum_by weight_at (pair.sequence ∷ []) ≡ weight_at pair.sequence
      one = omega (arith, sum_by-cons weight_at pair.sequence [])

  pub weight-other : (pivot : ℕ) (pair : Pair) → pair.pivot ≢ pivot → weight_with problem pivot (pair ∷ []) ≡ 0
  weight-other pivot pair other = ap (sum_by weight_at) (with-other pivot pair [] other ∙ with-none pivot)

  pub weight-none : (pivot : ℕ) → weight_with problem pivot [] ≡ 0
  weight-none pivot = ap (sum_by weight_at) (with-none pivot)

  -- where all sequences have the property, the sum of their weights is counted
  counts-all : (Has : List Item → Type 0) (numbers : List ℕ) → ((i : ℕ) → Contains numbers i → Has (items_of problem i))
      → Counts Has (map (λ i. sequence_at problem.sequences i) numbers) (sum_by weight_at numbers)
  counts-all Has [] all = refl
  counts-all Has (i ∷ numbers) all =
      inl (all i (Contains-first i numbers), (sum_by weight_at numbers, sum_by-cons weight_at i numbers, counts-all Has numbers (λ k held. all k (Contains-other i numbers k held))))

  -- rising numbers of exactly those that have the property
  pub counts-exact : (Has : List Item → Type 0) (numbers : List ℕ) → AllPairs (λ low high. low < high) numbers
      → ((i : ℕ) → Contains numbers i ↔ ((i < length problem.sequences) × Has (items_of problem i)))
      → Counts Has problem.sequences (sum_by weight_at numbers)
  counts-exact Has numbers rising exact =
      (Counts-part Has problem.sequences numbers rising (λ i held. ((exact i).0 held).0) (λ i below has. (exact i).1 (below, has)) (sum_by weight_at numbers)).0
      (counts-all Has numbers (λ i held. ((exact i).0 held).1))

  -- a pivot that is alive is a rank
  pub alive-rank : 1 ≤ problem.threshold → (pivot : ℕ) → 1 ≤ pivot → IsAliveLabel (data_of problem) problem.ranking.order pivot [] → pivot ≤ length problem.ranking.order
  alive-rank threshold zero least alive = absurd (omega (arith, least))
  alive-rank threshold (suc before) least alive =
      let (sequence, held, (more, pattern, within)) = IsAlive-some (data_of problem) (IsWithinPivot problem.ranking.order (suc before)) alive.prefix threshold alive.alive in
      let (v, among, has) = within.needed in
      HasRank-most problem.ranking.order v (suc before) has

  -- All pairs

  module _ (pairs : List Pair) (are : ArePairs problem 0 (length problem.sequences) pairs) where
    pub with-exact : (pivot i : ℕ) → Contains (sequences_with pivot pairs) i ↔ ((i < length problem.sequences) × IsPivotOf problem (items_of problem i) pivot)
    with-exact pivot i = (
      (λ held. let (low, high, is) = (are.exact (pair_of i pivot)).0 (with-held pivot pairs i held) in (high, is)),
      (λ (high, is). held-with pivot pairs i ((are.exact (pair_of i pivot)).1 (omega arith, high, is))),
    )

    -- no sum of weights is too great
    pub weight-most : All IsWithinLimits problem.sequences → length problem.sequences ≤ most_sequences → (pivot : ℕ) → weight_with problem pivot pairs ≤ most_sequences * most_weight
    weight-most limits few pivot =
        let counted = counts-exact (λ items. IsPivotOf problem items pivot) (sequences_with pivot pairs) (with-rising pivot pairs are.ordered) (with-exact pivot) in
        let most : weight_with problem pivot pairs ≤ length problem.sequences * most_weight =
        Counts-most (λ items. IsPivotOf problem items pivot) most_weight problem.sequences (weight_with problem pivot pairs) (λ k d below. (limits k d below).most) counted in
        omega (arith, most, few)

    -- what weighs something has a pivot
    pub weight-some : (pivot : ℕ) → 1 ≤ weight_with problem pivot pairs → (1 ≤ pivot) × (pivot ≤ length problem.ranking.order)
    weight-some pivot some = first (sequences_with pivot pairs) (λ i held. ((with-exact pivot i).0 held).1) some
      where
        first : (numbers : List ℕ) → ((i : ℕ) → Contains numbers i → IsPivotOf problem (items_of problem i) pivot) → 1 ≤ sum_by weight_at numbers
            → (1 ≤ pivot) × (pivot ≤ length problem.ranking.order)
        first [] each some = absurd (omega (arith, some))
        first (i ∷ numbers) each some = let is = each i (Contains-first i numbers) in (is.least, is.most)

    -- the seed of a pivot
    pub seed-complete : (pivot : ℕ) (seed : PartSeed) → 1 ≤ pivot → pivot ≤ length problem.ranking.order → seed.pivot ≡ Some pivot
        → seed.sequences.items ≡ sequences_with pivot pairs → IsComplete problem seed
    seed-complete pivot seed least most is numbers = record {
      least = subst (λ (p : Option ℕ). IfSome p (λ rank. 1 ≤ rank)) (sym is) least;
      most = subst (λ (p : Option ℕ). IfSome p (λ rank. rank ≤ length problem.ranking.order)) (sym is) most;
      rising = rw numbers (with-rising pivot pairs are.ordered);
      exact = λ i.
          let found = with-exact pivot i in
          subst (λ (p : Option ℕ). Contains seed.sequences.items i ↔ ((i < length problem.sequences)
          × HasPatternBehind (data_of problem) (IsWithinPivot problem.ranking.order (pivot_of p)) [] (items_of problem i))) (sym is) (
            (λ held. let (below, has) = found.0 (subst (λ l. Contains l i) numbers held) in (below, has.behind)),
            (λ (below, behind). subst (λ l. Contains l i) (sym numbers) (found.1 (below, record { least = least; most = most; behind = behind }))),
          );
    }

    -- a pivot is alive where its sequences weigh enough
    module _ (threshold : 1 ≤ problem.threshold) where
      pub alive-weighs : (pivot : ℕ) → 1 ≤ pivot → pivot ≤ length problem.ranking.order
          → IsAliveLabel (data_of problem) problem.ranking.order pivot [] ↔ problem.threshold ≤ weight_with problem pivot pairs
      alive-weighs pivot least most =
          let Has : List Item → Type 0 = HasPatternBehind (data_of problem) (IsWithinPivot problem.ranking.order pivot) [] in
          let counted = counts-exact Has (sequences_with pivot pairs) (with-rising pivot pairs are.ordered)
          (λ i. (
            (λ held. let (below, has) = (with-exact pivot i).0 held in (below, has.behind)),
            (λ (below, behind). (with-exact pivot i).1 (below, record { least = least; most = most; behind = behind })),
          )) in
          let either = IsAlive-counted (data_of problem) (IsWithinPivot problem.ranking.order pivot) [] (weight_with problem pivot pairs) counted in (
            (λ alive. either.0 (subst (IsAlive (data_of problem) (IsWithinPivot problem.ranking.order pivot)) (ranked-same problem.ranking.order alive.prefix [] [] alive.ranked tt) alive.alive)),
            (λ enough. record { prefix = []; ranked = tt; alive = either.1 enough }),
          )

      pub weighs-enough : (pivot : ℕ) → problem.threshold ≤ weight_with problem pivot pairs
          ↔ ((1 ≤ pivot) × IsAliveLabel (data_of problem) problem.ranking.order pivot [])
      weighs-enough pivot = (
        (λ enough.
            let some = weight-some pivot (omega (arith, enough, threshold)) in
            (some.0, (alive-weighs pivot some.0 some.1).1 enough)),
        (λ (least, alive). (alive-weighs pivot least (alive-rank threshold pivot least alive)).0 alive),
      )

-- Seeds, pivot after pivot

-- of the pivots below this one those that are alive have seeds
pub record AreSeedsBelow (problem : Problem) (seeds : List PartSeed) (pivot : ℕ) : Type 0 where
  pub complete : All (IsComplete problem) seeds
  pub rising : AllPairs (λ low high. low < high) (pivots_in seeds)
  pub exact : (p : ℕ) → Contains (pivots_in seeds) p ↔ ((p < pivot) × ((1 ≤ p) × IsAliveLabel (data_of problem) problem.ranking.order p []))

module _ (problem : Problem) where
  pub seeds-none : (seeds : List PartSeed) → seeds ≡ [] → AreSeedsBelow problem seeds 0
  seeds-none seeds none = rw none (record {
    complete = λ k d inside. absurd (omega (arith, inside));
    rising = λ i j d less inside. absurd (omega (arith, inside));
    exact = λ p. (
      (λ held. absurd (Contains-none p held)),
      (λ (below, is). absurd (omega (arith, below))),
    );
  })

  pub seeds-push : (seeds : List PartSeed) (seed : PartSeed) (pivot : ℕ) → IsComplete problem seed → pivot_of seed.pivot ≡ pivot
      → ((1 ≤ pivot) × IsAliveLabel (data_of problem) problem.ranking.order pivot []) → AreSeedsBelow problem seeds pivot → AreSeedsBelow problem (seeds ++ seed ∷ []) (pivot + 1)
  seeds-push seeds seed pivot complete is alive before =
      let pivots : pivots_in (seeds ++ seed ∷ []) ≡ pivots_in seeds ++ pivot ∷ [] = map-append (λ (s : PartSeed). pivot_of s.pivot) seeds (seed ∷ []) ∙ ap (λ p. pivots_in seeds ++ p ∷ []) is in
      record {
        complete = All-push (IsComplete problem) seeds seed before.complete complete;
        rising = rw pivots (all_pairs_push (λ low high. low < high) (pivots_in seeds) pivot before.rising
            (λ k d below. ((before.exact (get_or (pivots_in seeds) k d)).0 (Contains-get_or (pivots_in seeds) k d below)).0));
        exact = λ p. rw pivots (
          (λ held. elim (Contains-push_cases (pivots_in seeds) pivot p held) [
            | inl old ↦ let (below, has) = (before.exact p).0 old in (omega (arith, below), has)
            | inr same ↦ (omega (arith, same), subst (λ q. (1 ≤ q) × IsAliveLabel (data_of problem) problem.ranking.order q []) same alive)
          ]),
          (λ (below, has). elim (cases_eq p pivot) [
            | inl same ↦ subst (Contains (pivots_in seeds ++ pivot ∷ [])) (sym same) (Contains-push (pivots_in seeds) pivot)
            | inr other ↦ Contains-append_left (pivots_in seeds) (pivot ∷ []) p ((before.exact p).1 (omega (arith, below, other), has))
          ]),
        );
      }

  pub seeds-pass : (seeds : List PartSeed) (pivot : ℕ) → (((1 ≤ pivot) × IsAliveLabel (data_of problem) problem.ranking.order pivot []) → ⊥)
      → AreSeedsBelow problem seeds pivot → AreSeedsBelow problem seeds (pivot + 1)
  seeds-pass seeds pivot dead before = record {
    complete = before.complete;
    rising = before.rising;
    exact = λ p. (
      (λ held. let (below, has) = (before.exact p).0 held in (omega (arith, below), has)),
      (λ (below, has). elim (cases_eq p pivot) [
        | inl same ↦ absurd (dead (subst (λ q. (1 ≤ q) × IsAliveLabel (data_of problem) problem.ranking.order q []) same has))
        | inr other ↦ (before.exact p).1 (omega (arith, below, other), has)
      ]),
    );
  }

  -- where the pivots below the number are all ranks, they are all pivots that are alive
  pub seeds-all : 1 ≤ problem.threshold → (seeds : List PartSeed) (place : ℕ) → length problem.ranking.order < place → AreSeedsBelow problem seeds place
      → (p : ℕ) → Contains (pivots_in seeds) p ↔ ((1 ≤ p) × IsAliveLabel (data_of problem) problem.ranking.order p [])
  seeds-all threshold seeds place over below p = (
    (λ held. ((below.exact p).0 held).1),
    (λ (least, alive). (below.exact p).1 (let most = alive-rank problem threshold p least alive in omega (arith, most, over), (least, alive))),
  )

  -- where there is no rank, no seeds are those of all pivots
  pub no-seeds : 1 ≤ problem.threshold → length problem.ranking.order ≡ 0 → (seeds : List PartSeed) → seeds ≡ []
      → (p : ℕ) → Contains (pivots_in seeds) p ↔ ((1 ≤ p) × IsAliveLabel (data_of problem) problem.ranking.order p [])
  no-seeds threshold none seeds empty =
      seeds-all threshold seeds 1 (omega (arith, none)) (seeds-pass seeds 0 (λ (least, alive). absurd (omega (arith, least))) (seeds-none seeds empty))

-- Lists

module _ (threshold : ℕ) (sums : List ℕ) where
  pub lists-none : (lists : List (Vec ℕ)) → All (λ (list : Vec ℕ). list.items ≡ []) lists → AreLists threshold sums [] lists
  lists-none lists empty = λ pivot none within enough. empty pivot none within ∙ sym (with-none pivot)

  -- one more sequence of a pivot that weighs enough
  pub lists-push : (done : List Pair) (lists : List (Vec ℕ)) (pair : Pair) (list old : Vec ℕ) → pair.pivot < length lists → old ≡ get_or lists pair.pivot old
      → list.items ≡ old.items ++ pair.sequence ∷ [] → AreLists threshold sums done lists → AreLists threshold sums (done ++ pair ∷ []) (set lists pair.pivot list)
  lists-push done lists pair list old inside was longer are = λ pivot none within enough.
      let long = length-set lists pair.pivot list in
      let before = are pivot none (omega (arith, within, long)) enough in
      elim (cases_eq pivot pair.pivot) [
        | inl same ↦
            let at : get_or (set lists pair.pivot list) pivot none ≡ list = subst (λ p. get_or (set lists pair.pivot list) p none ≡ list) (sym same) (get_or-set_same lists pair.pivot list none inside) in
            let here : get_or lists pivot none ≡ old = subst (λ p. get_or lists p none ≡ old) (sym same) (sym (get_or_read lists pair.pivot old inside was none)) in
            ap (λ (v : Vec ℕ). v.items) at ∙ longer ∙ ap (λ l. l ++ pair.sequence ∷ []) (ap (λ (v : Vec ℕ). v.items) (sym here) ∙ before)
            ∙ sym (with-append pivot done (pair ∷ []) ∙ ap (λ l. sequences_with pivot done ++ l) (with-same pivot pair [] (sym same) ∙ ap (λ l. pair.sequence ∷ l) (with-none pivot)))
        | inr other ↦
            ap (λ (v : Vec ℕ). v.items) (get_or-set_other lists pair.pivot pivot list none other) ∙ before
            ∙ sym (with-append pivot done (pair ∷ []) ∙ ap (λ l. sequences_with pivot done ++ l) (with-other pivot pair [] (λ e. other (sym e)) ∙ with-none pivot) ∙ append-nil (sequences_with pivot done))
      ]

  -- one of a pivot that does not
  pub lists-pass : (done : List Pair) (lists : List (Vec ℕ)) (pair : Pair) → slice_index sums pair.pivot < threshold → AreLists threshold sums done lists → AreLists threshold sums (done ++ pair ∷ []) lists
  lists-pass done lists pair less are = λ pivot none within enough. elim (cases_eq pivot pair.pivot) [
    | inl same ↦ let few : slice_index sums pivot < threshold = subst (λ p. slice_index sums p < threshold) (sym same) less in absurd (omega (arith, few, enough))
    | inr other ↦
        are pivot none within enough
        ∙ sym (with-append pivot done (pair ∷ []) ∙ ap (λ l. sequences_with pivot done ++ l) (with-other pivot pair [] (λ e. other (sym e)) ∙ with-none pivot) ∙ append-nil (sequences_with pivot done))
  ]

  -- one more pair after another, at the end of those that were there
  pub lists-next : (done pairs : List Pair) (i : ℕ) (d : Pair) (lists : List (Vec ℕ)) → i < length pairs
      → AreLists threshold sums ((done ++ take i pairs) ++ get_or pairs i d ∷ []) lists → AreLists threshold sums (done ++ take (i + 1) pairs) lists
  lists-next done pairs i d lists inside are =
      subst (λ l. AreLists threshold sums l lists) (append_assoc done (take i pairs) (get_or pairs i d ∷ []) ∙ ap (λ l. done ++ l) (sym (take_more pairs i d inside))) are

-- Sums, pair after pair

module _ (problem : Problem) where
  pub weight-more : (pivot : ℕ) (pairs : List Pair) (i : ℕ) (d : Pair) → i < length pairs
      → weight_with problem pivot (take (i + 1) pairs) ≡ weight_with problem pivot (take i pairs) + weight_with problem pivot (get_or pairs i d ∷ [])
  weight-more pivot pairs i d inside = ap (weight_with problem pivot) (take_more pairs i d inside) ∙ weight-append problem pivot (take i pairs) (get_or pairs i d ∷ [])

  pub weight-part : (pivot : ℕ) (pairs : List Pair) (i : ℕ) → weight_with problem pivot (take i pairs) ≤ weight_with problem pivot pairs
  weight-part pivot pairs i =
      let both : weight_with problem pivot pairs ≡ weight_with problem pivot (take i pairs) + weight_with problem pivot (drop i pairs) =
      ap (weight_with problem pivot) (sym (take-append-drop i pairs)) ∙ weight-append problem pivot (take i pairs) (drop i pairs) in
      omega (arith, both)

  -- the sums with one more pair
  pub sums-more : (before sums : List ℕ) (pairs : List Pair) (i : ℕ) (d : Pair) (weight : ℕ) → i < length pairs → (get_or pairs i d).pivot < length sums
      → weight ≡ weight_at problem (get_or pairs i d).sequence
      → ((pivot : ℕ) → slice_index sums pivot ≡ slice_index before pivot + weight_with problem pivot (take i pairs))
      → (pivot : ℕ) → slice_index (set sums (get_or pairs i d).pivot (get_or sums (get_or pairs i d).pivot 0 + weight)) pivot
      ≡ slice_index before pivot + weight_with problem pivot (take (i + 1) pairs)
  sums-more before sums pairs i d weight inside within is added pivot =
      let pair : Pair = get_or pairs i d in
      let step = weight-more pivot pairs i d inside in
      elim (cases_eq pivot (get_or pairs i d).pivot) [
        | inl same ↦
            let at : slice_index (set sums (get_or pairs i d).pivot (get_or sums (get_or pairs i d).pivot 0 + weight)) pivot ≡ get_or sums (get_or pairs i d).pivot 0 + weight =
            subst (λ p. slice_index (set sums (get_or pairs i d).pivot (get_or sums (get_or pairs i d).pivot 0 + weight)) p ≡ get_or sums (get_or pairs i d).pivot 0 + weight) (sym same)
            (get_or-set_same sums (get_or pairs i d).pivot (get_or sums (get_or pairs i d).pivot 0 + weight) 0 within) in
            let here : get_or sums (get_or pairs i d).pivot 0 ≡ slice_index sums pivot = ap (λ p. get_or sums p 0) (sym same) in
            let one = weight-same problem pivot (get_or pairs i d) (sym same) in
            omega (arith, at, here, one, step, added pivot, is)
        | inr other ↦
            let at : slice_index (set sums (get_or pairs i d).pivot (get_or sums (get_or pairs i d).pivot 0 + weight)) pivot ≡ slice_index sums pivot =
            get_or-set_other sums (get_or pairs i d).pivot pivot (get_or sums (get_or pairs i d).pivot 0 + weight) 0 other in
            let one = weight-other problem pivot (get_or pairs i d) (λ e. other (sym e)) in
            omega (arith, at, one, step, added pivot)
      ]

  -- the sum of one more pair has room
  pub sums-room : (before sums : List ℕ) (pairs : List Pair) (i : ℕ) (d : Pair) (weight : ℕ) → i < length pairs
      → weight ≡ weight_at problem (get_or pairs i d).sequence
      → ((pivot : ℕ) → slice_index sums pivot ≡ slice_index before pivot + weight_with problem pivot (take i pairs))
      → ((pivot : ℕ) → slice_index before pivot + weight_with problem pivot pairs < 2 ^ 64)
      → slice_index sums (get_or pairs i d).pivot + weight < 2 ^ 64
  sums-room before sums pairs i d weight inside is added room =
      let step = weight-more (get_or pairs i d).pivot pairs i d inside in
      let one = weight-same problem (get_or pairs i d).pivot (get_or pairs i d) refl in
      let part = weight-part (get_or pairs i d).pivot pairs (i + 1) in
      omega (arith, step, one, part, is, added (get_or pairs i d).pivot, room (get_or pairs i d).pivot)

-- Parts, one after another

pub parts-next : (parts : List (Vec Pair)) (i : ℕ) (part : Vec Pair) → i < length parts → part ≡ get_or parts i part → all_of (take (i + 1) parts) ≡ all_of (take i parts) ++ part.items
parts-next parts i part inside is =
    ap all_of (take_more parts i part inside ∙ ap (λ p. take i parts ++ p ∷ []) (sym is)) ∙ flat_map-append (λ (p : Vec Pair). p.items) (take i parts) (part ∷ [])
    ∙ ap (λ l. all_of (take i parts) ++ l) (append-nil part.items)

pub parts-held : (parts : List (Vec Pair)) (i : ℕ) (part : Vec Pair) (pair : Pair) → i < length parts → part ≡ get_or parts i part → Contains part.items pair → Contains (all_of parts) pair
parts-held parts i part pair inside is held =
    flat-held (λ (p : Vec Pair). p.items) parts part pair (subst (Contains parts) (sym is) (Contains-get_or parts i part inside)) held

module _ (problem : Problem) where
  pub parts-weight : (parts : List (Vec Pair)) (i : ℕ) (part : Vec Pair) (pivot : ℕ) → i < length parts → part ≡ get_or parts i part
      → weight_with problem pivot (all_of (take i parts)) + weight_with problem pivot part.items ≤ weight_with problem pivot (all_of parts)
  parts-weight parts i part pivot inside is =
      let whole : all_of parts ≡ all_of (take (i + 1) parts) ++ all_of (drop (i + 1) parts) =
      ap all_of (sym (take-append-drop (i + 1) parts)) ∙ flat_map-append (λ (p : Vec Pair). p.items) (take (i + 1) parts) (drop (i + 1) parts) in
      let front : weight_with problem pivot (all_of (take (i + 1) parts)) ≡ weight_with problem pivot (all_of (take i parts)) + weight_with problem pivot part.items =
      ap (weight_with problem pivot) (parts-next parts i part inside is) ∙ weight-append problem pivot (all_of (take i parts)) part.items in
      let both : weight_with problem pivot (all_of parts) ≡ weight_with problem pivot (all_of (take (i + 1) parts)) + weight_with problem pivot (all_of (drop (i + 1) parts)) =
      ap (weight_with problem pivot) whole ∙ weight-append problem pivot (all_of (take (i + 1) parts)) (all_of (drop (i + 1) parts)) in
      omega (arith, front, both)

  -- the sums with one more part
  pub parts-sums : (parts : List (Vec Pair)) (i : ℕ) (part : Vec Pair) (before sums : List ℕ) → i < length parts → part ≡ get_or parts i part
      → AreWeights problem (all_of (take i parts)) before
      → ((pivot : ℕ) → slice_index sums pivot ≡ slice_index before pivot + weight_with problem pivot part.items)
      → AreWeights problem (all_of (take (i + 1) parts)) sums
  parts-sums parts i part before sums inside is were added pivot =
      let front : weight_with problem pivot (all_of (take (i + 1) parts)) ≡ weight_with problem pivot (all_of (take i parts)) + weight_with problem pivot part.items =
      ap (weight_with problem pivot) (parts-next parts i part inside is) ∙ weight-append problem pivot (all_of (take i parts)) part.items in
      omega (arith, front, were pivot, added pivot)

module _ (problem : Problem) where
  -- the seeds of one more pivot
  pub seeds-next : (pairs : List Pair) → ArePairs problem 0 (length problem.sequences) pairs → 1 ≤ problem.threshold → (sums : List ℕ) → AreWeights problem pairs sums
      → (lists : List (Vec ℕ)) → AreLists problem.threshold sums pairs lists → (place : ℕ) (list : Vec ℕ) → place < length lists → list ≡ get_or lists place list
      → (is_enough : Bool) → is_enough ≡ leb problem.threshold (slice_index sums place) → (seeds new : List PartSeed)
      → (is_enough ≡ true → (seed : PartSeed) × (new ≡ seeds ++ seed ∷ []) × (seed.pivot ≡ Some place) × (seed.sequences.items ≡ list.items))
      → (is_enough ≡ false → new ≡ seeds) → AreSeedsBelow problem seeds place → AreSeedsBelow problem new (place + 1)
  seeds-next pairs are threshold sums weights lists filed place list inside is true test seeds new pushed passed before =
      let enough : problem.threshold ≤ slice_index sums place = leb-true problem.threshold (slice_index sums place) (sym test) in
      let (seed, longer, pivot, items) = pushed refl in
      let alive = (weighs-enough problem pairs are threshold place).0 (omega (arith, enough, weights place)) in
      let most = alive-rank problem threshold place alive.0 alive.1 in
      let numbers : seed.sequences.items ≡ sequences_with place pairs = items ∙ ap (λ (v : Vec ℕ). v.items) is ∙ filed place list inside enough in
      rw longer (seeds-push problem seeds seed place (seed-complete problem pairs are place seed alive.0 most pivot numbers) (ap pivot_of pivot) alive before)
  seeds-next pairs are threshold sums weights lists filed place list inside is false test seeds new pushed passed before =
      let less : slice_index sums place < problem.threshold = leb-false problem.threshold (slice_index sums place) (sym test) in
      rw (passed refl) (seeds-pass problem seeds place (λ alive. let enough = (weighs-enough problem pairs are threshold place).1 alive in omega (arith, enough, weights place, less)) before)
