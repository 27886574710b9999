-- Groups with equal automata are joined one by one.
use Rattle.std.proofs.Common.{◌≡◌, ◌≢◌, ℕ, ◌+◌, ◌≤◌, ◌<◌, ◌⊎◌, inl, inr, Bool, true, false, cond, min, nat_eq, List, [], ◌∷◌, ◌++◌, map, get_or, refl, sym, ap, ◌∙◌, subst, arith, true≢false}
use Rattle.std.specs.Bool.{Decides}
use Rattle.std.specs.List.{AllPairs, Contains}
use Rattle.std.specs.List.Sorted.{IsPermutation, IsSortedBy}
use Rattle.std.specs.Ordering.{nat_cmp, is_lt}
use Rattle.std.specs.Cmp.Lexicographic.{pointwise, slice_cmp}
use Rattle.std.proofs.lemmas.Cmp.{nat_list_cmp_total}
use Rattle.std.proofs.lemmas.List.{map-append}
use Rattle.std.proofs.lemmas.List.Elements.{Contains-append_left, Contains-append_right, Contains-append_cases}
use Rattle.std.proofs.lemmas.List.MinMax.{ranks_by}
use Rattle.std.proofs.lemmas.List.Sorted.{sorted_far, sum_by-IsPermutation, Contains-permutation, IsPermutation-sym}
use Rattle.std.proofs.lemmas.List.Sums.{sum_by-append}
use Rattle.mine_model.proofs.ListLemmas.{Contains-cases, Contains-first, Contains-none, Contains-from, AllPairs-tail, AllPairs-head, AllPairs-append}
use Rattle.mine_model.proofs.SumLemmas.{sum_by-none}
use Rattle.mine_model.specs.Lists.{IsEarlier}
use Rattle.mine_model.proofs.EarlierLemmas.{earlier-itself, earlier-chain, earlier-cases}
use Rattle.mine_model.proofs.ElementLemmas.{decides}
use Rattle.automaton_model.specs.declared.groups.Group.{Group}
use Rattle.automaton_model.specs.Merges.{ComesNotBefore, weight_at, weight_in, IsMerged, AreMerged, with_count_of, IsJoined}

abbrev limit : ℕ
limit = 18446744073709551615

abbrev code : Group → List ℕ
code group = group.automaton

-- of two parts in order the later does not come before the earlier
across : (seen rest : List Group) (part one : Group) → AllPairs ComesNotBefore (seen ++ part ∷ rest) → Contains seen one → ComesNotBefore one part
across [] rest part one sorted held = absurd (Contains-none one held)
across (first ∷ seen) rest part one sorted held = elim (Contains-cases first seen one held) [
  | inl same ↦ subst (λ (g : Group). ComesNotBefore g part) (sym same)
      (AllPairs-head ComesNotBefore first (seen ++ part ∷ rest) sorted part (Contains-append_right seen (part ∷ rest) part (Contains-first part rest)))
  | inr later ↦ across seen rest part one (AllPairs-tail ComesNotBefore first (seen ++ part ∷ rest) sorted) later
]

-- what one part adds to the weight of a code
weight_more : (seen : List Group) (part : Group) (list : List ℕ) → weight_in (seen ++ part ∷ []) list ≡ weight_in seen list + (0 + weight_at list part)
weight_more seen part list = sum_by-append (weight_at list) seen (part ∷ [])

pub weight-here : (part : Group) (list : List ℕ) → part.automaton ≡ list → weight_at list part ≡ part.count
weight-here part list same = ap (λ (b : Bool). cond b part.count 0) ((decides part.automaton list).1 same)

pub weight-none : (part : Group) (list : List ℕ) → part.automaton ≢ list → weight_at list part ≡ 0
weight-none part list other = by (pointwise nat_eq part.automaton list) (decides part.automaton list)
  where
    by : (test : Bool) → Decides test (part.automaton ≡ list) → cond test part.count 0 ≡ 0
    by true decides = absurd (other (decides.0 refl))
    by false decides = refl

-- a code that no part has weighs nothing
weight_absent : (seen : List Group) (list : List ℕ) → ((part : Group) → Contains seen part → part.automaton ≢ list) → weight_in seen list ≡ 0
weight_absent seen list none = sum_by-none (weight_at list) seen (λ part held. weight-none part list (none part held))

pub min-cases : (n m : ℕ) → ((n ≤ m) × (min n m ≡ n)) ⊎ ((m ≤ n) × (min n m ≡ m))
min-cases n m = grind arith

min_more : (w a c : ℕ) → a ≡ min w limit → min (a + c) limit ≡ min (w + (0 + c)) limit
min_more w a c is = elim (min-cases w limit) [
  | inl low ↦ elim (min-cases (a + c) limit) [
    | inl below ↦ elim (min-cases (w + (0 + c)) limit) [ inl also ↦ omega (arith, is, low, below, also) | inr above ↦ omega (arith, is, low, below, above) ]
    | inr over ↦ elim (min-cases (w + (0 + c)) limit) [ inl also ↦ omega (arith, is, low, over, also) | inr above ↦ omega (arith, is, low, over, above) ]
  ]
  | inr high ↦ elim (min-cases (a + c) limit) [
    | inl below ↦ elim (min-cases (w + (0 + c)) limit) [ inl also ↦ omega (arith, is, high, below, also) | inr above ↦ omega (arith, is, high, below, above) ]
    | inr over ↦ elim (min-cases (w + (0 + c)) limit) [ inl also ↦ omega (arith, is, high, over, also) | inr above ↦ omega (arith, is, high, over, above) ]
  ]
]

-- a group stays merged where a part with another code is added
merged_other : (seen : List Group) (part group : Group) → part.automaton ≢ group.automaton → IsMerged seen group → IsMerged (seen ++ part ∷ []) group
merged_other seen part group other is = record {
  part = is.part;
  held = Contains-append_left seen (part ∷ []) is.part is.held;
  same = is.same;
  counted = is.counted ∙ ap (λ (n : ℕ). min n limit) (omega (arith, weight_more seen part group.automaton, weight-none part group.automaton other));
}

-- the same code, the counts together
merged_both : (seen : List Group) (part group : Group) → part.automaton ≡ group.automaton → IsMerged seen group → IsMerged (seen ++ part ∷ []) (with_count_of part group)
merged_both seen part group same is = record {
  part = is.part;
  held = Contains-append_left seen (part ∷ []) is.part is.held;
  same = is.same;
  counted = min_more (weight_in seen group.automaton) group.count part.count is.counted
      ∙ ap (λ (n : ℕ). min n limit) (omega (arith, weight_more seen part group.automaton, weight-here part group.automaton same));
}

merged_alone : (seen : List Group) (part : Group) → part.count < 18446744073709551616 → ((one : Group) → Contains seen one → one.automaton ≢ part.automaton)
    → IsMerged (seen ++ part ∷ []) part
merged_alone seen part fits none = record {
  part = part;
  held = Contains-append_right seen (part ∷ []) part (Contains-first part []);
  same = refl;
  counted = elim (min-cases part.count limit) [
    | inl low ↦ sym low.1
    | inr high ↦ omega (arith, fits, high)
  ] ∙ ap (λ (n : ℕ). min n limit) (omega (arith, weight_more seen part part.automaton, weight-here part part.automaton refl, weight_absent seen part.automaton none));
}

rises_apart : (front : List Group) (last : Group) → AllPairs IsEarlier (map code (front ++ last ∷ [])) → (group : Group) → Contains front group → IsEarlier group.automaton last.automaton
rises_apart [] last rising group held = absurd (Contains-none group held)
rises_apart (first ∷ front) last rising group held = elim (Contains-cases first front group held) [
  | inl same ↦ subst (λ (g : Group). IsEarlier g.automaton last.automaton) (sym same)
      (AllPairs-head IsEarlier first.automaton (map code (front ++ last ∷ [])) rising last.automaton
      (subst (λ (l : List (List ℕ)). Contains l last.automaton) (sym (map-append code front (last ∷ []))) (Contains-append_right (map code front) (last.automaton ∷ []) last.automaton (Contains-first last.automaton []))))
  | inr later ↦ rises_apart front last (AllPairs-tail IsEarlier first.automaton (map code (front ++ last ∷ [])) rising) group later
]

one_pair : (list : List ℕ) → AllPairs IsEarlier (list ∷ [])
one_pair list = λ i j d less inside. absurd (omega (arith, less, inside))

module _ (seen rest : List Group) (part : Group) (sorted : AllPairs ComesNotBefore (seen ++ part ∷ rest)) (fits : part.count < 18446744073709551616) where
  -- THE PART goes into the last group
  join_last : (front : List Group) (last : Group) → last.automaton ≡ part.automaton → AreMerged seen (front ++ last ∷ [])
      → AreMerged (seen ++ part ∷ []) (front ++ with_count_of part last ∷ [])
  join_last front last same are = record {
    rising = subst (AllPairs IsEarlier) (map-append code front (last ∷ []) ∙ sym (map-append code front (with_count_of part last ∷ []))) are.rising;
    each = λ group held. elim (Contains-append_cases front (with_count_of part last ∷ []) group held) [
      | inl before ↦ merged_other seen part group
          (λ equal. earlier-itself group.automaton (subst (IsEarlier group.automaton) (same ∙ equal) (rises_apart front last are.rising group before)))
          (are.each group (Contains-append_left front (last ∷ []) group before))
      | inr end ↦ elim (Contains-cases (with_count_of part last) [] group end) [
        | inl is ↦ subst (IsMerged (seen ++ part ∷ [])) (sym is)
            (merged_both seen part last (sym same) (are.each last (Contains-append_right front (last ∷ []) last (Contains-first last []))))
        | inr none ↦ absurd (Contains-none group none)
      ]
    ];
    all = λ one held. elim (Contains-append_cases seen (part ∷ []) one held) [
      | inl old ↦ (let (group, there, equal) = are.all one old in elim (Contains-append_cases front (last ∷ []) group there) [
        | inl before ↦ (group, Contains-append_left front (with_count_of part last ∷ []) group before, equal)
        | inr end ↦ elim (Contains-cases last [] group end) [
          | inl is ↦ (with_count_of part last, Contains-append_right front (with_count_of part last ∷ []) (with_count_of part last) (Contains-first (with_count_of part last) []), equal ∙ ap code is)
          | inr none ↦ absurd (Contains-none group none)
        ]
      ])
      | inr new ↦ elim (Contains-cases part [] one new) [
        | inl is ↦ (with_count_of part last, Contains-append_right front (with_count_of part last ∷ []) (with_count_of part last) (Contains-first (with_count_of part last) []), ap code is ∙ sym same)
        | inr none ↦ absurd (Contains-none one none)
      ]
    ];
  }

  -- THE PART stands behind groups that all come before it
  join_new : (groups : List Group) → ((group : Group) → Contains groups group → IsEarlier group.automaton part.automaton) → AreMerged seen groups
      → AreMerged (seen ++ part ∷ []) (groups ++ part ∷ [])
  join_new groups earlier are = record {
    rising = subst (AllPairs IsEarlier) (sym (map-append code groups (part ∷ [])))
        (AllPairs-append IsEarlier (map code groups) (part.automaton ∷ []) are.rising (one_pair part.automaton)
        (λ x y held end. elim (Contains-cases part.automaton [] y end) [
          | inl is ↦ (let (group, there, same) = Contains-from code groups x held in
              subst (λ (l : List ℕ). IsEarlier l y) (sym same) (subst (IsEarlier group.automaton) (sym is) (earlier group there)))
          | inr none ↦ absurd (Contains-none y none)
        ]));
    each = λ group held. elim (Contains-append_cases groups (part ∷ []) group held) [
      | inl before ↦ merged_other seen part group (λ equal. earlier-itself group.automaton (subst (IsEarlier group.automaton) equal (earlier group before))) (are.each group before)
      | inr end ↦ elim (Contains-cases part [] group end) [
        | inl is ↦ subst (IsMerged (seen ++ part ∷ [])) (sym is) (merged_alone seen part fits (λ one old equal.
            let (group, there, same) = are.all one old in
            earlier-itself part.automaton (subst (λ (l : List ℕ). IsEarlier l part.automaton) (sym same ∙ equal) (earlier group there))))
        | inr none ↦ absurd (Contains-none group none)
      ]
    ];
    all = λ one held. elim (Contains-append_cases seen (part ∷ []) one held) [
      | inl old ↦ (let (group, there, equal) = are.all one old in (group, Contains-append_left groups (part ∷ []) group there, equal))
      | inr new ↦ elim (Contains-cases part [] one new) [
        | inl is ↦ (part, Contains-append_right groups (part ∷ []) part (Contains-first part []), ap code is)
        | inr none ↦ absurd (Contains-none one none)
      ]
    ];
  }

  -- the last group comes before a part with another code
  last_earlier : (groups : List Group) (last : Group) → AreMerged seen groups → Contains groups last → last.automaton ≢ part.automaton → IsEarlier last.automaton part.automaton
  last_earlier groups last are held other = elim (earlier-cases last.automaton part.automaton) [
    | inl less ↦ less
    | inr more ↦ elim more [
      | inl same ↦ absurd (other same)
      | inr before ↦ (let is = are.each last held in
          absurd (across seen rest part is.part sorted is.held (subst (IsEarlier part.automaton) (sym is.same) before)))
    ]
  ]

  join_behind : (front : List Group) (last : Group) → last.automaton ≢ part.automaton → AreMerged seen (front ++ last ∷ []) → AreMerged (seen ++ part ∷ []) ((front ++ last ∷ []) ++ part ∷ [])
  join_behind front last other are = join_new (front ++ last ∷ []) earlier are
    where
      to_part : IsEarlier last.automaton part.automaton
      to_part = last_earlier (front ++ last ∷ []) last are (Contains-append_right front (last ∷ []) last (Contains-first last [])) other

      earlier : (group : Group) → Contains (front ++ last ∷ []) group → IsEarlier group.automaton part.automaton
      earlier group held = elim (Contains-append_cases front (last ∷ []) group held) [
        | inl inside ↦ earlier-chain group.automaton last.automaton part.automaton (rises_apart front last are.rising group inside) to_part
        | inr end ↦ elim (Contains-cases last [] group end) [
          | inl same ↦ subst (λ (g : Group). IsEarlier g.automaton part.automaton) (sym same) to_part
          | inr none ↦ absurd (Contains-none group none)
        ]
      ]

  pub merged-step : (before after : List Group) → AreMerged seen before → IsJoined before part after → AreMerged (seen ++ part ∷ []) after
  merged-step before after are (inl (none, new)) =
      subst (AreMerged (seen ++ part ∷ [])) (sym new) (join_new [] (λ group held. absurd (Contains-none group held)) (subst (AreMerged seen) none are))
  merged-step before after are (inr (front, last, is, inl (same, new))) =
      subst (AreMerged (seen ++ part ∷ [])) (sym new) (join_last front last same (subst (AreMerged seen) is are))
  merged-step before after are (inr (front, last, is, inr (other, new))) =
      subst (AreMerged (seen ++ part ∷ [])) (sym new) (join_behind front last other (subst (AreMerged seen) is are))

-- codes that a test tells apart
pub codes-differ : (first second : List ℕ) (test : Bool) → test ≡ pointwise nat_eq first second → test ≡ false → first ≢ second
codes-differ first second test is fails same = true≢false (sym ((decides first second).1 same) ∙ sym is ∙ fails)

-- the order of the parts does not matter
pub merged-permuted : (parts sorted groups : List Group) → IsPermutation parts sorted → AreMerged sorted groups → AreMerged parts groups
merged-permuted parts sorted groups same are = record {
  rising = are.rising;
  each = λ group held. (let is = are.each group held in record {
    part = is.part;
    held = Contains-permutation sorted parts is.part (IsPermutation-sym parts sorted same) is.held;
    same = is.same;
    counted = is.counted ∙ ap (λ (n : ℕ). min n limit) (sum_by-IsPermutation (weight_at group.automaton) parts sorted same);
  });
  all = λ part held. are.all part (Contains-permutation parts sorted part same held);
}

-- what a sort by codes gives
pub sorted-codes : (xs : List Group) → IsSortedBy (λ (first : Group) second. is_lt (slice_cmp nat_cmp first.automaton second.automaton)) xs → AllPairs ComesNotBefore xs
sorted-codes xs sorted i j d less inside before =
    let not_less = sorted_far (λ (first : Group) second. is_lt (slice_cmp nat_cmp first.automaton second.automaton)) (ranks_by nat_list_cmp_total code) xs sorted i j d (omega (arith, less)) inside in
    let yes_less : true ≡ is_lt (slice_cmp nat_cmp (get_or xs j d).automaton (get_or xs i d).automaton) = sym (ap is_lt before) in
    absurd (true≢false (yes_less ∙ not_less))
