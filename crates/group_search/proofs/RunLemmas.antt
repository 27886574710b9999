-- Steps by rising rank, run by run.
use Rattle.std.proofs.Common.{◌≡◌, ◌≢◌, ℕ, zero, suc, ◌+◌, ◌-◌, ◌≤◌, ◌<◌, inl, inr, true, false, Some, List, [], ◌∷◌, length, take, drop, get_or, sym, ap, ◌∙◌, subst, arith, add-one, length-drop}
use Rattle.std.specs.List.{Contains, slice_get}
use Rattle.std.specs.Ordering.{nat_cmp, ordering_then, is_lt}
use Rattle.std.specs.Cmp.{nat_cmp_is}
use Rattle.std.specs.declared.cmp.Ordering.{Ordering}
use Rattle.std.specs.declared.cmp.Ordering.TheVariants.{Less}
use Rattle.std.proofs.lemmas.Bool.{cases_lt}
use Rattle.std.proofs.lemmas.List.{get_or-drop, get_or_default, take_more, take_all, drop_all}
use Rattle.std.proofs.lemmas.List.Elements.{Contains-append_cases}
use Rattle.std.proofs.lemmas.Option.{slice_get-get_or}
use Rattle.mine_model.proofs.ListLemmas.{Contains-cases, Contains-none}
use Rattle.group_search.specs.declared.step.Step.{Step}
use Rattle.group_search.specs.Steps.{AreByRank, IsRun}

abbrev pub no_step : Step
no_step = record { rank = 0; state = 0; weight = 0 }

abbrev pub FirstHas : List Step → ℕ → Type 0
FirstHas steps rank = (step : Step) → slice_get steps 0 ≡ Some step → step.rank ≡ rank

-- where a step does not go by the rank, some step stands before it
pub run-some : (steps : List Step) (end rank : ℕ) → FirstHas steps rank → end < length steps → (get_or steps end no_step).rank ≢ rank → 0 < end
run-some steps end rank first inside other = elim (cases_lt 0 end) [
  | inl some ↦ some
  | inr none ↦
      let at : end ≡ 0 = omega (arith, none) in
      let is : (get_or steps 0 no_step).rank ≡ rank = first (get_or steps 0 no_step) (slice_get-get_or steps 0 no_step (omega (arith, inside))) in
      absurd (other (ap (λ k. (get_or steps k no_step).rank) at ∙ is))
]

run-greater : (steps : List Step) (end rank : ℕ) → AreByRank steps → FirstHas steps rank → end < length steps → (get_or steps end no_step).rank ≢ rank
    → (step : Step) → Contains (drop end steps) step → rank < step.rank
run-greater steps end rank sorted first inside other step (k, below, is) =
    let some : 0 < end = run-some steps end rank first inside other in
    let begins : (get_or steps 0 no_step).rank ≡ rank = first (get_or steps 0 no_step) (slice_get-get_or steps 0 no_step (omega (arith, inside))) in
    let least : (get_or steps 0 no_step).rank ≤ (get_or steps end no_step).rank = sorted 0 end no_step some inside in
    let here : get_or steps (end + k) step ≡ step = sym (get_or-drop end steps k step) ∙ is in
    let deep : length (drop end steps) ≡ length steps - end = length-drop end steps in
    let there : end + k < length steps = omega (arith, below, deep, inside) in
    let at : get_or steps (end + k) no_step ≡ step = get_or_default steps (end + k) no_step step there ∙ here in
    elim (cases_lt 0 k) [
      | inl more ↦
          let step_least : (get_or steps end no_step).rank ≤ (get_or steps (end + k) no_step).rank = sorted end (end + k) no_step (omega (arith, more)) there in
          let last : (get_or steps (end + k) no_step).rank ≡ step.rank = ap (λ (s : Step). s.rank) at in
          omega (arith, begins, least, other, step_least, last)
      | inr none ↦
          let same : end + k ≡ end = omega (arith, none) in
          let last : (get_or steps end no_step).rank ≡ step.rank = ap (λ n. (get_or steps n no_step).rank) (sym same) ∙ ap (λ (s : Step). s.rank) at in
          omega (arith, begins, least, other, last)
    ]

pub run-ends : (steps : List Step) (end rank : ℕ) → AreByRank steps → FirstHas steps rank → end < length steps → (get_or steps end no_step).rank ≢ rank
    → ((step : Step) → Contains (take end steps) step → step.rank ≡ rank) → IsRun rank (take end steps) (drop end steps)
run-ends steps end rank sorted first inside other run = record { same = run; greater = run-greater steps end rank sorted first inside other }

pub run-whole : (steps : List Step) (end rank n : ℕ) → length steps ≤ end → length steps ≤ n
    → ((step : Step) → Contains (take end steps) step → step.rank ≡ rank) → IsRun rank (take n steps) (drop n steps)
run-whole steps end rank n over past run = record {
  same = λ step held. run step (subst (λ l. Contains l step) (take_all n steps past ∙ sym (take_all end steps over)) held);
  greater = λ step held. absurd (Contains-none step (subst (λ l. Contains l step) (drop_all n steps past) held));
}

pub run-more : (steps : List Step) (end rank : ℕ) → end < length steps → (get_or steps end no_step).rank ≡ rank
    → ((step : Step) → Contains (take end steps) step → step.rank ≡ rank) → (step : Step) → Contains (take (end + 1) steps) step → step.rank ≡ rank
run-more steps end rank inside is run step held =
    elim (Contains-append_cases (take end steps) (get_or steps end no_step ∷ []) step (subst (λ l. Contains l step) (take_more steps end no_step inside) held)) [
      | inl old ↦ run step old
      | inr last ↦ elim (Contains-cases (get_or steps end no_step) [] step last) [
        | inl same ↦ ap (λ (s : Step). s.rank) same ∙ is
        | inr none ↦ absurd (Contains-none step none)
      ]
    ]

-- Sorted by rank and then by state

rank-not-less : (a b : ℕ) (o : Ordering) → is_lt (ordering_then (nat_cmp a b) o) ≡ false → b ≤ a
rank-not-less a b o e = elim (cases_lt a b) [
  | inl less ↦
      let is : Less ≡ nat_cmp a b = nat_cmp_is a b Less less in
      let t : true ≡ false = subst (λ (r : Ordering). is_lt (ordering_then r o) ≡ false) (sym is) e in absurd (cc)
  | inr over ↦ over
]

pub by-rank : (steps : List Step)
    → ((k : ℕ) (d : Step) → 0 ≤ k → k + 1 < length steps → is_lt (ordering_then (nat_cmp (get_or steps (k + 1) d).rank (get_or steps k d).rank)
    (nat_cmp (get_or steps (k + 1) d).state (get_or steps k d).state)) ≡ false) → AreByRank steps
by-rank steps sorted = λ i j d less inside. by i j d less inside
  where
    by : (i j : ℕ) (d : Step) → i < j → j < length steps → (get_or steps i d).rank ≤ (get_or steps j d).rank
    by i zero d less inside = absurd (omega arith)
    by i (suc m) d less inside =
        let next : m + 1 ≡ suc m = add-one m in
        let step : (get_or steps m d).rank ≤ (get_or steps (m + 1) d).rank =
        rank-not-less (get_or steps (m + 1) d).rank (get_or steps m d).rank (nat_cmp (get_or steps (m + 1) d).state (get_or steps m d).state) (sorted m d (omega arith) (omega (arith, inside))) in
        let at : (get_or steps m d).rank ≤ (get_or steps (suc m) d).rank = subst (λ n. (get_or steps m d).rank ≤ (get_or steps n d).rank) next step in
        elim (cases_lt i m) [
          | inl early ↦ (let before = by i m d early (omega arith) in omega (arith, before, at))
          | inr over ↦ (let same : m ≡ i = omega (arith, less, over) in subst (λ n. (get_or steps n d).rank ≤ (get_or steps (suc m) d).rank) same at)
        ]
