-- The ranks by which steps go on, run by run.
use Rattle.std.proofs.Common.{◌≡◌, ◌≢◌, ℕ, ◌≤◌, ◌<◌, inl, inr, Bool, true, List, [], ◌∷◌, ◌++◌, refl, sym, ap, ◌∙◌, subst, arith}
use Rattle.std.specs.List.{AllPairs, Contains}
use Rattle.std.proofs.lemmas.Bool.{cases_eq}
use Rattle.std.proofs.lemmas.List.Elements.{Contains-append_left, Contains-append_right, Contains-append_cases}
use Rattle.mine_model.proofs.ListLemmas.{Contains-cases, Contains-first, Contains-none, AllPairs-append}
use Rattle.group_search.specs.declared.loads.LoadedState.{LoadedState}
use Rattle.group_search.specs.declared.step.Step.{Step}
use Rattle.group_search.specs.Steps.{weigh_steps, weigh_by, AreAddedUp, Kid, IsKid, AreKids}
use Rattle.group_search.proofs.WeighLemmas.{by-none, by-all, by-append}

abbrev RisingKids : List Kid → Type 0
RisingKids kids = AllPairs (λ (low : Kid) (high : Kid). low.rank < high.rank) kids

pub kids-none : (threshold : ℕ) → 1 ≤ threshold → AreKids threshold [] []
kids-none threshold least = record {
  rising = λ i j d less within. absurd (omega arith);
  each = λ kid held. absurd (Contains-none kid held);
  all = λ rank test enough. absurd (over rank test enough);
}
  where
    over : (rank : ℕ) (test : ℕ → Bool) → threshold ≤ weigh_by rank test [] → ⊥
    over rank test enough = let none : weigh_by rank test [] ≡ 0 = refl in omega (arith, least, enough, none)

abbrev kid_of : ℕ → List LoadedState → Kid
kid_of rank loads = record { rank = rank; loads = loads }

module _ (threshold : ℕ) (seen run : List Step) (rank : ℕ)
    (before : (step : Step) → Contains seen step → step.rank < rank) (same : (step : Step) → Contains run step → step.rank ≡ rank) where
  -- by an earlier rank the run weighs nothing
  other : (r : ℕ) (test : ℕ → Bool) → r ≢ rank → weigh_by r test (seen ++ run) ≡ weigh_by r test seen
  other r test apart =
      let none : weigh_by r test run ≡ 0 = by-none r test run (λ step held by passes. apart (sym by ∙ same step held)) in
      let both = by-append r test seen run in
      omega (arith, both, none)

  -- and by its own rank only the run weighs
  own : (test : ℕ → Bool) → weigh_by rank test (seen ++ run) ≡ weigh_steps test run
  own test =
      let none : weigh_by rank test seen ≡ 0 = by-none rank test seen (λ step held by passes. let less : step.rank < rank = before step held in omega (arith, less, by)) in
      let all : weigh_by rank test run ≡ weigh_steps test run = by-all rank test run same in
      let both = by-append rank test seen run in
      omega (arith, both, none, all)

  kid-less : (kid : Kid) → IsKid seen kid → kid.rank < rank
  kid-less kid is = let (step, held, by) = is.some in let less : step.rank < rank = before step held in omega (arith, less, by)

  kid-stays : (kid : Kid) → IsKid seen kid → IsKid (seen ++ run) kid
  kid-stays kid is = record {
    same = λ test. is.same test ∙ sym (other kid.rank test (λ e. let less : kid.rank < rank = kid-less kid is in omega (arith, less, e)));
    held = λ load held. (let (step, inside, by, at) = is.held load held in (step, Contains-append_left seen run step inside, by, at));
    some = (let (step, inside, by) = is.some in (step, Contains-append_left seen run step inside, by));
  }

  -- a run that is too light has no kid
  pub kids-light : (kids : List Kid) → AreKids threshold seen kids → weigh_steps (λ k. true) run < threshold
      → ((test : ℕ → Bool) → weigh_steps test run ≤ weigh_steps (λ k. true) run) → AreKids threshold (seen ++ run) kids
  kids-light kids are light most = record {
    rising = are.rising;
    each = λ kid held. kid-stays kid (are.each kid held);
    all = λ r test enough. elim (cases_eq r rank) [
      | inl here ↦
          let at : weigh_by r test (seen ++ run) ≡ weigh_steps test run = ap (λ q. weigh_by q test (seen ++ run)) here ∙ own test in
          let less = most test in absurd (omega (arith, enough, at, less, light))
      | inr apart ↦ (let moved : threshold ≤ weigh_by r test seen = subst (λ n. threshold ≤ n) (other r test apart) enough in are.all r test moved)
    ];
  }

  -- any other has the loads that are its steps added up
  pub kids-heavy : (kids : List Kid) (loads : List LoadedState) → AreKids threshold seen kids → AreAddedUp run loads
      → (first : Step) → Contains run first → AreKids threshold (seen ++ run) (kids ++ (record { rank = rank; loads = loads }) ∷ [])
  kids-heavy kids loads are added first there = record {
    rising = AllPairs-append (λ (low : Kid) (high : Kid). low.rank < high.rank) kids ((kid_of rank loads) ∷ []) are.rising (λ i j d less within. absurd (omega (arith, less, within)))
        (λ low high here last. (let is : high ≡ (kid_of rank loads) = only high last in subst (λ (k : Kid). low.rank < k.rank) (sym is) (kid-less low (are.each low here))));
    each = λ kid held. elim (Contains-append_cases kids ((kid_of rank loads) ∷ []) kid held) [
      | inl old ↦ kid-stays kid (are.each kid old)
      | inr last ↦ subst (IsKid (seen ++ run)) (sym (only kid last)) is_new
    ];
    all = λ r test enough. elim (cases_eq r rank) [
      | inl here ↦ ((kid_of rank loads), Contains-append_right kids ((kid_of rank loads) ∷ []) (kid_of rank loads) (Contains-first (kid_of rank loads) []), sym here)
      | inr apart ↦
          let moved : threshold ≤ weigh_by r test seen = subst (λ n. threshold ≤ n) (other r test apart) enough in
          let (kid, held, by) = are.all r test moved in (kid, Contains-append_left kids ((kid_of rank loads) ∷ []) kid held, by)
    ];
  }
    where
      only : (kid : Kid) → Contains ((kid_of rank loads) ∷ []) kid → kid ≡ (kid_of rank loads)
      only kid held = elim (Contains-cases (kid_of rank loads) [] kid held) [ inl is ↦ is | inr none ↦ absurd (Contains-none kid none) ]

      is_new : IsKid (seen ++ run) (kid_of rank loads)
      is_new = record {
        same = λ test. added.same test ∙ sym (own test);
        held = λ load held. (let (step, inside, at) = added.held load held in (step, Contains-append_right seen run step inside, same step inside, at));
        some = (first, Contains-append_right seen run first there, same first there);
      }
