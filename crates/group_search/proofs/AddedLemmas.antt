-- Steps to one state are added up.
use Rattle.std.proofs.Common.{◌≡◌, ℕ, ◌+◌, ◌-◌, ◌≤◌, ◌<◌, ◌^◌, inl, inr, Bool, true, false, cond, List, [], ◌∷◌, ◌++◌, length, take, drop, get_or, refl, sym, ap, ◌∙◌, subst, arith, length-drop}
use Rattle.std.proofs.lemmas.List.{take_more, take_all, get_or-drop}
use Rattle.std.proofs.lemmas.List.Elements.{Contains-append_left, Contains-append_right, Contains-append_cases}
use Rattle.std.proofs.lemmas.List.Sums.{sum_by_push, sum_by_more_le}
use Rattle.mine_model.proofs.ListLemmas.{Contains-cases, Contains-first, Contains-none}
use Rattle.group_search.specs.declared.loads.LoadedState.{LoadedState}
use Rattle.group_search.specs.declared.step.Step.{Step}
use Rattle.group_search.specs.Steps.{weigh, weigh_steps, AreAddedUp}
use Rattle.group_search.proofs.RunLemmas.{no_step}

abbrev pub load_by : Step → LoadedState
load_by step = record { state = step.state; weight = step.weight }

abbrev pub load_with : LoadedState → Step → LoadedState
load_with load step = record { state = load.state; weight = load.weight + step.weight }

weigh-push : (test : ℕ → Bool) (loads : List LoadedState) (load : LoadedState) → weigh test (loads ++ load ∷ []) ≡ weigh test loads + cond (test load.state) load.weight 0
weigh-push test loads load = sum_by_push (λ (l : LoadedState). cond (test l.state) l.weight 0) loads load

steps-push : (test : ℕ → Bool) (steps : List Step) (step : Step) → weigh_steps test (steps ++ step ∷ []) ≡ weigh_steps test steps + cond (test step.state) step.weight 0
steps-push test steps step = sum_by_push (λ (s : Step). cond (test s.state) s.weight 0) steps step

cond-sum : (b : Bool) (m n : ℕ) → cond b (m + n) 0 ≡ cond b m 0 + cond b n 0
cond-sum true m n = refl
cond-sum false m n = omega arith

pub added-none : AreAddedUp [] []
added-none = record { same = λ test. refl; held = λ load held. absurd (Contains-none load held) }

-- a load of its own
pub added-new : (steps : List Step) (loads : List LoadedState) (step : Step) → AreAddedUp steps loads → AreAddedUp (steps ++ step ∷ []) (loads ++ load_by step ∷ [])
added-new steps loads step added = record {
  same = λ test. (let more = weigh-push test loads (load_by step) in let sum = steps-push test steps step in let before = added.same test in omega (arith, more, sum, before));
  held = λ load held. elim (Contains-append_cases loads (load_by step ∷ []) load held) [
    | inl old ↦ (let (from, inside, at) = added.held load old in (from, Contains-append_left steps (step ∷ []) from inside, at))
    | inr last ↦ elim (Contains-cases (load_by step) [] load last) [
      | inl same ↦ (step, Contains-append_right steps (step ∷ []) step (Contains-first step []), ap (λ (l : LoadedState). l.state) same)
      | inr none ↦ absurd (Contains-none load none)
    ]
  ];
}

-- or more weight of the last one
pub added-same : (steps : List Step) (loads : List LoadedState) (last : LoadedState) (step : Step) → step.state ≡ last.state
    → AreAddedUp steps (loads ++ last ∷ []) → AreAddedUp (steps ++ step ∷ []) (loads ++ load_with last step ∷ [])
added-same steps loads last step at added = record {
  same = λ test.
      (let more = weigh-push test loads (load_with last step) in
      let old = weigh-push test loads last in
      let sum = steps-push test steps step in
      let before = added.same test in
      let parts = cond-sum (test last.state) last.weight step.weight in
      let moved : cond (test step.state) step.weight 0 ≡ cond (test last.state) step.weight 0 = ap (λ k. cond (test k) step.weight 0) at in
      omega (arith, more, old, sum, before, parts, moved));
  held = λ load held. elim (Contains-append_cases loads (load_with last step ∷ []) load held) [
    | inl old ↦ (let (from, inside, is) = added.held load (Contains-append_left loads (last ∷ []) load old) in (from, Contains-append_left steps (step ∷ []) from inside, is))
    | inr here ↦ elim (Contains-cases (load_with last step) [] load here) [
      | inl same ↦ (step, Contains-append_right steps (step ∷ []) step (Contains-first step []), ap (λ (l : LoadedState). l.state) same ∙ sym at)
      | inr none ↦ absurd (Contains-none load none)
    ]
  ];
}

-- Along the steps of a run, those behind the first

abbrev pub later_of : List Step → List Step
later_of run = take (length run - 1) (drop 1 run)

later-at : (run : List Step) (i : ℕ) → get_or (later_of run) i no_step ≡ get_or run (i + 1) no_step
later-at run i =
    let long = length-drop 1 run in
    ap (λ l. get_or l i no_step) (take_all (length run - 1) (drop 1 run) (omega (arith, long)))
    ∙ get_or-drop 1 run i no_step ∙ ap (λ n. get_or run n no_step) (let same : 1 + i ≡ i + 1 = omega arith in same)

later-long : (run : List Step) → length (later_of run) ≡ length run - 1
later-long run = let long = length-drop 1 run in ap length (take_all (length run - 1) (drop 1 run) (omega (arith, long))) ∙ long

pub take-next : (run : List Step) (i : ℕ) → i < length (later_of run) → take (i + 1) run ++ get_or (later_of run) i no_step ∷ [] ≡ take (i + 1 + 1) run
take-next run i inside =
    let long = later-long run in
    ap (λ (s : Step). take (i + 1) run ++ s ∷ []) (later-at run i) ∙ sym (take_more run (i + 1) no_step (omega (arith, long, inside)))

pub added-first : (run : List Step) → 1 ≤ length run → AreAddedUp (take 1 run) (load_by (get_or run 0 no_step) ∷ [])
added-first run some =
    subst (λ l. AreAddedUp l (load_by (get_or run 0 no_step) ∷ [])) (sym (take_more run 0 no_step (omega (arith, some)))) (added-new [] [] (get_or run 0 no_step) added-none)

-- the sum does not pass what the run weighs
pub added-fits : (run : List Step) (i : ℕ) (loads : List LoadedState) (last : LoadedState) → i < length (later_of run)
    → weigh_steps (λ k. true) run < 2 ^ 64 → AreAddedUp (take (i + 1) run) (loads ++ last ∷ []) → last.weight + (get_or (later_of run) i no_step).weight < 2 ^ 64
added-fits run i loads last inside fits added =
    let long = later-long run in
    let weight : (get_or (later_of run) i no_step).weight ≡ (get_or run (i + 1) no_step).weight = ap (λ (s : Step). s.weight) (later-at run i) in
    let sum = added.same (λ k. true) in
    let split = weigh-push (λ k. true) loads last in
    let less = sum_by_more_le (λ (s : Step). s.weight) run (i + 1) no_step (omega (arith, long, inside)) in
    omega (arith, fits, sum, split, weight, less)
