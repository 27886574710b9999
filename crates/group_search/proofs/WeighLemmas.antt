-- What loads weigh, and what goes along the edges of their states.
use Rattle.std.proofs.Common.{◌≡◌, ℕ, ◌+◌, ◌≤◌, ◌<◌, ◌⊎◌, inl, inr, Bool, true, false, cond, nat_eq, Some, List, [], ◌∷◌, ◌++◌, length, map, take, get_or, refl, sym, ap, ◌∙◌, subst, arith, true≢false}
use Rattle.std.specs.List.{AllPairs, Contains, sum_by, slice_get}
use Rattle.std.specs.List.Sorted.{IsPermutation}
use Rattle.std.proofs.lemmas.Bool.{cases_eq}
use Rattle.std.proofs.lemmas.Bool.Decides.{Decides-eqb}
use Rattle.std.proofs.lemmas.List.{append-nil, take_more}
use Rattle.std.proofs.lemmas.List.Concat.{flat_map-append, flat_map-cons}
use Rattle.std.proofs.lemmas.List.Sums.{sum_by-cons, sum_by-append, sum_by-le-sum_by}
use Rattle.std.proofs.lemmas.List.Sorted.{sum_by-IsPermutation}
use Rattle.std.proofs.lemmas.Option.{slice_get-get_or, slice_get_within}
use Rattle.mine_model.proofs.ListLemmas.{Contains-cases, Contains-none, Contains-from, AllPairs-head, AllPairs-tail}
use Rattle.mine_model.proofs.ElementLemmas.{get-held, same-some}
use Rattle.mine_model.proofs.SumLemmas.{sum_by-flat_map, sum_by-same, sum_by-most, sum_by-none}
use Rattle.automaton_model.specs.declared.state.Edge.{Edge}
use Rattle.automaton_model.specs.Automata.{StateValue, Accepts}
use Rattle.automaton_model.specs.Searches.{Load, Weigh}
use Rattle.automaton_model.proofs.AutomatonLemmas.{accepts-decided}
use Rattle.group_search.specs.declared.loads.LoadedState.{LoadedState}
use Rattle.group_search.specs.declared.step.Step.{Step}
use Rattle.group_search.specs.Found.{load_of}
use Rattle.group_search.specs.Searched.{IsTrimState, IsTrim}
use Rattle.group_search.specs.Steps.{state_at, weigh, weigh_steps, weigh_by, steps_along, steps_of}

-- Tests

abbrev pub test_of : {P : Type 0} → P ⊎ (P → ⊥) → Bool
test_of (inl p) = true
test_of (inr n) = false

test-holds : {P : Type 0} (d : P ⊎ (P → ⊥)) → test_of d ≡ true → P
test-holds (inl p) is = p
test-holds (inr n) is = absurd (true≢false (sym is))

test-true : {P : Type 0} (d : P ⊎ (P → ⊥)) → P → test_of d ≡ true
test-true (inl p) q = refl
test-true (inr n) q = absurd (n q)

test-false : {P : Type 0} (d : P ⊎ (P → ⊥)) → (P → ⊥) → test_of d ≡ false
test-false (inl p) never = absurd (never p)
test-false (inr n) never = refl

-- whether the list is accepted from the state
abbrev pub is_accepted : List StateValue → List ℕ → ℕ → Bool
is_accepted states list state = test_of (accepts-decided states list state)

pub accepted-holds : (states : List StateValue) (list : List ℕ) (state : ℕ) → is_accepted states list state ≡ true → Accepts states state list
accepted-holds states list state is = test-holds (accepts-decided states list state) is

pub accepted-true : (states : List StateValue) (list : List ℕ) (state : ℕ) → Accepts states state list → is_accepted states list state ≡ true
accepted-true states list state accepts = test-true (accepts-decided states list state) accepts

pub accepted-false : (states : List StateValue) (list : List ℕ) (state : ℕ) → (Accepts states state list → ⊥) → is_accepted states list state ≡ false
accepted-false states list state never = test-false (accepts-decided states list state) never

pub state-there : (states : List StateValue) (k : ℕ) → k < length states → slice_get states k ≡ Some (state_at states k)
state-there states k inside = slice_get-get_or states k (record { accepts = false; edges = [] }) inside

pub at-there : (states : List StateValue) (k : ℕ) (state : StateValue) → slice_get states k ≡ Some state → state_at states k ≡ state
at-there states k state is = same-some (state_at states k) state (slice_get states k) (state-there states k (slice_get_within states k state is)) is

-- the empty list is accepted where a list may end
pub ends-here : (states : List StateValue) (k : ℕ) → k < length states → (state_at states k).accepts ≡ is_accepted states [] k
ends-here states k inside = go (state_at states k).accepts refl
  where
    go : (b : Bool) → (state_at states k).accepts ≡ b → (state_at states k).accepts ≡ is_accepted states [] k
    go true is = is ∙ sym (accepted-true states [] k (state_at states k, state-there states k inside, is))
    go false is = is ∙ sym (accepted-false states [] k (λ (s, at, good). true≢false (sym good ∙ ap (λ (t : StateValue). t.accepts) (same-some s (state_at states k) (slice_get states k) at (state-there states k inside)) ∙ is)))

-- Sums and relations

-- what loads weigh at states that have the property, where a test decides it
pub weigh-sum : (Has : ℕ → Type 0) (test : ℕ → Bool) → ((k : ℕ) → test k ≡ true → Has k) → ((k : ℕ) → Has k → test k ≡ true) → (loads : List LoadedState)
    → Weigh Has (map load_of loads) (weigh test loads)
weigh-sum Has test holds back [] = refl
weigh-sum Has test holds back (load ∷ loads) = go (test load.state) refl (weigh-sum Has test holds back loads)
  where
    go : (b : Bool) → test load.state ≡ b → Weigh Has (map load_of loads) (weigh test loads) → Weigh Has (map load_of (load ∷ loads)) (weigh test (load ∷ loads))
    go true is rest =
        let split : weigh test (load ∷ loads) ≡ cond (test load.state) load.weight 0 + weigh test loads = sum_by-cons (λ (l : LoadedState). cond (test l.state) l.weight 0) load loads in
        inl (holds load.state is, (weigh test loads, split ∙ ap (λ b. cond b load.weight 0 + weigh test loads) is, rest))
    go false is rest =
        let split : weigh test (load ∷ loads) ≡ cond (test load.state) load.weight 0 + weigh test loads = sum_by-cons (λ (l : LoadedState). cond (test l.state) l.weight 0) load loads in
        let first : cond (test load.state) load.weight 0 ≡ 0 = ap (λ b. cond b load.weight 0) is in
        let none : weigh test (load ∷ loads) ≡ weigh test loads = omega (arith, split, first) in
        inr ((λ has. true≢false (sym (back load.state has) ∙ is)), subst (Weigh Has (map load_of loads)) (sym none) rest)

-- a relation has one sum
pub weigh-one : (Has : ℕ → Type 0) (loads : List Load) (m n : ℕ) → Weigh Has loads m → Weigh Has loads n → m ≡ n
weigh-one Has [] m n p q = p ∙ sym q
weigh-one Has (load ∷ loads) m n (inl p) (inl q) = p.1.1 ∙ ap (λ r. load.weight + r) (weigh-one Has loads p.1.0 q.1.0 p.1.2 q.1.2) ∙ sym q.1.1
weigh-one Has (load ∷ loads) m n (inl p) (inr q) = absurd (q.0 p.0)
weigh-one Has (load ∷ loads) m n (inr p) (inl q) = absurd (p.0 q.0)
weigh-one Has (load ∷ loads) m n (inr p) (inr q) = weigh-one Has loads m n p.1 q.1

-- what the loads weigh at states that accept the list
abbrev pub weight_behind : List StateValue → List ℕ → List LoadedState → ℕ
weight_behind states list loads = weigh (is_accepted states list) loads

pub behind-weighs : (states : List StateValue) (list : List ℕ) (loads : List LoadedState)
    → Weigh (λ k. Accepts states k list) (map load_of loads) (weight_behind states list loads)
behind-weighs states list loads = weigh-sum (λ k. Accepts states k list) (is_accepted states list) (accepted-holds states list) (accepted-true states list) loads

pub behind-is : (states : List StateValue) (list : List ℕ) (loads : List LoadedState) (n : ℕ)
    → Weigh (λ k. Accepts states k list) (map load_of loads) n → n ≡ weight_behind states list loads
behind-is states list loads n weighs = weigh-one (λ k. Accepts states k list) (map load_of loads) n (weight_behind states list loads) weighs (behind-weighs states list loads)

pub cond-most : (b : Bool) (n : ℕ) → cond b n 0 ≤ n
cond-most true n = omega arith
cond-most false n = omega arith

pub steps-less : (test : ℕ → Bool) (steps : List Step) → weigh_steps test steps ≤ weigh_steps (λ k. true) steps
steps-less test steps =
    sum_by-le-sum_by (λ (s : Step). cond (test s.state) s.weight 0) (λ (s : Step). s.weight) steps (λ s. cond-most (test s.state) s.weight)

-- What goes along edges by a rank

both-none : (a b : Bool) (w : ℕ) → (a ≡ true → b ≡ true → ⊥) → cond a (cond b w 0) 0 ≡ 0
both-none true true w never = absurd (never refl refl)
both-none true false w never = refl
both-none false b w never = refl

both-yes : (a b : Bool) (w : ℕ) → a ≡ true → b ≡ true → cond a (cond b w 0) 0 ≡ w
both-yes true true w p q = refl
both-yes true false w p q = absurd (true≢false (sym q))
both-yes false b w p q = absurd (true≢false (sym p))

both-most : (a b : Bool) (w : ℕ) → cond a (cond b w 0) 0 ≤ w
both-most true b w = cond-most b w
both-most false b w = omega arith

pub rank-same : (a b : ℕ) → nat_eq a b ≡ true → a ≡ b
rank-same a b is = (Decides-eqb a b).0 is

pub rank-true : (a b : ℕ) → a ≡ b → nat_eq a b ≡ true
rank-true a b same = (Decides-eqb a b).1 same

-- steps of which none goes by the rank to a state that passes weigh nothing
pub by-none : (rank : ℕ) (test : ℕ → Bool) (steps : List Step) → ((step : Step) → Contains steps step → step.rank ≡ rank → test step.state ≡ true → ⊥)
    → weigh_by rank test steps ≡ 0
by-none rank test steps none =
    sum_by-none (λ (s : Step). cond (nat_eq s.rank rank) (cond (test s.state) s.weight 0) 0) steps
    (λ step held. both-none (nat_eq step.rank rank) (test step.state) step.weight (λ p q. none step held (rank-same step.rank rank p) q))

-- steps that all go by the rank
pub by-all : (rank : ℕ) (test : ℕ → Bool) (steps : List Step) → ((step : Step) → Contains steps step → step.rank ≡ rank)
    → weigh_by rank test steps ≡ weigh_steps test steps
by-all rank test steps all =
    sum_by-same (λ (s : Step). cond (nat_eq s.rank rank) (cond (test s.state) s.weight 0) 0) (λ (s : Step). cond (test s.state) s.weight 0) steps
    (λ step held. ap (λ b. cond b (cond (test step.state) step.weight 0) 0) (rank-true step.rank rank (all step held)))

pub by-append : (rank : ℕ) (test : ℕ → Bool) (steps more : List Step) → weigh_by rank test (steps ++ more) ≡ weigh_by rank test steps + weigh_by rank test more
by-append rank test steps more = sum_by-append (λ (s : Step). cond (nat_eq s.rank rank) (cond (test s.state) s.weight 0) 0) steps more

pub by-permuted : (rank : ℕ) (test : ℕ → Bool) (steps others : List Step) → IsPermutation steps others → weigh_by rank test others ≡ weigh_by rank test steps
by-permuted rank test steps others same = sum_by-IsPermutation (λ (s : Step). cond (nat_eq s.rank rank) (cond (test s.state) s.weight 0) 0) steps others same

module _ (rank : ℕ) (test : ℕ → Bool) (weight : ℕ) where
  along-none : (edges : List Edge) → ((edge : Edge) → Contains edges edge → edge.rank ≡ rank → test edge.to ≡ true → ⊥) → weigh_by rank test (steps_along weight edges) ≡ 0
  along-none edges none =
      by-none rank test (steps_along weight edges)
      (λ step held by passes.
      let (edge, inside, is) = Contains-from (λ (e : Edge). let s : Step = record { rank = e.rank; state = e.to; weight = weight } in s) edges step held in
      none edge inside (sym (ap (λ (s : Step). s.rank) is) ∙ by) (ap (λ (s : Step). test s.state) (sym is) ∙ passes))

  split : (edge : Edge) (edges : List Edge)
      → weigh_by rank test (steps_along weight (edge ∷ edges)) ≡ cond (nat_eq edge.rank rank) (cond (test edge.to) weight 0) 0 + weigh_by rank test (steps_along weight edges)
  split edge edges =
      sum_by-cons (λ (s : Step). cond (nat_eq s.rank rank) (cond (test s.state) s.weight 0) 0) (record { rank = edge.rank; state = edge.to; weight = weight }) (steps_along weight edges)

  along-some : (edges : List Edge) → AllPairs (λ (low : Edge) (high : Edge). low.rank < high.rank) edges → (edge : Edge) → Contains edges edge → edge.rank ≡ rank → test edge.to ≡ true
      → weigh_by rank test (steps_along weight edges) ≡ weight
  along-some [] rising edge held by passes = absurd (Contains-none edge held)
  along-some (e ∷ edges) rising edge held by passes = elim (Contains-cases e edges edge held) [
    | inl same ↦
        let here : e.rank ≡ rank = ap (λ (x : Edge). x.rank) (sym same) ∙ by in
        let first : cond (nat_eq e.rank rank) (cond (test e.to) weight 0) 0 ≡ weight =
        both-yes (nat_eq e.rank rank) (test e.to) weight (rank-true e.rank rank here) (ap (λ (x : Edge). test x.to) (sym same) ∙ passes) in
        let rest : weigh_by rank test (steps_along weight edges) ≡ 0 = along-none edges (λ f inside also also_passes.
        let less : e.rank < f.rank = AllPairs-head (λ (low : Edge) (high : Edge). low.rank < high.rank) e edges rising f inside in omega (arith, less, here, also)) in
        split e edges ∙ omega (arith, first, rest)
    | inr later ↦
        let less : e.rank < edge.rank = AllPairs-head (λ (low : Edge) (high : Edge). low.rank < high.rank) e edges rising edge later in
        let first : cond (nat_eq e.rank rank) (cond (test e.to) weight 0) 0 ≡ 0 =
        both-none (nat_eq e.rank rank) (test e.to) weight (λ p q. let here : e.rank ≡ rank = rank-same e.rank rank p in omega (arith, less, here, by)) in
        let rest : weigh_by rank test (steps_along weight edges) ≡ weight =
        along-some edges (AllPairs-tail (λ (low : Edge) (high : Edge). low.rank < high.rank) e edges rising) edge later by passes in
        split e edges ∙ omega (arith, first, rest)
  ]

  along-most : (edges : List Edge) → AllPairs (λ (low : Edge) (high : Edge). low.rank < high.rank) edges → weigh_by rank test (steps_along weight edges) ≤ weight
  along-most [] rising = omega arith
  along-most (e ∷ edges) rising = elim (cases_eq e.rank rank) [
    | inl here ↦
        let first : cond (nat_eq e.rank rank) (cond (test e.to) weight 0) 0 ≤ weight = both-most (nat_eq e.rank rank) (test e.to) weight in
        let rest : weigh_by rank test (steps_along weight edges) ≡ 0 = along-none edges (λ f inside also also_passes.
        let less : e.rank < f.rank = AllPairs-head (λ (low : Edge) (high : Edge). low.rank < high.rank) e edges rising f inside in omega (arith, less, here, also)) in
        let whole = split e edges in
        omega (arith, whole, first, rest)
    | inr other ↦
        let first : cond (nat_eq e.rank rank) (cond (test e.to) weight 0) 0 ≡ 0 =
        both-none (nat_eq e.rank rank) (test e.to) weight (λ p q. other (rank-same e.rank rank p)) in
        let rest : weigh_by rank test (steps_along weight edges) ≤ weight = along-most edges (AllPairs-tail (λ (low : Edge) (high : Edge). low.rank < high.rank) e edges rising) in
        let whole = split e edges in
        omega (arith, whole, first, rest)
  ]

-- The steps of all loads

module _ (states : List StateValue) (trim : IsTrim states) where
  pub trim-at : (k : ℕ) → k < length states → IsTrimState states (state_at states k)
  trim-at k inside = trim (state_at states k) (get-held states k (state_at states k) (state-there states k inside))

  -- WHAT THE STEPS BY A RANK weigh behind it is what the loads weigh
  pub steps-behind : (rank : ℕ) (list : List ℕ) (loads : List LoadedState) → ((load : LoadedState) → Contains loads load → load.state < length states)
      → weigh_by rank (is_accepted states list) (steps_of states loads) ≡ weight_behind states (rank ∷ list) loads
  steps-behind rank list loads there =
      sum_by-flat_map (λ (s : Step). cond (nat_eq s.rank rank) (cond (is_accepted states list s.state) s.weight 0) 0)
      (λ (load : LoadedState). steps_along load.weight (state_at states load.state).edges) loads
      ∙ sum_by-same (λ (load : LoadedState). weigh_by rank (is_accepted states list) (steps_along load.weight (state_at states load.state).edges))
      (λ (load : LoadedState). cond (is_accepted states (rank ∷ list) load.state) load.weight 0) loads
      (λ load held. one load (there load held) (accepts-decided states (rank ∷ list) load.state))
    where
      one : (load : LoadedState) → load.state < length states → Accepts states load.state (rank ∷ list) ⊎ (Accepts states load.state (rank ∷ list) → ⊥)
          → weigh_by rank (is_accepted states list) (steps_along load.weight (state_at states load.state).edges) ≡ cond (is_accepted states (rank ∷ list) load.state) load.weight 0
      one load inside (inl accepts) =
          let (state, edge, is, held, by, next) = accepts in
          let here : state ≡ state_at states load.state = sym (at-there states load.state state is) in
          along-some rank (is_accepted states list) load.weight (state_at states load.state).edges (trim-at load.state inside).rising edge
          (subst (λ (s : StateValue). Contains s.edges edge) here held) by (accepted-true states list edge.to next)
          ∙ ap (λ b. cond b load.weight 0) (sym (accepted-true states (rank ∷ list) load.state accepts))
      one load inside (inr never) =
          along-none rank (is_accepted states list) load.weight (state_at states load.state).edges
          (λ edge held by passes. never (state_at states load.state, edge, state-there states load.state inside, held, by, accepted-holds states list edge.to passes))
          ∙ ap (λ b. cond b load.weight 0) (sym (accepted-false states (rank ∷ list) load.state never))

  -- the steps by one rank weigh no more than the loads
  pub steps-most : (rank : ℕ) (test : ℕ → Bool) (loads : List LoadedState) → ((load : LoadedState) → Contains loads load → load.state < length states)
      → weigh_by rank test (steps_of states loads) ≤ weigh (λ k. true) loads
  steps-most rank test loads there =
      let apart : weigh_by rank test (steps_of states loads) ≡ sum_by (λ (load : LoadedState). weigh_by rank test (steps_along load.weight (state_at states load.state).edges)) loads =
      sum_by-flat_map (λ (s : Step). cond (nat_eq s.rank rank) (cond (test s.state) s.weight 0) 0)
      (λ (load : LoadedState). steps_along load.weight (state_at states load.state).edges) loads in
      let each : sum_by (λ (load : LoadedState). weigh_by rank test (steps_along load.weight (state_at states load.state).edges)) loads ≤ weigh (λ k. true) loads =
      sum_by-most (λ (load : LoadedState). weigh_by rank test (steps_along load.weight (state_at states load.state).edges)) (λ (load : LoadedState). load.weight) loads
      (λ load held. along-most rank test load.weight (state_at states load.state).edges (trim-at load.state (there load held)).rising) in
      omega (arith, apart, each)

-- the steps of one load more
pub steps-more : (states : List StateValue) (loads : List LoadedState) (i : ℕ) (d : LoadedState) (state : StateValue) (edges : List Edge) → i < length loads
    → slice_get states (get_or loads i d).state ≡ Some state → edges ≡ state.edges
    → steps_of states (take i loads) ++ steps_along (get_or loads i d).weight edges ≡ steps_of states (take (i + 1) loads)
steps-more states loads i d state edges inside is same =
    let load : LoadedState = get_or loads i d in
    let f : LoadedState → List Step = λ l. steps_along l.weight (state_at states l.state).edges in
    let here : edges ≡ (state_at states load.state).edges = same ∙ ap (λ (s : StateValue). s.edges) (sym (at-there states load.state state is)) in
    ap (λ e. steps_of states (take i loads) ++ steps_along load.weight e) here
    ∙ ap (λ l. steps_of states (take i loads) ++ l) (sym (flat_map-cons f load [] ∙ append-nil (f load)))
    ∙ sym (flat_map-append f (take i loads) (load ∷ []))
    ∙ ap (steps_of states) (sym (take_more loads i d inside))
