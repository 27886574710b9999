-- Steps along edges, and what loads and steps weigh.
use Rattle.std.specs.Prelude.{◌≡◌, ℕ, ◌≤◌, ◌<◌, Bool, false, cond, nat_eq, List, [], map, AllPairs, Contains}
use Rattle.std.specs.List.{sum_by, flat_map, slice_index_or}
use Rattle.automaton_model.specs.declared.state.Edge.{Edge}
use Rattle.automaton_model.specs.Automata.{StateValue}
use Rattle.group_search.specs.declared.loads.LoadedState.{LoadedState}
use Rattle.group_search.specs.declared.step.Step.{Step}

-- the state with the number; past the end, one with no edges where no list ends
abbrev pub state_at : List StateValue → ℕ → StateValue
state_at states number = slice_index_or states number (record { accepts = false; edges = [] })

-- what the loads weigh that stand at states that pass the test
abbrev pub weigh : (ℕ → Bool) → List LoadedState → ℕ
weigh test loads = sum_by (λ (load : LoadedState). cond (test load.state) load.weight 0) loads

-- what the steps weigh that lead to states that pass the test
abbrev pub weigh_steps : (ℕ → Bool) → List Step → ℕ
weigh_steps test steps = sum_by (λ (step : Step). cond (test step.state) step.weight 0) steps

-- and those alone that go by the rank
abbrev pub weigh_by : ℕ → (ℕ → Bool) → List Step → ℕ
weigh_by rank test steps =
    sum_by (λ (step : Step). cond (nat_eq step.rank rank) (cond (test step.state) step.weight 0) 0) steps

-- the steps of a load along edges
abbrev pub steps_along : ℕ → List Edge → List Step
steps_along weight edges =
    map (λ (edge : Edge). record { rank = edge.rank; state = edge.to; weight = weight }) edges

-- the steps of all loads
abbrev pub steps_of : List StateValue → List LoadedState → List Step
steps_of states loads =
    flat_map (λ (load : LoadedState). steps_along load.weight (state_at states load.state).edges) loads

-- by rising rank
abbrev pub AreByRank : List Step → Type 0
AreByRank steps = AllPairs (λ (low : Step) (high : Step). low.rank ≤ high.rank) steps

-- the loads are those of the steps, at whose states they weigh as much
pub record AreAddedUp (steps : List Step) (loads : List LoadedState) : Type 0 where
  pub same : (test : ℕ → Bool) → weigh test loads ≡ weigh_steps test steps
  pub held : (load : LoadedState) → Contains loads load
      → (step : Step) × Contains steps step × (load.state ≡ step.state)

-- the first steps, which all go by one rank, and the later ones, which go by greater ranks
pub record IsRun (rank : ℕ) (run later : List Step) : Type 0 where
  pub same : (step : Step) → Contains run step → step.rank ≡ rank
  pub greater : (step : Step) → Contains later step → rank < step.rank

-- a rank by which steps go, and the loads behind it
pub record Kid : Type 0 where
  pub rank : ℕ
  pub loads : List LoadedState

-- the loads weigh what the steps by the rank weigh, and stand at states to which such steps lead
pub record IsKid (steps : List Step) (kid : Kid) : Type 0 where
  pub same : (test : ℕ → Bool) → weigh test kid.loads ≡ weigh_by kid.rank test steps
  pub held : (load : LoadedState) → Contains kid.loads load
      → (step : Step) × Contains steps step × (step.rank ≡ kid.rank) × (load.state ≡ step.state)
  pub some : (step : Step) × Contains steps step × (step.rank ≡ kid.rank)

-- the ranks behind which the loads can weigh as much as the threshold, rising
pub record AreKids (threshold : ℕ) (steps : List Step) (kids : List Kid) : Type 0 where
  pub rising : AllPairs (λ (low : Kid) (high : Kid). low.rank < high.rank) kids
  pub each : (kid : Kid) → Contains kids kid → IsKid steps kid
  pub all : (rank : ℕ) (test : ℕ → Bool) → threshold ≤ weigh_by rank test steps
      → (kid : Kid) × Contains kids kid × (kid.rank ≡ rank)
