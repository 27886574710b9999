-- The search over prefixes: what it has found, and what waits.
use Rattle.std.specs.Prelude.{◌≡◌, ℕ, ◌+◌, ◌-◌, ◌^◌, ◌≤◌, ◌<◌, ◌⊎◌, ◌↔◌, true, List, [], ◌∷◌, ◌++◌, length, map, AllPairs, Contains}
use Rattle.std.specs.List.{sum_by}
use Rattle.std.specs.List.Sorted.{IsPermutation}
use Rattle.mine_model.specs.declared.item.Item.{Item}
use Rattle.mine_model.specs.declared.row.Row.{Row}
use Rattle.mine_model.specs.Ranks.{AreRanked}
use Rattle.mine_model.specs.Numbered.{PatternsDiffer}
use Rattle.automaton_model.specs.Automata.{StateValue, Accepts}
use Rattle.automaton_model.specs.Searches.{Weigh}
use Rattle.group_search.specs.declared.loads.LoadedState.{LoadedState}
use Rattle.group_search.specs.declared.step.Step.{Step}
use Rattle.group_search.specs.declared.stack.Stack.{Stack}
use Rattle.group_search.specs.Found.{load_of}
use Rattle.group_search.specs.Searched.{IsRankList}
use Rattle.group_search.specs.Steps.{state_at, weigh, steps_of}
use Rattle.group_search.specs.Waits.{Wait, HaveGrown}

-- the loads stand at states, what these accept behind the prefix is a list of ranks, and the loads weigh
-- less than 2^64 together
pub record IsSound (states : List StateValue) (count most : ℕ) (wait : Wait) : Type 0 where
  pub there : (load : LoadedState) → Contains wait.loads load → load.state < length states
  pub lists : (load : LoadedState) → Contains wait.loads load → (list : List ℕ)
      → Accepts states load.state list → IsRankList count most (wait.prefix ++ list)
  pub fits : weigh (λ state. true) wait.loads < 2 ^ 64
  pub deep : length wait.prefix ≤ most

-- the row's ranks begin with the prefix, and the loads weigh behind it what the row says
pub record IsBehind (order : List Item) (threshold : ℕ) (states : List StateValue) (wait : Wait) (row : Row)
    : Type 0 where
  pub more : List ℕ
  pub ranked : AreRanked order row.pattern (wait.prefix ++ more)
  pub weighed : Weigh (λ state. Accepts states state more) (map load_of wait.loads) row.support
  pub enough : threshold ≤ row.support

-- the row of the prefix itself, where its loads weigh enough
pub record IsOwnRow (order : List Item) (prefix : List ℕ) (weight : ℕ) (row : Row) : Type 0 where
  pub ranked : AreRanked order row.pattern prefix
  pub support : row.support ≡ weight

abbrev pub IsOwn : List Item → ℕ → List ℕ → ℕ → List Row → Type 0
IsOwn order threshold prefix weight own =
    ((own ≡ []) × (weight < threshold))
    ⊎ ((row : Row) × (own ≡ row ∷ []) × (threshold ≤ weight) × IsOwnRow order prefix weight row)

-- the prefix was grown: its own row, if any, was found, and longer prefixes wait
pub record IsGrown (order : List Item) (threshold : ℕ) (states : List StateValue) (loads : List LoadedState)
    (before : Stack) (found : List Row) (after : Stack) (rows : List Row) : Type 0 where
  pub own : List Row
  pub added : rows ≡ found ++ own
  pub row : IsOwn order threshold before.prefix.items
      (weigh (λ state. (state_at states state).accepts) loads) own
  pub steps : List Step
  pub same : IsPermutation (steps_of states loads) steps
  pub kids : HaveGrown threshold before steps after

-- no list begins with both
abbrev pub AreApart : List ℕ → List ℕ → Type 0
AreApart prefix other = (more rest : List ℕ) → prefix ++ more ≡ other ++ rest → ⊥

-- the row's ranks do not begin with the prefix
abbrev pub IsPast : List Item → Row → Wait → Type 0
IsPast order row wait = (more : List ℕ) → AreRanked order row.pattern (wait.prefix ++ more) → ⊥

-- of the rows behind all loads those were found that do not stand behind a prefix that waits
pub record IsSearching (order : List Item) (threshold : ℕ) (states : List StateValue) (count most : ℕ)
    (all : Wait) (waits : List Wait) (rows : List Row) : Type 0 where
  pub sound : (wait : Wait) → Contains waits wait → IsSound states count most wait
  pub exact : (row : Row) → IsBehind order threshold states all row
      ↔ (Contains rows row ⊎ ((wait : Wait) × Contains waits wait × IsBehind order threshold states wait row))
  pub once : PatternsDiffer rows
  pub past : (row : Row) → Contains rows row → (wait : Wait) → Contains waits wait → IsPast order row wait
  pub apart : AllPairs (λ (low : Wait) (high : Wait). AreApart low.prefix high.prefix) waits

-- how many prefixes there can be below those that wait, where none has more than so many longer ones
abbrev pub work_of : ℕ → ℕ → List Wait → ℕ
work_of count most waits = sum_by (λ (wait : Wait). (count + 1) ^ (most - length wait.prefix)) waits
