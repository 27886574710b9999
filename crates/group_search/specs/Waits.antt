-- The prefixes that wait.
use Rattle.std.specs.Prelude.{◌≡◌, ℕ, ◌≤◌, ◌<◌, ◌⊎◌, true, List, [], ◌∷◌, ◌++◌, length, map, take, slice_range, AllPairs, Contains}
use Rattle.group_search.specs.declared.loads.LoadedState.{LoadedState}
use Rattle.group_search.specs.declared.stack.Waiting.{Waiting}
use Rattle.group_search.specs.declared.stack.Stack.{Stack}
use Rattle.group_search.specs.declared.step.Step.{Step}
use Rattle.group_search.specs.Steps.{weigh_steps, Kid, AreAddedUp, AreKids}

-- a prefix that is to grow, and the loads behind it
pub record Wait : Type 0 where
  pub prefix : List ℕ
  pub loads : List LoadedState

-- the prefix that an entry stands for, and its loads
abbrev pub wait_of : List ℕ → List LoadedState → Waiting → Wait
wait_of prefix loads entry = record {
  prefix = take entry.depth prefix ++ entry.rank ∷ [];
  loads = slice_range loads entry.from entry.end;
}

-- those that all entries stand for
abbrev pub waits_in : List ℕ → List LoadedState → List Waiting → List Wait
waits_in prefix loads entries = map (wait_of prefix loads) entries

-- the prefixes that wait, the next one last
abbrev pub waits_of : Stack → List Wait
waits_of stack = waits_in stack.prefix.items stack.loads.items stack.waiting.items

-- a prefix for each of the ranks
abbrev pub waits_behind : List ℕ → List Kid → List Wait
waits_behind prefix kids =
    map (λ (kid : Kid). record { prefix = prefix ++ kid.rank ∷ []; loads = kid.loads }) kids

-- the entry's part of the prefix and its loads are there
pub record IsEntry (prefix : List ℕ) (loads : List LoadedState) (entry : Waiting) : Type 0 where
  pub deep : entry.depth ≤ length prefix
  pub rises : entry.from ≤ entry.end
  pub held : entry.end ≤ length loads

-- the second entry is no less deep, and its loads stand behind those of the first
pub record IsBelow (low high : Waiting) : Type 0 where
  pub depth : low.depth ≤ high.depth
  pub loads : low.end ≤ high.from

-- the entries are there, one above another
pub record AreStacked (prefix : List ℕ) (loads : List LoadedState) (entries : List Waiting) : Type 0 where
  pub each : (entry : Waiting) → Contains entries entry → IsEntry prefix loads entry
  pub order : AllPairs IsBelow entries

abbrev pub IsStacked : Stack → Type 0
IsStacked stack = AreStacked stack.prefix.items stack.loads.items stack.waiting.items

-- the prefix that waited last was taken, with its loads
pub record IsTaken (before : Stack) (loads : List LoadedState) (after : Stack) : Type 0 where
  pub stacked : IsStacked after
  pub last : waits_of before ≡ waits_of after ++ (record { prefix = after.prefix.items; loads = loads }) ∷ []

-- prefixes wait that are longer by one of the ranks
pub record ArePushed (before : Stack) (kids : List Kid) (after : Stack) : Type 0 where
  pub stacked : IsStacked after
  pub prefix : after.prefix.items ≡ before.prefix.items
  pub waits : waits_of after ≡ waits_of before ++ waits_behind before.prefix.items kids

-- the rank of the run was pushed, if the run weighs enough
abbrev pub IsHeavy : ℕ → Stack → ℕ → List Step → Stack → Type 0
IsHeavy threshold before rank run after =
    ((weigh_steps (λ state. true) run < threshold) × ArePushed before [] after)
    ⊎ ((threshold ≤ weigh_steps (λ state. true) run) × ((loads : List LoadedState) × AreAddedUp run loads
    × ArePushed before ((record { rank = rank; loads = loads }) ∷ []) after))

-- the kids of the steps were pushed
pub record HaveGrown (threshold : ℕ) (before : Stack) (steps : List Step) (after : Stack) : Type 0 where
  pub kids : List Kid
  pub are : AreKids threshold steps kids
  pub pushed : ArePushed before kids after
