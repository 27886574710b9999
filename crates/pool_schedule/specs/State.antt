-- The schedule machine: workers that share the labels of a tree.
use Rattle.std.specs.Prelude.{◌≡◌, ℕ, ◌-◌, Option, Some, None, List, [], ◌∷◌, ◌++◌, replicate}
use Rattle.std.specs.List.{flat_map}
use Rattle.search_tree.specs.Cover.{Balanced}

-- the words of the promise

-- what one worker has, each node by its label
pub record Load : Type 0 where
  pub deque : List (List ℕ)
  pub stack : List (List ℕ)
  pub pending : Option (List ℕ)

pub record State : Type 0 where
  pub workers : List Load
  pub posted : List (List ℕ)

abbrev pub idle : Load
idle = record { deque = []; stack = []; pending = None }

-- all roots lie in order in the deque of the first worker, and nothing else is there
abbrev pub start : List (List ℕ) → ℕ → State
start roots workers = record {
  workers = record { deque = roots; stack = []; pending = None } ∷ replicate (workers - 1) idle;
  posted = [];
}

abbrev pub pending_of : Option (List ℕ) → List (List ℕ)
pending_of None = []
pending_of (Some label) = label ∷ []

-- the labels that all workers have pending
abbrev pub all_pending : List Load → List (List ℕ)
all_pending workers = flat_map (λ (worker : Load). pending_of worker.pending) workers

-- the labels in all stacks and deques
abbrev pub all_held : List Load → List (List ℕ)
all_held workers = flat_map (λ (worker : Load). worker.stack ++ worker.deque) workers

-- the labels that were grown
abbrev pub grown : State → List (List ℕ)
grown state = state.posted ++ all_pending state.workers

-- what is posted, pending, in a stack or in a deque are the roots and the kids of what is posted or pending
abbrev pub IsBalanced : List (List ℕ) → (List ℕ → List (List ℕ)) → State → Type 0
IsBalanced roots kids state = Balanced roots kids (grown state) (all_held state.workers)

-- nothing is pending, and all stacks and deques are empty
abbrev pub IsIdle : State → Type 0
IsIdle state = (all_pending state.workers ≡ []) × (all_held state.workers ≡ [])
