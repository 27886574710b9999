-- Why a schedule ends: what is left to do falls at each event but a put, and a put uses up a choice.
use Rattle.std.proofs.Common.{ℕ, ◌+◌, ◌-◌, ◌*◌, ◌≤◌, List, length, sum_by}
use Rattle.pool_schedule.specs.State.{Load, State, all_pending, grown}
use Rattle.pool_schedule.specs.declared.event.Event.{Event}
use Rattle.pool_schedule.specs.declared.event.Event.TheVariants.{Put, Take, Steal, Grow, Post}

-- how many labels lie in deques
abbrev pub lying : List Load → ℕ
lying workers = sum_by (λ (worker : Load). length worker.deque) workers

-- what was grown lies in the tree
abbrev pub IsWithin : List (List ℕ) → State → Type 0
IsWithin tree state = (weight : List ℕ → ℕ) → sum_by weight (grown state) ≤ sum_by weight tree

-- how much is left to do where these labels are the tree's
abbrev pub left_over : List (List ℕ) → State → ℕ
left_over tree state = 2 * (length tree - length (grown state)) + (length (all_pending state.workers) + lying state.workers)

-- by how much more than others a put may add to what is left to do
abbrev pub extra : Event → ℕ
extra (Post w) = 0
extra (Grow w) = 0
extra (Put w) = 2
extra (Take w) = 0
extra (Steal w from) = 0

-- what falls at each event of a schedule that still has these choices
abbrev pub to_do : List (List ℕ) → List ℕ → State → ℕ
to_do tree choices state = 2 * length choices + left_over tree state
