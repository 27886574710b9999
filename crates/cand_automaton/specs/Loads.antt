-- The states of the sequences of a part, those with one state as one load.
use Rattle.std.specs.Prelude.{◌≡◌, ◌≢◌, ℕ, ◌+◌, ◌≤◌, ◌⊎◌, Option, IfSome, List, [], ◌∷◌, ◌++◌, length, sum_by, AllPairs, Contains}
use Rattle.mine_model.specs.declared.item.Item.{Item}
use Rattle.mine_model.specs.Support.{Sequence, Counts}
use Rattle.mine_model.specs.Answer.{Data}
use Rattle.mining_job.specs.Problems.{data_of}
use Rattle.mining_job.specs.Parts.{pivot_of}
use Rattle.sequence_grids.specs.Grids.{GridList}
use Rattle.snapshot_project.specs.Snapshots.{bound_of}
use Rattle.automaton_model.specs.Automata.{StateValue, Accepts}
use Rattle.automaton_model.specs.Members.{IsPivotMember}
use Rattle.automaton_model.specs.Searches.{Load, Weigh}
use Rattle.cand_automaton.specs.Roots.{IsRootFor}

-- the weight went to the load at the state, or is a load of its own where the state has none
abbrev pub IsLoaded : List Load → ℕ → ℕ → List Load → Type 0
IsLoaded before state weight after =
    ((front : List Load) × (back : List Load) × (old : ℕ)
    × (before ≡ front ++ (record { state = state; weight = old }) ∷ back)
    × (after ≡ front ++ (record { state = state; weight = old + weight }) ∷ back))
    ⊎ (((load : Load) → Contains before load → load.state ≢ state)
    × (after ≡ before ++ (record { state = state; weight = weight }) ∷ []))

-- the load stands at the state of one of the sequences
pub record IsLoadOf (d : Data Item) (order : List Item) (pivot : ℕ) (sequences : List (Sequence Item))
    (states : List StateValue) (load : Load) : Type 0 where
  pub one : Sequence Item
  pub held : Contains sequences one
  pub root : IsRootFor d order pivot one.items states load.state

-- the loads are those of the sequences: each sequence has one, and they weigh at the candidates what the
-- sequences that have them count
pub record AreLoadsOf (d : Data Item) (order : List Item) (pivot : ℕ) (sequences : List (Sequence Item))
    (states : List StateValue) (loads : List Load) : Type 0 where
  pub once : AllPairs (λ (first : Load) second. first.state ≢ second.state) loads
  pub each : (load : Load) → Contains loads load → IsLoadOf d order pivot sequences states load
  pub all : (sequence : Sequence Item) → Contains sequences sequence
      → (load : Load) × Contains loads load × IsRootFor d order pivot sequence.items states load.state
  pub weigh : (ranks : List ℕ) (n : ℕ) → Counts (λ items. IsPivotMember d order pivot items ranks) sequences n
      → Weigh (λ state. Accepts states state ranks) loads n
  pub sum : sum_by (λ (load : Load). load.weight) loads
      ≡ sum_by (λ (sequence : Sequence Item). sequence.weight) sequences

-- where the loads were those of some sequences, they are those of this one as well
abbrev pub AreLoadedWith : GridList → Sequence Item → List StateValue → List Load → List StateValue
    → List Load → Type 0
AreLoadedWith part sequence states loads later after =
    (pivot : Option ℕ) (sequences : List (Sequence Item)) → IfSome pivot (λ rank. 1 ≤ rank)
    → part.bound ≡ bound_of (length part.problem.ranking.order) pivot
    → AreLoadsOf (data_of part.problem) part.problem.ranking.order (pivot_of pivot) sequences states loads
    → AreLoadsOf (data_of part.problem) part.problem.ranking.order (pivot_of pivot)
    (sequences ++ sequence ∷ []) later after
