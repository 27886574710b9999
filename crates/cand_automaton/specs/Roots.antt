-- States for the candidates of sequences.
use Rattle.std.specs.Prelude.{◌≡◌, ℕ, ◌≤◌, ◌<◌, Option, IfSome, List, length}
use Rattle.mine_model.specs.declared.item.Item.{Item}
use Rattle.mine_model.specs.Answer.{Data}
use Rattle.mining_job.specs.Problems.{data_of}
use Rattle.mining_job.specs.Parts.{pivot_of}
use Rattle.sequence_grids.specs.Grids.{GridList}
use Rattle.snapshot_project.specs.Snapshots.{bound_of}
use Rattle.automaton_model.specs.Automata.{StateValue}
use Rattle.automaton_model.specs.Languages.{IsRightLanguageOf}
use Rattle.automaton_model.specs.Members.{IsPivotMember, IsPivotCode}

-- the state with this number accepts the candidates of the items with the pivot
pub record IsRootFor (d : Data Item) (order : List Item) (pivot : ℕ) (items : List Item)
    (states : List StateValue) (root : ℕ) : Type 0 where
  pub inside : root < length states
  pub language : IsRightLanguageOf (IsPivotMember d order pivot items) states root

-- the state accepts the candidates of the items of a part's sequence, whatever pivot the part is that of
abbrev pub IsRootWithin : GridList → List Item → List StateValue → ℕ → Type 0
IsRootWithin part items states root =
    (pivot : Option ℕ) → IfSome pivot (λ rank. 1 ≤ rank)
    → part.bound ≡ bound_of (length part.problem.ranking.order) pivot
    → IsRootFor (data_of part.problem) part.problem.ranking.order (pivot_of pivot) items states root

-- so the code is that of these candidates
abbrev pub IsCodeWithin : GridList → List Item → List ℕ → Type 0
IsCodeWithin part items code =
    (pivot : Option ℕ) → IfSome pivot (λ rank. 1 ≤ rank)
    → part.bound ≡ bound_of (length part.problem.ranking.order) pivot
    → IsPivotCode (data_of part.problem) part.problem.ranking.order (pivot_of pivot) code items
