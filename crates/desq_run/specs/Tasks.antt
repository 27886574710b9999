-- What a run leaves that did what its command says, whatever its task.
use Rattle.std.specs.Prelude.{◌≡◌, ℕ, ◌<◌, ◌++◌, true, List, Option, Some, IfSome, length, take}
use Rattle.mine_model.specs.declared.mined.Work.{Work}
use Rattle.command_line.specs.Words.{Command}
use Rattle.desq_run.specs.Ends.{Input, IsInput, IsAccepted, HasGoodProof, HasSource, IsWork, AcceptsHierarchy, AcceptsData}

-- the words name a source that is not refused, and where the files tell their bytes nothing is refused, and
-- where the command asks for the work this is its work
pub record IsDone (words : List (List ℕ)) (holds : List ℕ → Option (List ℕ)) (command : Command)
    (counted : Work) : Type 0 where
  pub source : HasSource words command
  pub hierarchy : AcceptsHierarchy holds command
  pub mined : AcceptsData holds command
  pub accepted : (input : Input) → IsInput words holds input → IsAccepted input
  pub work : command.stats ≡ true → (input : Input) → IsInput words holds input → IsWork input counted

-- the same of a proof that is checked: where the files tell their bytes nothing is refused, and the proof is
-- good and has so many rows
pub record IsJudged (words : List (List ℕ)) (holds : List ℕ → Option (List ℕ)) (command : Command)
    (count : ℕ) : Type 0 where
  pub source : HasSource words command
  pub hierarchy : AcceptsHierarchy holds command
  pub mined : AcceptsData holds command
  pub accepted : (input : Input) → IsInput words holds input → IsAccepted input
  pub good : (input : Input) → IsInput words holds input → HasGoodProof input count

-- a sink gained a text that is such
abbrev pub Gains : (List ℕ → Type 0) → Option (List ℕ) → Option (List ℕ) → Type 0
Gains Is before after =
    (text : List ℕ) × Is text × IfSome before (λ told. after ≡ Some (told ++ text))

-- it gained the first bytes of one, and not all
abbrev pub GainsFirst : (List ℕ → Type 0) → Option (List ℕ) → Option (List ℕ) → Type 0
GainsFirst Is before after = (text : List ℕ) × Is text × IfSome before (λ told. (n : ℕ)
    × (n < length text) × (after ≡ Some (told ++ take n text)))
