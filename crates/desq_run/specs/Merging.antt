-- How files of outputs were read, one after another.
use Rattle.std.specs.Prelude.{◌≡◌, ◌≢◌, ℕ, ◌+◌, List, [], ◌∷◌, ◌++◌, Option, IfSome, length}
use Rattle.mine_model.specs.declared.fault.Fault.{Fault}
use Rattle.mine_model.specs.declared.fault.Which.TheVariants.{Merged}
use Rattle.mine_model.specs.declared.row.Row.{Row}
use Rattle.mine_model.specs.Answer.{NamedRow}
use Rattle.split_merge.specs.declared.faults.MergeFault.{MergeFault}
use Rattle.split_merge.specs.declared.faults.MergeFault.TheVariants.{ReadFault, NoMemory as OutOfMemory}
use Rattle.split_merge.specs.Merging.{FileFault, IsMerge, IsMergeRefusal, IsMergedFileRefusal, lines_of_files}
use Rattle.split_merge.specs.Rows.{AreRowsOfLines}
use Rattle.desq_run.specs.Merged.{fault_in}

-- the files hold these bytes, where they tell them
abbrev pub AreAsTold : (List ℕ → Option (List ℕ)) → List (List ℕ) → List (List ℕ) → Type 0
AreAsTold holds [] [] = Unit {0}
AreAsTold holds [] (bytes ∷ files) = ⊥
AreAsTold holds (name ∷ names) [] = ⊥
AreAsTold holds (name ∷ names) (bytes ∷ files) =
    IfSome (holds name) (λ held. bytes ≡ held) × AreAsTold holds names files

-- the files of these names were read, nothing of them is refused, and the rows are their merge
pub record WereMerged (threshold : ℕ) (holds : List ℕ → Option (List ℕ)) (names : List (List ℕ))
    (rows : List NamedRow) : Type 0 where
  pub files : List (List ℕ)
  pub told : AreAsTold holds names files
  pub accepted : (refused : FileFault) → IsMergeRefusal threshold files refused → ⊥
  pub merge : IsMerge threshold files rows

-- so many files were read and not refused, and then the next one was refused, or was not read
pub record IsCutShort (threshold : ℕ) (holds : List ℕ → Option (List ℕ)) (names : List (List ℕ))
    (fault : Fault) : Type 0 where
  pub before : List (List ℕ)
  pub first : List (List ℕ)
  pub name : List ℕ
  pub later : List (List ℕ)
  pub cut : names ≡ first ++ name ∷ later
  pub told : AreAsTold holds first before
  pub accepted : (refused : FileFault) → IsMergeRefusal threshold before refused → ⊥
  pub why : MergeFault
  pub is : fault ≡ fault_in (Merged (length before + 1)) why
  pub refused : why ≢ ReadFault → why ≢ OutOfMemory
      → IfSome (holds name) (λ bytes. IsMergedFileRefusal threshold (lines_of_files before) bytes why)

-- the files of these names were read: nothing of them is refused, and their lines say these rows
pub record WereTaken (threshold : ℕ) (holds : List ℕ → Option (List ℕ)) (file_names : List (List ℕ))
    (names : List (List ℕ)) (rows : List Row) : Type 0 where
  pub files : List (List ℕ)
  pub told : AreAsTold holds file_names files
  pub accepted : (refused : FileFault) → IsMergeRefusal threshold files refused → ⊥
  pub said : AreRowsOfLines threshold (lines_of_files files) names rows
