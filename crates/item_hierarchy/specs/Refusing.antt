-- Why a hierarchy file is not read, where names are known before.
use Rattle.std.specs.Prelude.{◌≡◌, ℕ, ◌+◌, List, [], ◌∷◌, ◌++◌, length}
use Rattle.mine_model.specs.declared.fault.Fault.{Fault}
use Rattle.mine_model.specs.declared.fault.Fault.TheVariants.{TooManyItems}
use Rattle.mine_model.specs.declared.fault.Which.TheVariants.{Hierarchy}
use Rattle.mine_model.specs.First.{FirstOf, FirstAmong}
use Rattle.mine_model.specs.Limits.{most_items}
use Rattle.mine_model.specs.Text.{lines_of}
use Rattle.mine_model.specs.Refusal.{IsTooLarge, IsTextRefusal, HasMoreNames, names_of}

-- the line is refused behind those before it
abbrev pub IsLineRefusal : List (List ℕ) → List (List ℕ) → List ℕ → Fault → Type 0
IsLineRefusal known before text =
    FirstOf (IsTextRefusal Hierarchy (length before + 1) text)
    (λ fault. HasMoreNames most_items (known ++ names_of (before ++ text ∷ []))
    × (fault ≡ TooManyItems Hierarchy (length before + 1)))

-- the first refusal of the text and the names of the file; where no name is known before, that is the first
-- part of the refusals of a hierarchy file
abbrev pub IsReadRefusal : List (List ℕ) → List ℕ → Fault → Type 0
IsReadRefusal known bytes =
    FirstOf (IsTooLarge Hierarchy bytes) (FirstAmong (IsLineRefusal known) [] (lines_of bytes))
