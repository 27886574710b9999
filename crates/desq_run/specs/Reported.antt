-- What stands on the error output.
use Rattle.std.specs.Prelude.{◌≡◌, ℕ, ◌++◌, List, Option, Some, IfSome}

-- the error output gained the message, or after a fault of its own the first bytes of it
abbrev pub IsReported : Option (List ℕ) → Option (List ℕ) → Type 0 → List ℕ → Type 0
IsReported before after Faulty message =
    IfSome before (λ b. (gained : List ℕ) × (after ≡ Some (b ++ gained))
    × ((rest : List ℕ) × (message ≡ gained ++ rest)) × ((Faulty → ⊥) → gained ≡ message))
