-- What a sink and the room in front of it have of a text, where the sink tells what it got.
use Rattle.std.specs.Prelude.{◌≡◌, ℕ, ◌<◌, List, ◌++◌, Option, Some, IfSome, length, take}

-- the sink gained the text but for its end, which the room holds
abbrev pub IsHeld : Option (List ℕ) → Option (List ℕ) → List ℕ → List ℕ → Type 0
IsHeld before after held text =
    IfSome before (λ told. (gained : List ℕ) × (after ≡ Some (told ++ gained)) × (gained ++ held ≡ text))

-- the sink gained a part of the text from its start, and not all
abbrev pub IsCut : Option (List ℕ) → Option (List ℕ) → List ℕ → Type 0
IsCut before after text =
    IfSome before (λ told. (n : ℕ) × (n < length text) × (after ≡ Some (told ++ take n text)))
