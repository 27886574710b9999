-- How many things have a property.
use Rattle.std.specs.Prelude.{◌≡◌, ◌≢◌, ℕ, ◌↔◌, List, length, AllPairs, Contains}

-- n is the number of things that have the property: a list holds exactly these, each once
pub record IsNumberOf {X : Type 0} (Has : X → Type 0) (n : ℕ) : Type 0 where
  pub things : List X
  pub once : AllPairs (λ first second. first ≢ second) things
  pub exact : (x : X) → Contains things x ↔ Has x
  pub counted : n ≡ length things
