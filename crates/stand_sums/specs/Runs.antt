-- Stands of many prefixes in one run.
use Rattle.std.specs.Prelude.{◌≡◌, ℕ, Bool, IsTrue, List, All, length}
use Rattle.place_walk.specs.declared.stand.Stand.{Stand}
use Rattle.place_walk.specs.declared.visit.Visit.{Visit}
use Rattle.place_walk.specs.Codes.{Fits}

-- the stands, and whether each takes four bytes
pub record RunValue : Type 0 where
  pub narrow : Bool
  pub stands : List Stand

-- a stand behind each of the visits has its place in such a run
abbrev pub HavePlaces : Bool → List Visit → Type 0
HavePlaces narrow visits = IsTrue narrow → All (λ visit. Fits visit.place visit.action.state) visits

-- what a run holds: codes alone, or stands alone
pub record IsRun (narrow : Bool) (codes : List ℕ) (rest : List Stand) : Type 0 where
  pub coded : IsTrue narrow → length rest ≡ 0
  pub plain : (IsTrue narrow → ⊥) → length codes ≡ 0
