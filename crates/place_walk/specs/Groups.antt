-- The stands of one sequence behind those of another.
use Rattle.std.specs.Prelude.{◌≡◌, ℕ, ◌<◌, ◌↔◌, IsTrue, Some, List, [], ◌∷◌, ◌++◌, length, slice_get}
use Rattle.place_walk.specs.declared.stand.Stand.{Stand}
use Rattle.place_walk.specs.declared.visit.Visit.{Visit}
use Rattle.place_walk.specs.Courses.{Course}
use Rattle.place_walk.specs.Visits.{AreVisitsOf}

-- the first of the stands is marked, and no other
abbrev pub IsMarked : List Stand → Type 0
IsMarked stands =
    (k : ℕ) (stand : Stand) → slice_get stands k ≡ Some stand → IsTrue stand.first ↔ (k ≡ 0)

-- at least one stand, and the first of them is marked
pub record IsGroup (group : List Stand) : Type 0 where
  pub some : 0 < length group
  pub marked : IsMarked group

-- the stands, cut where one is marked
abbrev pub AreGroups : List Stand → List (List Stand) → Type 0
AreGroups stands [] = stands ≡ []
AreGroups stands (group ∷ groups) =
    (behind : List Stand) × (stands ≡ group ++ behind) × IsGroup group × AreGroups behind groups

-- the visits of some whole sequences, and those are left whose stands these are
pub record AreWalked (course : Course) (groups : List (List Stand)) (left : List Stand) (visits : List Visit)
    : Type 0 where
  pub done : List (List Stand)
  pub rest : List (List Stand)
  pub cut : groups ≡ done ++ rest
  pub left_are : AreGroups left rest
  pub visits_are : AreVisitsOf course done visits
