-- Standpoints as lists of numbers.
use Rattle.std.specs.Prelude.{◌≡◌, ℕ, ◌%◌, ◌==◌, Bool, true, false, if◌then◌else◌, List, [], ◌∷◌, map, flat_map}
use Rattle.place_walk.specs.declared.stand.Stand.{Stand}
use Rattle.candidate_graph.specs.Graphs.{Standpoint}

abbrev pub words_of : List Stand → List ℕ
words_of stands = flat_map (λ stand. stand.place ∷ stand.state ∷ []) stands

-- 1 where what is needed was seen, else 0, and of each stand its place and its state
abbrev pub key_of : Standpoint → List ℕ
key_of at = (if at.seen then 1 else 0) ∷ words_of at.stands

-- the stands of these words, the first marked or not
abbrev pub stands_from : Bool → List ℕ → List Stand
stands_from first [] = []
stands_from first (place ∷ []) = []
stands_from first (place ∷ state ∷ words) =
    record { place = place; state = state % 65536; first = first } ∷ stands_from false words

abbrev pub point_of : List ℕ → Standpoint
point_of [] = record { seen = false; stands = [] }
point_of (flag ∷ words) = record { seen = flag == 1; stands = stands_from true words }

-- the words are those of their standpoint
abbrev pub IsKey : List ℕ → Type 0
IsKey words = words ≡ key_of (point_of words)

abbrev pub points_in : List (List ℕ) → List Standpoint
points_in lists = map point_of lists
