-- Visits, sequence after sequence.
use Rattle.std.specs.Prelude.{◌≡◌, ℕ, ◌↔◌, Bool, IsTrue, Some, List, [], ◌∷◌, ◌++◌, map, Contains, slice_get, slice_index_or}
use Rattle.mine_model.specs.Support.{Sequence}
use Rattle.place_walk.specs.declared.visit.Visit.{Visit}

-- of the visits of one sequence the first is marked, and no other
abbrev pub IsSequence : List Visit → Type 0
IsSequence visits =
    (k : ℕ) (visit : Visit) → slice_get visits k ≡ Some visit → IsTrue visit.first ↔ (k ≡ 0)

-- the visits, cut into those of one sequence after another, each of which has some or none
abbrev pub AreSequences : List Visit → List (List Visit) → Type 0
AreSequences visits [] = visits ≡ []
AreSequences visits (here ∷ others) =
    (behind : List Visit) × (visits ≡ here ++ behind) × IsSequence here × AreSequences behind others

-- what the sequence of a place weighs, where weights are told by place: 1 where none is told
abbrev pub weight_at : List ℕ → ℕ → ℕ
weight_at weights place = slice_index_or weights place 1

-- what the sequence of these visits weighs
abbrev pub weight_of : List ℕ → List Visit → ℕ
weight_of weights [] = 0
weight_of weights (first ∷ rest) = weight_at weights first.place

-- the visits of a sequence, with its weight
abbrev pub weighed : List ℕ → List Visit → Sequence Visit
weighed weights visits = record { items = visits; weight = weight_of weights visits }

abbrev pub all_weighed : List ℕ → List (List Visit) → List (Sequence Visit)
all_weighed weights sequences = map (weighed weights) sequences

-- one of the visits passes
abbrev pub HasOne : (Visit → Bool) → List Visit → Type 0
HasOne test visits = (visit : Visit) × Contains visits visit × IsTrue (test visit)

-- one of the visits passes just where one of those in one of the lists does
abbrev pub IsUnionOf : (Visit → Bool) → List Visit → List (List Visit) → Type 0
IsUnionOf test visits lists =
    HasOne test visits ↔ ((part : List Visit) × Contains lists part × HasOne test part)
