-- Groups with equal automata as one.
use Rattle.std.specs.Prelude.{◌≡◌, ◌≢◌, ℕ, ◌+◌, ◌-◌, ◌^◌, ◌⊎◌, cond, min, nat_eq, List, [], ◌∷◌, ◌++◌, map, sum_by, AllPairs, Contains}
use Rattle.std.specs.Cmp.Lexicographic.{pointwise}
use Rattle.mine_model.specs.declared.item.Item.{Item}
use Rattle.mine_model.specs.Support.{Sequence}
use Rattle.mine_model.specs.Answer.{Data}
use Rattle.mine_model.specs.Lists.{IsEarlier}
use Rattle.automaton_model.specs.declared.groups.Group.{Group}
use Rattle.automaton_model.specs.Members.{IsPivotCode}

-- the part does not come before the other by its code
abbrev pub ComesNotBefore : Group → Group → Type 0
ComesNotBefore other part = IsEarlier part.automaton other.automaton → ⊥

-- what the group counts where it has the code
abbrev pub weight_at : List ℕ → Group → ℕ
weight_at code group = cond (pointwise nat_eq group.automaton code) group.count 0

-- what the groups with the code count together
abbrev pub weight_in : List Group → List ℕ → ℕ
weight_in groups code = sum_by (weight_at code) groups

-- some part has the group's automaton, and all that have it count together what the group counts, which stops
-- at the limit of 64 bits
pub record IsMerged (parts : List Group) (group : Group) : Type 0 where
  pub part : Group
  pub held : Contains parts part
  pub same : part.automaton ≡ group.automaton
  pub counted : group.count ≡ min (weight_in parts group.automaton) (2 ^ 64 - 1)

-- the groups of the parts: their different automata, by rising codes, each with what the parts with it count
pub record AreMerged (parts groups : List Group) : Type 0 where
  pub rising : AllPairs IsEarlier (map (λ (group : Group). group.automaton) groups)
  pub each : (group : Group) → Contains groups group → IsMerged parts group
  pub all : (part : Group) → Contains parts part
      → (group : Group) × Contains groups group × (part.automaton ≡ group.automaton)

-- the group with the count of the part as well
abbrev pub with_count_of : Group → Group → Group
with_count_of part group =
    record { automaton = group.automaton; count = min (group.count + part.count) (2 ^ 64 - 1) }

-- the part went into the last group, where that has its automaton, or stands behind it
abbrev pub IsJoinedTo : List Group → Group → Group → List Group → Type 0
IsJoinedTo front last part after =
    ((last.automaton ≡ part.automaton) × (after ≡ front ++ with_count_of part last ∷ []))
    ⊎ ((last.automaton ≢ part.automaton) × (after ≡ (front ++ last ∷ []) ++ part ∷ []))

-- the part went among the groups
abbrev pub IsJoined : List Group → Group → List Group → Type 0
IsJoined before part after =
    ((before ≡ []) × (after ≡ part ∷ []))
    ⊎ ((front : List Group) × (last : Group) × (before ≡ front ++ last ∷ [])
    × IsJoinedTo front last part after)

-- the part is the sequence alone: its automaton is that of the candidates with the pivot, its count the
-- weight
abbrev pub IsCodedBy : Data Item → List Item → ℕ → Sequence Item → Group → Type 0
IsCodedBy d order pivot sequence part =
    IsPivotCode d order pivot part.automaton sequence.items × (part.count ≡ sequence.weight)
