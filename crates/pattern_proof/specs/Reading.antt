-- What parts of a line say.
use Rattle.std.specs.Prelude.{◌≡◌, ◌≢◌, ℕ, ◌+◌, ◌<◌, ◌^◌, List, [], map}
use Rattle.std.specs.List.{AllByRecursion, join_with_byte}
use Rattle.mine_model.specs.declared.item.Item.{Item}
use Rattle.mine_model.specs.Bytes.{space}
use Rattle.mine_model.specs.Names.{name_of, HasName}
use Rattle.fst_compile.specs.declared.edge.State.{State}
use Rattle.pattern_proof.specs.ProofLines.{Cited, spaced, AreDecimals}

-- names of items with one space between, at least one
abbrev pub SaysNames : List (List ℕ) → List ℕ → List Item → Type 0
SaysNames names text items = (text ≡ join_with_byte space (map (name_of names) items)) × (items ≢ [])
    × AllByRecursion (HasName names) items

-- a space before each state
abbrev pub SaysStates : List ℕ → List ℕ → Type 0
SaysStates text states = (words : List (List ℕ)) × (text ≡ spaced words) × AreDecimals words states

-- numbers of 32 bits
abbrev pub AreSmall : List ℕ → Type 0
AreSmall numbers = AllByRecursion (λ n. n < 2 ^ 32) numbers

abbrev pub IsSmall : Cited → Type 0
IsSmall path = (path.place + 1 < 2 ^ 32) × AreSmall path.states

abbrev pub numbers_of : List State → List ℕ
numbers_of states = map (λ state. state.0) states
