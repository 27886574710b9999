-- The counted work of the engine over candidate automata: the different sets of its parts.
use Rattle.std.specs.Prelude.{◌≡◌, ◌≢◌, ℕ, ◌≤◌, ◌↔◌, List, [], ◌∷◌, ◌++◌, map, length, AllPairs, Contains}
use Rattle.mine_model.specs.declared.item.Item.{Item}
use Rattle.mine_model.specs.declared.mined.Work.{Work}
use Rattle.mine_model.specs.Support.{Sequence}
use Rattle.mine_model.specs.Answer.{Data}
use Rattle.mine_model.specs.Pivots.{IsAliveLabel}
use Rattle.automaton_model.specs.declared.groups.Group.{Group}
use Rattle.automaton_model.specs.Members.{IsPivotMember, IsPivotCode}

-- a pivot and a code
pub record CodeOfPart : Type 0 where
  pub pivot : ℕ
  pub code : List ℕ

-- the pivot is alive, and a sequence that has candidates with this pivot has the code
pub record IsCounted (d : Data Item) (order : List Item) (pair : CodeOfPart) : Type 0 where
  pub least : 1 ≤ pair.pivot
  pub alive : IsAliveLabel d order pair.pivot []
  pub one : Sequence Item
  pub held : Contains d.sequences one
  pub some : List ℕ
  pub member : IsPivotMember d order pair.pivot one.items some
  pub coded : IsPivotCode d order pair.pivot pair.code one.items

-- each pair of an alive pivot and a set of candidates with it is counted once; there is no search tree
pub record IsAutomatonWork (d : Data Item) (order : List Item) (work : Work) : Type 0 where
  pub pairs : List CodeOfPart
  pub once : AllPairs (λ (first : CodeOfPart) second. first ≢ second) pairs
  pub exact : (pair : CodeOfPart) → Contains pairs pair ↔ IsCounted d order pair
  pub nodes : work.nodes ≡ 0
  pub parts : work.parts ≡ length pairs
  pub candidates : work.candidates ≡ 0

-- the pivots with the codes of their groups
abbrev pub pairs_of : List ℕ → List (List Group) → List CodeOfPart
pairs_of [] lists = []
pairs_of (pivot ∷ pivots) [] = []
pairs_of (pivot ∷ pivots) (groups ∷ lists) =
    map (λ (group : Group). record { pivot = pivot; code = group.automaton }) groups ++ pairs_of pivots lists
