-- Sequences of a part with equal candidates, counted together.
use Rattle.std.specs.Prelude.{◌≡◌, ℕ, ◌≤◌, ◌<◌, ◌↔◌, List, [], map, length, AllPairs, Contains}
use Rattle.mine_model.specs.declared.item.Item.{Item}
use Rattle.mine_model.specs.declared.row.Row.{Row}
use Rattle.mine_model.specs.Support.{Sequence, Counts}
use Rattle.mine_model.specs.Answer.{Data, IsFrequent}
use Rattle.mine_model.specs.Growth.{HasPatternBehind}
use Rattle.mine_model.specs.Pivots.{IsWithinPivot}
use Rattle.mine_model.specs.Ranks.{AreRanked}
use Rattle.mine_model.specs.Numbered.{PatternsDiffer}
use Rattle.mine_model.specs.Database.{sequence_at}
use Rattle.mine_model.specs.Lists.{IsEarlier}
use Rattle.automaton_model.specs.declared.groups.Group.{Group}
use Rattle.automaton_model.specs.Automata.{StateValue, Accepts, code_of}
use Rattle.automaton_model.specs.Members.{IsPivotCode}

-- some of the sequences have the code, and they weigh so much
pub record IsGroupOf (d : Data Item) (order : List Item) (pivot : ℕ) (sequences : List (Sequence Item))
    (group : Group) : Type 0 where
  pub one : Sequence Item
  pub held : Contains sequences one
  pub coded : IsPivotCode d order pivot group.automaton one.items
  pub counted : Counts (IsPivotCode d order pivot group.automaton) sequences group.count

-- the groups of the sequences: the different codes, rising; each sequence has that of a group
pub record AreGroups (d : Data Item) (order : List Item) (pivot : ℕ) (sequences : List (Sequence Item))
    (groups : List Group) : Type 0 where
  pub rising : AllPairs (λ (low : Group) (high : Group). IsEarlier low.automaton high.automaton) groups
  pub group : (group : Group) → Contains groups group → IsGroupOf d order pivot sequences group
  pub all : (sequence : Sequence Item) → Contains sequences sequence
      → (group : Group) × Contains groups group × IsPivotCode d order pivot group.automaton sequence.items

-- the ranks are a member of the set that has the code
abbrev pub LieIn : List ℕ → List ℕ → Type 0
LieIn ranks code = (states : List StateValue) × (code ≡ code_of states) × Accepts states 0 ranks

-- the groups as sequences of a database: a group's code is what it holds, its count what it weighs
abbrev pub grouped : List Group → List (Sequence ℕ)
grouped groups = map (λ (group : Group). record { items = group.automaton; weight = group.count }) groups

-- the pattern's ranks lie in groups that weigh as much as the row says, and that reaches the threshold
pub record IsGroupRow (order : List Item) (threshold : ℕ) (groups : List Group) (row : Row) : Type 0 where
  pub ranks : List ℕ
  pub ranked : AreRanked order row.pattern ranks
  pub counted : Counts (LieIn ranks) (grouped groups) row.support
  pub enough : threshold ≤ row.support

-- the rows are exactly those, each once, in any order
pub record AreGroupRows (order : List Item) (threshold : ℕ) (groups : List Group) (rows : List Row)
    : Type 0 where
  pub once : PatternsDiffer rows
  pub exact : (row : Row) → Contains rows row ↔ IsGroupRow order threshold groups row

-- the sequences with these numbers
abbrev pub part_of : Data Item → List ℕ → List (Sequence Item)
part_of d numbers = map (λ i. sequence_at d.sequences i) numbers

-- the numbers are those of the sequences that have a pattern with this pivot
pub record AreOfPivot (d : Data Item) (order : List Item) (pivot : ℕ) (numbers : List ℕ) : Type 0 where
  pub rising : AllPairs (λ low high. low < high) numbers
  pub exact : (i : ℕ) → Contains numbers i ↔ ((i < length d.sequences)
      × HasPatternBehind d (IsWithinPivot order pivot) [] (sequence_at d.sequences i).items)

-- the rows are the frequent patterns with this pivot
pub record AreRowsOfPivot (d : Data Item) (order : List Item) (pivot : ℕ) (rows : List Row) : Type 0 where
  pub once : PatternsDiffer rows
  pub exact : (row : Row) → Contains rows row
      ↔ (IsFrequent d row.pattern row.support × IsWithinPivot order pivot row.pattern)

-- the groups of the sequences that have a pattern with the pivot
pub record AreGroupsOfPivot (d : Data Item) (order : List Item) (pivot : ℕ) (groups : List Group)
    : Type 0 where
  pub numbers : List ℕ
  pub of_pivot : AreOfPivot d order pivot numbers
  pub are : AreGroups d order pivot (part_of d numbers) groups
