-- The sets whose codes are counted: of each sequence the candidates with one pivot, as lists of ranks.
use Rattle.std.specs.Prelude.{ℕ, List}
use Rattle.mine_model.specs.declared.item.Item.{Item}
use Rattle.mine_model.specs.Generation.{IsPatternOf}
use Rattle.mine_model.specs.Answer.{Data}
use Rattle.mine_model.specs.Ranks.{AreRanked}
use Rattle.mine_model.specs.Pivots.{IsWithinPivot}
use Rattle.automaton_model.specs.Codes.{IsCodeOf}

-- the ranks are those of a pattern of the items whose greatest rank is the pivot
pub record IsPivotMember (d : Data Item) (order : List Item) (pivot : ℕ) (items : List Item) (ranks : List ℕ)
    : Type 0 where
  pub pattern : List Item
  pub ranked : AreRanked order pattern ranks
  pub generated : IsPatternOf d.links d.expression items pattern
  pub within : IsWithinPivot order pivot pattern

-- the code of all of them
abbrev pub IsPivotCode : Data Item → List Item → ℕ → List ℕ → List Item → Type 0
IsPivotCode d order pivot code items = IsCodeOf (IsPivotMember d order pivot items) code
