-- What a search over loaded states finds.
use Rattle.std.specs.Prelude.{◌≡◌, ℕ, ◌≤◌, ◌↔◌, List, Contains}
use Rattle.mine_model.specs.declared.item.Item.{Item}
use Rattle.mine_model.specs.declared.row.Row.{Row}
use Rattle.mine_model.specs.Ranks.{AreRanked}
use Rattle.mine_model.specs.Numbered.{PatternsDiffer}
use Rattle.automaton_model.specs.declared.groups.Group.{Group}
use Rattle.automaton_model.specs.Automata.{StateValue, Accepts}
use Rattle.automaton_model.specs.Codes.{IsCodeOf}
use Rattle.automaton_model.specs.Searches.{Load, Weigh}
use Rattle.group_search.specs.declared.loads.LoadedState.{LoadedState}

-- a load as the program holds it
abbrev pub load_of : LoadedState → Load
load_of held = record { state = held.state; weight = held.weight }

-- the pattern's ranks are accepted from states whose loads weigh as much as the row says, and that reaches
-- the threshold
pub record IsLoadedRow (order : List Item) (threshold : ℕ) (states : List StateValue) (loads : List Load)
    (row : Row) : Type 0 where
  pub ranks : List ℕ
  pub ranked : AreRanked order row.pattern ranks
  pub weighed : Weigh (λ state. Accepts states state ranks) loads row.support
  pub enough : threshold ≤ row.support

-- the rows are exactly those, each once, in any order
pub record AreLoadedRows (order : List Item) (threshold : ℕ) (states : List StateValue) (loads : List Load)
    (rows : List Row) : Type 0 where
  pub once : PatternsDiffer rows
  pub exact : (row : Row) → Contains rows row ↔ IsLoadedRow order threshold states loads row

-- the group's automaton is that of what the load's state accepts, and both weigh the same
pub record StandsFor (states : List StateValue) (load : Load) (group : Group) : Type 0 where
  pub coded : IsCodeOf (Accepts states load.state) group.automaton
  pub weight : load.weight ≡ group.count
