-- A mining problem, as a run sets it once its files and its expression are read.
use Rattle.std.specs.Prelude.{◌≡◌, ℕ, ◌≤◌, ◌<◌, List, length}
use Rattle.std.specs.List.{AllByRecursion}
use Rattle.mine_model.specs.declared.item.Item.{Item}
use Rattle.mine_model.specs.Ancestry.{Ancestry}
use Rattle.mine_model.specs.Answer.{Data}
use Rattle.mine_model.specs.Database.{sequence_at}
use Rattle.mine_model.specs.Expression.{named_in}
use Rattle.mine_model.specs.Numbered.{tree_of}
use Rattle.mine_model.specs.Ranks.{Ranking, AreRanks}
use Rattle.mine_model.specs.Support.{Sequence}
use Rattle.fst_compile.specs.Transducer.{Transducer, IsPositionAutomaton, IsTransducerOf}

-- the hierarchy, the sequences, the transducer of the expression, the ranks of the frequent items, the
-- threshold
pub record Problem : Type 0 where
  pub hierarchy : Ancestry
  pub sequences : List (Sequence Item)
  pub transducer : Transducer
  pub ranking : Ranking
  pub threshold : ℕ

-- the data of the run: what the expression is matched with, and the threshold
abbrev pub data_of : Problem → Data Item
data_of problem = record {
  links = problem.hierarchy.links;
  sequences = problem.sequences;
  expression = tree_of problem.transducer.expression;
  threshold = problem.threshold;
}

-- the items of the sequence with this number, counted from 0
abbrev pub items_of : Problem → ℕ → List Item
items_of problem i = (sequence_at problem.sequences i).items

-- the parts fit: all items are items of the hierarchy, the transducer is that of its expression, and the
-- ranks are those of the sequences
pub record IsWhole (problem : Problem) : Type 0 where
  pub items : AllByRecursion (λ sequence. AllByRecursion (λ t. t.0 < problem.hierarchy.items) sequence.items)
      problem.sequences
  pub named : AllByRecursion (λ w. w.0 < problem.hierarchy.items)
      (named_in (tree_of problem.transducer.expression))
  pub automaton : IsPositionAutomaton problem.transducer (tree_of problem.transducer.expression)
  pub paths : IsTransducerOf problem.transducer (tree_of problem.transducer.expression)
  pub ranks : AreRanks problem.hierarchy.links problem.sequences problem.threshold problem.ranking
  pub ranked : length problem.ranking.frequencies ≡ problem.hierarchy.items
  pub least : 1 ≤ problem.threshold
