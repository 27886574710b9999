-- The whole graph of one sequence, which serves for all parts that have this sequence alone.
use Rattle.std.specs.Prelude.{◌≡◌, ℕ, Some, None, List, [], ◌∷◌, length}
use Rattle.mining_job.specs.Problems.{Problem}
use Rattle.sequence_grids.specs.Grids.{GridList}
use Rattle.snapshot_project.specs.Snapshots.{bound_of}
use Rattle.candidate_graph.specs.Graphs.{IsWhole}
use Rattle.graph_order.specs.declared.order.Turn.{Turn}
use Rattle.graph_order.specs.Orders.{AreInOrder}
use Rattle.sequence_candidates.specs.Candidates.{CandidatesValue}
use Rattle.cand_automaton.specs.declared.alone.Alone.{Alone}
use Rattle.cand_automaton.specs.declared.alone.Alone.TheVariants.{Nothing, Once, Whole, TooLarge}

-- the sequence alone, with patterns of any ranks
abbrev pub part_alone : Problem → ℕ → GridList
part_alone problem seq = record {
  problem = problem;
  bound = bound_of (length problem.ranking.order) None;
  sequences = seq ∷ [];
}

-- the graph of the sequence is there with all its edges, and its nodes in order
pub record IsWholeOf (problem : Problem) (value : CandidatesValue) (order : List Turn) (seq : ℕ)
    : Type 0 where
  pub part : value.part ≡ part_alone problem seq
  pub begun : value.begun ≡ Some 0
  pub whole : IsWhole value.nodes
  pub order_is : AreInOrder value.nodes order

-- what is kept is as it says
abbrev pub IsKept : Problem → CandidatesValue → List Turn → Alone → Type 0
IsKept problem value order Nothing = Unit {0}
IsKept problem value order (Once seq) = Unit {0}
IsKept problem value order (Whole seq) = IsWholeOf problem value order seq
IsKept problem value order (TooLarge seq) = Unit {0}

-- nothing is kept, whatever the candidates are
abbrev pub IsFree : Problem → Alone → Type 0
IsFree problem alone = (value : CandidatesValue) (order : List Turn) → IsKept problem value order alone
