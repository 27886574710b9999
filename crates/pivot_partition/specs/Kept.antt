-- What is kept between one sequence and the next.
use Rattle.std.specs.Prelude.{◌≡◌, ℕ, ◌+◌, ◌<◌, Bool, None, List, [], length}
use Rattle.mining_job.specs.Problems.{Problem}
use Rattle.sequence_grids.specs.Grids.{GridList}
use Rattle.pivot_partition.specs.Tops.{no_rank}
use Rattle.pivot_partition.specs.Marks.{AreMarked}

-- no grids, under the bound of all ranks, room for each state, and no rank that has a mark
pub record AreKept (problem : Problem) (grids : GridList) (front entered : List ℕ) (marks : List Bool)
    : Type 0 where
  pub grids_are : grids ≡ record {
    problem = problem;
    bound = record { top = length problem.ranking.order; need = None };
    sequences = [];
  }
  pub front_long : length front ≡ length problem.transducer.labels + 1
  pub entered_long : length entered ≡ length problem.transducer.labels + 1
  pub marks_long : length marks ≡ length problem.ranking.order + 1
  pub few : length problem.ranking.order < no_rank
  pub unmarked : AreMarked marks []
