use Rattle.std.proofs.Common.{ℕ, List}
use Rattle.search_tree.specs.Cover.{Covers, IsInTree}
use Rattle.search_tree.proofs.TreeLemmas.{cover_once, cover_members}
use Rattle.search_tree.proofs.DepthLemmas.{in_tree}
use Rattle.pool_schedule.specs.State.{State, start}
use Rattle.pool_schedule.specs.Steps.{IsQuiet, Runs}
use Rattle.pool_schedule.specs.declared.event.Event.{Event}
use Rattle.pool_schedule.proofs.BalanceLemmas.{start-balance, runs-balance, idle-covers}
use Rattle.pool_schedule.proofs.QuietLemmas.{idle_from_quiet}
use Rattle.pool_schedule.proofs.laws.quiet_machine_posted_the_tree.Goals as goal

covers : (roots : List (List ℕ)) (kids : List ℕ → List (List ℕ)) (workers : ℕ) (events : List Event) (last : State)
    → Runs kids (start roots workers) events last → IsQuiet kids last → Covers roots kids last.posted
covers roots kids workers events last s quiet =
    idle-covers roots kids last (runs-balance roots kids events (start roots workers) last s (start-balance roots kids workers))
    (idle_from_quiet kids last quiet)

pub returns : goal.returns
returns c = record {
  cover = λ roots kids workers events last s quiet. covers roots kids workers events last s quiet;
  members = λ roots kids longer workers events last s quiet label.
      cover_members roots kids longer (IsInTree roots kids) (in_tree roots kids) last.posted (covers roots kids workers events last s quiet) label;
  once = λ roots kids longer apart workers events last s quiet.
      cover_once roots kids longer apart last.posted (covers roots kids workers events last s quiet);
}
