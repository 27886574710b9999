use Rattle.std.proofs.Common.{[], length}
use Rattle.mine_model.specs.Limits.{most_length}
use Rattle.group_search.specs.Waits.{waits_of, IsStacked}
use Rattle.group_search.specs.Search.{IsSearching, work_of}
use Rattle.group_search.proofs.searching.search.Given as goal

abbrev pub invariant-prefixes : goal.invariant-prefixes
invariant-prefixes g l = record {
  stacked : IsStacked l.stack;
  searching : IsSearching l.ranks.order l.threshold (g.A.Automata.states_of l.automata) (length l.ranks.order) most_length
      (record { prefix = []; loads = l.loads }) (waits_of l.stack) l.rows.items;
}

abbrev pub decreases-prefixes : goal.decreases-prefixes
decreases-prefixes g l = work_of (length l.ranks.order) most_length (waits_of l.stack)
