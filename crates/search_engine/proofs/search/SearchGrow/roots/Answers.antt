use Rattle.std.proofs.Common.{map, ap, ◌∙◌}
use Rattle.dfs_growth.specs.Nodes.{label_at}
use Rattle.dfs_growth.specs.Tree.{roots_by}
use Rattle.search_engine.specs.Searches.{Search, pivots_from}
use Rattle.search_engine.proofs.SearchLemmas.{roots-walked}
use Rattle.search_engine.proofs.search.SearchGrow.roots.Goals as goal

pub returns-clause-labels : goal.returns-clause-labels
returns-clause-labels c =
    roots-walked c.self.inside.job.now c.self.invariant.whole (pivots_from c.self.inside.source) (map label_at c.in_ok-nodes.nodes.items) c.in_ok-nodes.ensures.roots
    ∙ ap (λ (s : Search). roots_by s.problem s.pivots) c.self.view_is
