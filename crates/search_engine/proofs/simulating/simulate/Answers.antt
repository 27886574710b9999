use Rattle.std.proofs.Common.{◌≡◌, ℕ, List, length, map, ap, ◌∙◌, subst, arith, rules}
use Rattle.std.proofs.lemmas.List.{length-map}
use Rattle.dfs_growth.specs.Nodes.{label_at}
use Rattle.pool_schedule.specs.Schedule.{ArePosted}
use Rattle.search_engine.specs.Searches.{tree_of}
use Rattle.search_engine.proofs.SearchLemmas.{walks-finite, walks-tree, walks-work, walks-frequent, walks-within}
use Rattle.search_engine.proofs.simulating.simulate.Goals as goal

pub run_schedule-requires : goal.run_schedule-requires
run_schedule-requires c =
    let finite = walks-finite c.args.job.now c.hierarchy.ensures.whole c.in_ok-search.search c.in_ok-search.ensures.problem in
    search rules

pub returns-clause-frequent : goal.returns-clause-frequent
returns-clause-frequent c =
    let ends = rw c.hierarchy.ensures.hierarchy at c.items-items.ensures.within in
    walks-frequent c.args.job.now c.hierarchy.ensures.whole c.in_ok-search.search c.in_ok-search.ensures.problem c.args.division c.in_ok-search.ensures.pivots
    c.in_ok-labels.field-0.labels c.in_ok-labels.ensures.cover ends c.in_ok-labels.field-0.rows.items c.in_ok-labels.ensures.rows

pub returns-clause-items : goal.returns-clause-items
returns-clause-items c =
    let ends = rw c.hierarchy.ensures.hierarchy at c.items-items.ensures.within in
    walks-within c.args.job.now c.hierarchy.ensures.whole c.in_ok-search.search c.in_ok-search.ensures.problem c.args.division c.in_ok-search.ensures.pivots
    c.in_ok-labels.field-0.labels c.in_ok-labels.ensures.cover ends c.in_ok-labels.field-0.rows.items c.in_ok-labels.ensures.rows

pub returns-clause-work : goal.returns-clause-work
returns-clause-work c =
    let roots : length (map label_at c.in_ok-roots.field-0.items) ≡ length (tree_of c.in_ok-search.search).roots = ap (λ (l : List (List ℕ)). length l) c.in_ok-roots.ensures.labels in
    let parts : c.len-parts.result ≡ length (tree_of c.in_ok-search.search).roots =
    omega (arith, c.len-parts.ensures, c.in_ok-roots.field-0.ok.0, length-map c.in_ok-roots.field-0.items label_at, roots) in
    walks-work c.args.job.now c.hierarchy.ensures.whole c.in_ok-search.search c.in_ok-search.ensures.problem c.args.division c.in_ok-search.ensures.pivots
    c.in_ok-labels.field-0.labels c.in_ok-labels.ensures.cover c.len.result c.len-parts.result c.len.ensures parts

pub returns-clause-posted : goal.returns-clause-posted
returns-clause-posted c = (
  c.in_ok-search.search.pivots,
  c.in_ok-search.ensures.pivots,
  tree_of c.in_ok-search.search,
  walks-tree c.args.job.now c.hierarchy.ensures.whole c.in_ok-search.search c.in_ok-search.ensures.problem,
  c.in_ok-labels.field-0.labels,
  subst (λ choices. ArePosted (tree_of c.in_ok-search.search).roots (tree_of c.in_ok-search.search).kids c.args.workers choices c.in_ok-labels.field-0.labels)
      (c.as_slice.ensures.value ∙ c.in_ok-choices.ensures) c.in_ok-labels.ensures.labels,
  c.in_ok-labels.ensures.rows,
)
