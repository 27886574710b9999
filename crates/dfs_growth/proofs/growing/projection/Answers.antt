use Rattle.std.proofs.Common.{sym, ap, ◌∙◌, subst}
use Rattle.mining_job.specs.Problems.{Problem}
use Rattle.mining_job.specs.Parts.{IsComplete}
use Rattle.dfs_growth.specs.Nodes.{Prefix, label_at, prefix_at}
use Rattle.dfs_growth.specs.Projections.{IsStateOf, IsProjection}
use Rattle.dfs_growth.proofs.NodeLemmas.{problem-at, label-at, root-projection}
use Rattle.dfs_growth.proofs.RootLemmas.{seed-within}
use Rattle.dfs_growth.proofs.growing.projection.Goals as goal

pub begin-requires-clause-within : goal.begin-requires-clause-within
begin-requires-clause-within c =
    let job = c.node.inside.job.now in
    let label = c.node.inside.label.items in
    let root = subst (IsStateOf (prefix_at job label)) c.in-Root.is c.node.invariant.1 in
    let complete : IsComplete job c.in-Root.seed = subst (λ (p : Problem). IsComplete p c.in-Root.seed) (problem-at job label) root.0.complete in
    seed-within job c.in-Root.seed complete

pub returns-in_ok-part-in-Root : goal.returns-in_ok-part-in-Root
returns-in_ok-part-in-Root c =
    let job = c.node.inside.job.now in
    let label = c.node.inside.label.items in
    let root = subst (IsStateOf (prefix_at job label)) c.in-Root.is c.node.invariant.1 in
    record {
      label = sym (label-at job label c.node.invariant.0) ∙ ap label_at c.node.view_is;
      projection = subst (λ (p : Prefix). IsProjection p c.in_ok-part-in-Root.part c.in_ok-part-in-Root.snapshots) c.node.view_is
          (root-projection job label c.in-Root.seed c.in_ok-part-in-Root.part c.in_ok-part-in-Root.snapshots root.0 c.in_ok-part-in-Root.ensures.part c.in_ok-part-in-Root.ensures.start);
    }
