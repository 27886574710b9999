use Rattle.std.proofs.Common.{◌≡◌, map, sym, ◌∙◌, subst, All}
use Rattle.search_tree.specs.SearchTree.{IsRowOf, AreKids}
use Rattle.mining_job.specs.Problems.{Problem, data_of}
use Rattle.dfs_growth.specs.Nodes.{Prefix, label_at, prefix_at}
use Rattle.dfs_growth.specs.Projections.{IsProjection, IsRoomFor}
use Rattle.dfs_growth.proofs.NodeLemmas.{problem-of, prefix-at}
use Rattle.dfs_growth.proofs.growing.expand.Goals as goal

pub row_of-requires-clause-projection : goal.row_of-requires-clause-projection
row_of-requires-clause-projection c =
    let node = c.args.node in
    let job = c.node.inside.job.now in
    let same : job ≡ node.problem = problem-of job c.node.inside.label.items c.args.node c.node.view_is in
    let is : prefix_at job c.as_slice.result.now ≡ node = prefix-at node job c.as_slice.result.now same (c.as_slice.ensures.value ∙ c.in_ok-label.ensures.label) in
    subst (λ p. IsProjection p c.in_ok-label.part c.in_ok-label.snapshots) (sym is) c.in_ok-label.ensures.projection

pub kids_of-requires-clause-projection : goal.kids_of-requires-clause-projection
kids_of-requires-clause-projection c =
    let node = c.args.node in
    let job = c.node.inside.job.now in
    let same : job ≡ node.problem = problem-of job c.node.inside.label.items c.args.node c.node.view_is in
    let is : prefix_at job c.as_slice-2.result.now ≡ node = prefix-at node job c.as_slice-2.result.now same (c.as_slice-2.ensures.value ∙ c.in_ok-label.ensures.label) in
    subst (λ p. IsProjection p c.in_ok-label.part c.in_ok-label.snapshots) (sym is) c.in_ok-label.ensures.projection

pub kids_of-requires-clause-room : goal.kids_of-requires-clause-room
kids_of-requires-clause-room c =
    let job = c.node.inside.job.now in
    let same : job ≡ c.args.node.problem = problem-of job c.node.inside.label.items c.args.node c.node.view_is in
    subst (λ (p : Problem). IsRoomFor p c.args.room.now) (sym same) c.requires.room

pub returns-clause-row : goal.returns-clause-row
returns-clause-row c =
    let node = c.args.node in
    let job = c.node.inside.job.now in
    let same : job ≡ node.problem = problem-of job c.node.inside.label.items c.args.node c.node.view_is in
    let is : prefix_at job c.as_slice.result.now ≡ node = prefix-at node job c.as_slice.result.now same (c.as_slice.ensures.value ∙ c.in_ok-label.ensures.label) in
    subst (λ (q : Problem). IsRowOf (data_of q) q.ranking.order node.pivot node.ranks c.in_ok-row.row) same
    (subst (λ (p : Prefix). IsRowOf (data_of job) job.ranking.order p.pivot p.ranks c.in_ok-row.row) is c.in_ok-row.ensures)

pub returns-clause-kids : goal.returns-clause-kids
returns-clause-kids c =
    let node = c.args.node in
    let job = c.node.inside.job.now in
    let same : job ≡ node.problem = problem-of job c.node.inside.label.items c.args.node c.node.view_is in
    let is : prefix_at job c.as_slice-2.result.now ≡ node = prefix-at node job c.as_slice-2.result.now same (c.as_slice-2.ensures.value ∙ c.in_ok-label.ensures.label) in
    subst (λ (q : Problem). AreKids (data_of q) q.ranking.order node.pivot node.ranks (map label_at c.in_ok-kids.kids.items)) same
    (subst (λ (p : Prefix). AreKids (data_of job) job.ranking.order p.pivot p.ranks (map label_at c.in_ok-kids.kids.items)) is c.in_ok-kids.ensures.kids)

pub returns-clause-ground : goal.returns-clause-ground
returns-clause-ground c =
    let job = c.node.inside.job.now in
    let same : job ≡ c.args.node.problem = problem-of job c.node.inside.label.items c.args.node c.node.view_is in
    subst (λ (p : Problem). All (λ (kid : Prefix). kid.problem ≡ p) c.in_ok-kids.kids.items) same c.in_ok-kids.ensures.problem

pub returns-clause-room : goal.returns-clause-room
returns-clause-room c =
    let job = c.node.inside.job.now in
    let same : job ≡ c.args.node.problem = problem-of job c.node.inside.label.items c.args.node c.node.view_is in
    subst (λ (p : Problem). IsRoomFor p c.kids_of.new.room) same c.kids_of.ensures.room

pub returns-in_err-kids-clause-room : goal.returns-in_err-kids-clause-room
returns-in_err-kids-clause-room c =
    let job = c.node.inside.job.now in
    let same : job ≡ c.args.node.problem = problem-of job c.node.inside.label.items c.args.node c.node.view_is in
    subst (λ (p : Problem). IsRoomFor p c.kids_of.new.room) same c.kids_of.ensures.room
