use Rattle.std.proofs.Common.{◌≡◌, Some, map, slice_get, sym, ap, ◌∙◌, subst, All}
use Rattle.std.proofs.lemmas.Simd.{map-map}
use Rattle.std.proofs.lemmas.Result.{IfOk-weaker}
use Rattle.search_tree.specs.SearchTree.{AreKids}
use Rattle.mining_job.specs.Problems.{data_of}
use Rattle.snapshot_project.specs.declared.next_rank.NextRank.{NextRank}
use Rattle.snapshot_project.specs.Extensions.{AreNextRanks}
use Rattle.dfs_growth.specs.Nodes.{Prefix, label_at, prefix_at, longer_by}
use Rattle.dfs_growth.proofs.NodeLemmas.{part-at, part-problem, projected-at, longer-projection, longer-problem}
use Rattle.dfs_growth.proofs.PartLemmas.{known-part, room-knows}
use Rattle.dfs_growth.proofs.KidLemmas.{kids-are}
use Rattle.dfs_growth.proofs.growing.kids_of.Goals as goal

pub grow-requires-clause-least : goal.grow-requires-clause-least
grow-requires-clause-least c = rw c.threshold.ensures.threshold c.threshold.ensures.whole.least

pub grow-requires-clause-room : goal.grow-requires-clause-room
grow-requires-clause-room c =
    rw (part-problem c.args.job.now c.args.label.now c.args.part.now c.args.snapshots.now c.requires.projection) c.requires.room.most

pub grow-requires-clause-same : goal.grow-requires-clause-same
grow-requires-clause-same c =
    let job = c.args.job.now in
    let label = c.args.label.now in
    known-part job c.args.room.now c.requires.room (prefix_at job label).pivot c.args.part.now (part-at job label c.args.part.now c.args.snapshots.now c.requires.projection)

pub grow-requires-clause-projected : goal.grow-requires-clause-projected
grow-requires-clause-projected c =
    let job = c.args.job.now in
    let label = c.args.label.now in
    ((prefix_at job label).ranks, rw c.threshold.ensures.threshold (projected-at job label c.args.part.now c.args.snapshots.now c.requires.projection))

pub nodes-requires-clause-each : goal.nodes-requires-clause-each
nodes-requires-clause-each c = λ i n list at taken.
    let job = c.args.job.now in
    let label = c.args.label.now in
    let part = c.args.part.now in
    let ranks = (prefix_at job label).ranks in
    let is = c.requires.projection in
    let here : slice_get c.in_ok-grown.grown.next.items i ≡ Some n = rw c.as_slice.ensures.value at at in
    let each = rw c.threshold.ensures.threshold at c.in_ok-grown.ensures.each in
    longer-projection job label n.rank part list (part-at job label part c.args.snapshots.now is)
    (each ranks (projected-at job label part c.args.snapshots.now is) i n list here taken)

pub returns-clause-problem : goal.returns-clause-problem
returns-clause-problem c =
    let job = c.args.job.now in
    let label = c.args.label.now in
    IfOk-weaker c.nodes.result (λ kids. kids.items ≡ map (λ (n : NextRank). longer_by (prefix_at job label) n.rank) c.as_slice.result.now) (λ kids. All (λ (kid : Prefix). kid.problem ≡ job) kids.items)
    (λ kids same. subst (All (λ (kid : Prefix). kid.problem ≡ job)) (sym same) (longer-problem job label c.as_slice.result.now))
    c.nodes.ensures

pub returns-clause-kids : goal.returns-clause-kids
returns-clause-kids c =
    let job = c.args.job.now in
    let label = c.args.label.now in
    let part = c.args.part.now in
    let prefix = prefix_at job label in
    let is = c.requires.projection in
    let found = rw c.threshold.ensures.threshold at c.in_ok-grown.ensures.next in
    let next : AreNextRanks part prefix.ranks job.threshold c.in_ok-grown.grown.next.items = found prefix.ranks (projected-at job label part c.args.snapshots.now is) in
    let kids : AreKids (data_of job) job.ranking.order prefix.pivot prefix.ranks (map (λ (n : NextRank). label_at (longer_by prefix n.rank)) c.in_ok-grown.grown.next.items) =
    kids-are job prefix.pivot part (part-at job label part c.args.snapshots.now is) c.threshold.ensures.whole.least prefix.ranks c.in_ok-grown.grown.next.items next in
    let listed : AreKids (data_of job) job.ranking.order prefix.pivot prefix.ranks (map label_at (map (λ (n : NextRank). longer_by prefix n.rank) c.in_ok-grown.grown.next.items)) =
    subst (AreKids (data_of job) job.ranking.order prefix.pivot prefix.ranks) (sym (map-map label_at (λ (n : NextRank). longer_by prefix n.rank) c.in_ok-grown.grown.next.items)) kids in
    IfOk-weaker c.nodes.result (λ grown. grown.items ≡ map (λ (n : NextRank). longer_by prefix n.rank) c.as_slice.result.now) (λ grown. AreKids (data_of job) job.ranking.order prefix.pivot prefix.ranks (map label_at grown.items))
    (λ grown same. subst (λ nodes. AreKids (data_of job) job.ranking.order prefix.pivot prefix.ranks (map label_at nodes)) (ap (map (λ (n : NextRank). longer_by prefix n.rank)) (sym c.as_slice.ensures.value) ∙ sym same) listed)
    c.nodes.ensures

pub returns-clause-room : goal.returns-clause-room
returns-clause-room c =
    let job = c.args.job.now in
    let label = c.args.label.now in
    room-knows job c.args.room.now c.grow.new.room c.requires.room c.grow.ensures.room (prefix_at job label).pivot c.args.part.now
    (part-at job label c.args.part.now c.args.snapshots.now c.requires.projection) c.grow.ensures.known
