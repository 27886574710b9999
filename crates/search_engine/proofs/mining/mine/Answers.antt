use Rattle.std.proofs.Common.{◌≡◌, List, [], ◌∷◌, ℕ, map, length, All, refl, sym, ap₂, ◌∙◌, subst}
use Rattle.mine_model.specs.declared.mined.Work.{Work}
use Rattle.mine_model.specs.Ranks.{Ranking}
use Rattle.mining_job.specs.Problems.{Problem, data_of}
use Rattle.dfs_growth.specs.Nodes.{Prefix, label_at}
use Rattle.dfs_growth.specs.Tree.{roots_by}
use Rattle.pivot_partition.specs.Pivots.{pivots_in}
use Rattle.search_engine.specs.declared.division.Division.{Division}
use Rattle.search_engine.specs.declared.division.Division.TheVariants.{Whole}
use Rattle.search_tree.specs.RankedPartition.{AreAlivePivots}
use Rattle.search_engine.specs.Partition.{IsWorkFor}
use Rattle.search_engine.specs.Searches.{tree_of}
use Rattle.search_engine.proofs.PartitionLemmas.{all-parts-rows, all-parts-work}
use Rattle.mining_job.proofs.ItemLemmas.{items-known}
use Rattle.search_engine.proofs.SearchLemmas.{roots-walked, walks-work, walks-frequent, walks-within}
use Rattle.search_engine.proofs.mining.mine.Goals as goal

pub mine_parts-requires-clause-alive : goal.mine_parts-requires-clause-alive
mine_parts-requires-clause-alive g c κs within pivot held = (c.in_ok-seeds-in-ByPivots.ensures.alive pivot).0 held

pub mined_by-requires-clause-roots : goal.mined_by-requires-clause-roots
mined_by-requires-clause-roots g c κs within =
    roots-walked c.args.job.now c.hierarchy.ensures.whole (0 ∷ []) (map label_at c.in_ok-roots-in-Whole.roots.items) c.in_ok-roots-in-Whole.ensures.roots
    ∙ ap₂ roots_by (sym c.new-search.ensures.problem) (sym c.new-search.ensures.pivots)

pub mined_by-requires-clause-own : goal.mined_by-requires-clause-own
mined_by-requires-clause-own g c κs within =
    subst (λ (p : Problem). All (λ (node : Prefix). node.problem ≡ p) c.in_ok-roots-in-Whole.roots.items) (sym c.new-search.ensures.problem) c.in_ok-roots-in-Whole.ensures.problem

pub returns-in_ok-mined-in-ByPivots-clause-frequent : goal.returns-in_ok-mined-in-ByPivots-clause-frequent
returns-in_ok-mined-in-ByPivots-clause-frequent g c =
    let whole = c.hierarchy.ensures.whole in
    let ends = rw c.hierarchy.ensures.hierarchy at c.items-items.ensures.within in
    all-parts-rows (data_of c.args.job.now) c.args.job.now.ranking whole.ranks (pivots_in c.in_ok-seeds-in-ByPivots.seeds.items)
    (record { rising = c.in_ok-seeds-in-ByPivots.ensures.rising; exact = c.in_ok-seeds-in-ByPivots.ensures.alive }) (items-known c.args.job.now whole ends)
    c.in_ok-mined-in-ByPivots.mined.rows.items c.in_ok-mined-in-ByPivots.ensures.once c.in_ok-mined-in-ByPivots.ensures.rows

pub returns-in_ok-mined-in-ByPivots-clause-work : goal.returns-in_ok-mined-in-ByPivots-clause-work
returns-in_ok-mined-in-ByPivots-clause-work g c =
    let whole = c.hierarchy.ensures.whole in
    subst (λ (division : Division). IsWorkFor division (data_of c.args.job.now) c.args.job.now.ranking.order c.in_ok-mined-in-ByPivots.mined.work) (sym c.in-ByPivots.is)
    (all-parts-work (data_of c.args.job.now) c.args.job.now.ranking whole.ranks (pivots_in c.in_ok-seeds-in-ByPivots.seeds.items)
    (record { rising = c.in_ok-seeds-in-ByPivots.ensures.rising; exact = c.in_ok-seeds-in-ByPivots.ensures.alive }) c.in_ok-mined-in-ByPivots.mined.work c.in_ok-mined-in-ByPivots.ensures.work)

pub returns-in_ok-mined-in-Whole-clause-frequent : goal.returns-in_ok-mined-in-Whole-clause-frequent
returns-in_ok-mined-in-Whole-clause-frequent g c =
    let ends = rw c.hierarchy.ensures.hierarchy at c.items-items.ensures.within in
    let (labels, covers, are, work) = c.in_ok-mined-in-Whole.ensures in
    walks-frequent c.args.job.now c.hierarchy.ensures.whole c.new-search.result c.new-search.ensures.problem Whole c.new-search.ensures.pivots
    labels covers ends c.in_ok-mined-in-Whole.mined.rows.items are

pub returns-in_ok-mined-in-Whole-clause-items : goal.returns-in_ok-mined-in-Whole-clause-items
returns-in_ok-mined-in-Whole-clause-items g c =
    let ends = rw c.hierarchy.ensures.hierarchy at c.items-items.ensures.within in
    let (labels, covers, are, work) = c.in_ok-mined-in-Whole.ensures in
    walks-within c.args.job.now c.hierarchy.ensures.whole c.new-search.result c.new-search.ensures.problem Whole c.new-search.ensures.pivots
    labels covers ends c.in_ok-mined-in-Whole.mined.rows.items are

pub returns-in_ok-mined-in-Whole-clause-work : goal.returns-in_ok-mined-in-Whole-clause-work
returns-in_ok-mined-in-Whole-clause-work g c =
    let (labels, covers, are, work) = c.in_ok-mined-in-Whole.ensures in
    let counted = walks-work c.args.job.now c.hierarchy.ensures.whole c.new-search.result c.new-search.ensures.problem Whole c.new-search.ensures.pivots
    labels covers (length labels) (length (tree_of c.new-search.result).roots) refl refl in
    subst (λ (division : Division). IsWorkFor division (data_of c.args.job.now) c.args.job.now.ranking.order c.in_ok-mined-in-Whole.mined.work) (sym c.in-Whole.is)
    (subst (λ (w : Work). IsWorkFor Whole (data_of c.args.job.now) c.args.job.now.ranking.order w) (sym work) counted)
