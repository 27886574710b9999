use Rattle.std.proofs.Common.{◌↔◌, ◌≤◌, Some, [], Contains}
use Rattle.mine_model.specs.declared.mined.Mined.{Mined}
use Rattle.mine_model.specs.declared.row.Row.{Row}
use Rattle.mine_model.specs.Answer.{IsFrequent}
use Rattle.mine_model.specs.Pivots.{IsAliveLabel}
use Rattle.mine_model.specs.PartitionWork.{IsNamedBefore}
use Rattle.mining_job.specs.Problems.{data_of}
use Rattle.pivot_partition.specs.Pivots.{pivots_in, HasPivotIn}
use Rattle.search_engine.specs.Partition.{IsPartsWork}
use Rattle.split_merge.specs.Shares.{IsInShare}
use Rattle.desq_run.specs.Inputs.{AreFound}
use Rattle.desq_run.specs.Parts.{IsShareWork}
use Rattle.desq_run.proofs.ShareRankLemmas.{problem-share-rows, problem-share-work, exact_both}
use Rattle.desq_run.proofs.RowLemmas.{if_ok}
use Rattle.desq_run.proofs.shares.mined_share.Goals as goal

pub mine_parts-requires-clause-complete : goal.mine_parts-requires-clause-complete
mine_parts-requires-clause-complete g c = λ _ _. c.own_seeds-own.ensures.complete c.args.job.now c.in_ok-seeds.ensures.complete

pub mine_parts-requires-clause-alive : goal.mine_parts-requires-clause-alive
mine_parts-requires-clause-alive g c = λ _ _. λ pivot held.
    (c.in_ok-seeds.ensures.alive pivot).0 ((c.own_seeds-own.ensures.exact pivot).0 held).0

pub returns-clause-found : goal.returns-clause-found
returns-clause-found g c = λ names ties.
    let within = rw c.hierarchy.ensures.hierarchy at c.items-items.ensures.within in
    let own = pivots_in c.own_seeds-own.result.items in
    let exact = exact_both own (pivots_in c.in_ok-seeds.seeds.items) (λ p. (1 ≤ p) × IsAliveLabel (data_of c.args.job.now) c.args.job.now.ranking.order p [])
    (IsInShare c.args.share.index c.args.share.of) c.own_seeds-own.ensures.exact c.in_ok-seeds.ensures.alive in
    if_ok (λ (mined : Mined). (row : Row) → Contains mined.rows.items row
    ↔ (IsFrequent (data_of c.args.job.now) row.pattern row.support × HasPivotIn c.args.job.now.ranking.order own row.pattern))
    (λ (mined : Mined). AreFound (IsNamedBefore names) (Some c.args.share) (data_of c.args.job.now) mined.rows.items)
    c.mine_parts.result
    (λ mined is. problem-share-rows c.args.job.now c.hierarchy.ensures.whole within names ties c.args.share own exact mined.rows.items is)
    c.mine_parts.ensures.rows

pub returns-clause-work : goal.returns-clause-work
returns-clause-work g c = λ names ties.
    let within = rw c.hierarchy.ensures.hierarchy at c.items-items.ensures.within in
    let own = pivots_in c.own_seeds-own.result.items in
    let exact = exact_both own (pivots_in c.in_ok-seeds.seeds.items) (λ p. (1 ≤ p) × IsAliveLabel (data_of c.args.job.now) c.args.job.now.ranking.order p [])
    (IsInShare c.args.share.index c.args.share.of) c.own_seeds-own.ensures.exact c.in_ok-seeds.ensures.alive in
    if_ok (λ (mined : Mined). IsPartsWork (data_of c.args.job.now) c.args.job.now.ranking.order own mined.work)
    (λ (mined : Mined). IsShareWork (IsNamedBefore names) (data_of c.args.job.now) c.args.share mined.work)
    c.mine_parts.result
    (λ mined is. problem-share-work c.args.job.now c.hierarchy.ensures.whole within names ties c.args.share own exact
    (c.own_seeds-own.ensures.rising c.in_ok-seeds.ensures.rising) mined.work is)
    c.mine_parts.ensures.work
