use Rattle.mine_model.specs.declared.mined.Mined.{Mined}
use Rattle.mining_job.specs.Problems.{data_of}
use Rattle.search_engine.specs.declared.division.Division.TheVariants.{ByPivots}
use Rattle.search_engine.specs.Partition.{IsWorkFor}
use Rattle.mine_model.specs.PartitionWork.{IsPartitionWork, IsNamedBefore}
use Rattle.automaton_model.specs.Work.{IsAutomatonWork}
use Rattle.automaton_model.specs.NamedWork.{IsCandidateSetWork}
use Rattle.desq_run.proofs.PartitionWorkLemmas.{problem-work}
use Rattle.desq_run.proofs.SetRankLemmas.{problem-set-work}
use Rattle.desq_run.proofs.RowLemmas.{if_ok}
use Rattle.desq_run.proofs.rows.mined_by.Goals as goal

pub returns-in-Count-clause-work : goal.returns-in-Count-clause-work
returns-in-Count-clause-work g c = λ asked names ties. rw c.in-Count.is (c.mine.ensures.work asked)

pub returns-in-Pivot-clause-work : goal.returns-in-Pivot-clause-work
returns-in-Pivot-clause-work g c = λ asked names ties.
    let within = rw c.hierarchy.ensures.hierarchy at c.items-items.ensures.within in
    rw c.in-Pivot.is
    (if_ok (λ (mined : Mined). IsWorkFor ByPivots (data_of c.args.job.now) c.args.job.now.ranking.order mined.work)
    (λ (mined : Mined). IsPartitionWork (IsNamedBefore names) (data_of c.args.job.now) mined.work) c.searched-in-Pivot.result
    (λ mined is. problem-work c.args.job.now c.hierarchy.ensures.whole within names ties mined.work is) c.searched-in-Pivot.ensures.work)

pub returns-in-Cand-clause-work : goal.returns-in-Cand-clause-work
returns-in-Cand-clause-work g c = λ asked names ties.
    let within = rw c.hierarchy.ensures.hierarchy at c.items-items.ensures.within in
    rw c.in-Cand.is
    (if_ok (λ (mined : Mined). IsAutomatonWork (data_of c.args.job.now) c.args.job.now.ranking.order mined.work)
    (λ (mined : Mined). IsCandidateSetWork (IsNamedBefore names) (data_of c.args.job.now) mined.work) c.mine-in-Cand.result
    (λ mined is. problem-set-work c.args.job.now c.hierarchy.ensures.whole within names ties mined.work is) c.mine-in-Cand.ensures.work)
