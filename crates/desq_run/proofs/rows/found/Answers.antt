use Rattle.std.proofs.Common.{None}
use Rattle.mine_model.specs.declared.mined.Mined.{Mined}
use Rattle.mine_model.specs.Numbered.{AreFrequent}
use Rattle.mine_model.specs.PartitionWork.{IsNamedBefore}
use Rattle.mining_job.specs.Problems.{data_of}
use Rattle.desq_run.specs.Inputs.{AreFound}
use Rattle.desq_run.proofs.RowLemmas.{if_ok}
use Rattle.desq_run.proofs.rows.found.Goals as goal

pub returns-in-Some-clause-found : goal.returns-in-Some-clause-found
returns-in-Some-clause-found g c = rw c.in-Some.is c.mined_share.ensures.found

pub returns-in-None-clause-found : goal.returns-in-None-clause-found
returns-in-None-clause-found g c = λ names ties.
    rw c.in-None.is
    (if_ok (λ (mined : Mined). AreFrequent (data_of c.args.job.now) mined.rows.items)
    (λ (mined : Mined). AreFound (IsNamedBefore names) None (data_of c.args.job.now) mined.rows.items) c.mined_by.result
    (λ mined is. is.frequent) c.mined_by.ensures.frequent)

pub returns-in-Some-clause-work : goal.returns-in-Some-clause-work
returns-in-Some-clause-work g c = λ asked. rw c.in-Some.is c.mined_share.ensures.work

pub returns-in-None-clause-work : goal.returns-in-None-clause-work
returns-in-None-clause-work g c = rw c.in-None.is c.mined_by.ensures.work
