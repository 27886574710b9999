use Rattle.std.proofs.Common.{sym, subst}
use Rattle.mining_job.specs.Problems.{data_of}
use Rattle.search_engine.specs.declared.division.Division.{Division}
use Rattle.search_tree.specs.RankedPartition.{AreAlivePivots}
use Rattle.search_engine.specs.Partition.{ArePivotsFor}
use Rattle.search_engine.proofs.search.Search.alone.Goals as goal

pub returns-in_ok-seeds-in-ByPivots-clause-pivots : goal.returns-in_ok-seeds-in-ByPivots-clause-pivots
returns-in_ok-seeds-in-ByPivots-clause-pivots c =
    let job = c.args.job.now in
    let alive : AreAlivePivots (data_of job) job.ranking.order c.by_seeds.result.pivots =
    subst (AreAlivePivots (data_of job) job.ranking.order) (sym c.by_seeds.ensures.pivots) (record { rising = c.in_ok-seeds-in-ByPivots.ensures.rising; exact = c.in_ok-seeds-in-ByPivots.ensures.alive }) in
    subst (λ (division : Division). ArePivotsFor division (data_of job) job.ranking.order c.by_seeds.result.pivots) (sym c.in-ByPivots.is) alive
