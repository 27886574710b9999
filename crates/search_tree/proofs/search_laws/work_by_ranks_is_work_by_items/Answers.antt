use Rattle.search_tree.proofs.PartitionRankLemmas.{partition-items}
use Rattle.search_tree.proofs.search_laws.work_by_ranks_is_work_by_items.Goals as goal

pub returns : goal.returns
returns c = λ names d ranking work least ranks ties within is. partition-items names d ranking ranks ties within least work is
