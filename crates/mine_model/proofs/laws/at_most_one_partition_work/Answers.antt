use Rattle.mine_model.specs.PartitionWork.{IsBytewiseBefore}
use Rattle.mine_model.proofs.PartitionWorkLemmas.{IsPartitionWork-unique}
use Rattle.mine_model.proofs.laws.at_most_one_partition_work.Goals as goal

pub returns : goal.returns
returns c = IsPartitionWork-unique IsBytewiseBefore
