use Rattle.search_engine.proofs.PartitionLemmas.{partition-rows, partition-work}
use Rattle.search_engine.proofs.laws.rows_of_the_trees_of_pivots_are_the_frequent_patterns.Goals as goal

pub returns : goal.returns
returns c = record {
  rows = λ d ranking pivots tree labels known are alive is covers. partition-rows d ranking are pivots alive tree is labels covers known;
  work = λ d ranking pivots tree labels are alive is covers. partition-work d ranking are pivots alive tree is labels covers;
}
