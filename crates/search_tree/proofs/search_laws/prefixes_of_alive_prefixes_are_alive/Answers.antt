use Rattle.mine_model.specs.Growth.{AreFrequentItems}
use Rattle.mine_model.proofs.AliveLemmas.{IsAlive-shorter}
use Rattle.search_tree.proofs.SearchTreeLemmas.{IsAliveLabel-shorter}
use Rattle.search_tree.proofs.search_laws.prefixes_of_alive_prefixes_are_alive.Goals as goal

pub returns : goal.returns
returns c = record {
  prefixes = λ d prefix more alive. IsAlive-shorter d (AreFrequentItems d) prefix more alive;
  labels = λ d order pivot ranks others alive. IsAliveLabel-shorter d order pivot ranks others alive;
}
