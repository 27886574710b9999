use Rattle.search_tree.proofs.SearchTreeLemmas.{IsSearchTree-same}
use Rattle.search_tree.proofs.search_laws.at_most_one_search_tree.Goals as goal

pub returns : goal.returns
returns c = λ d order pivots first second one other. IsSearchTree-same d order pivots first second one other
