use Rattle.search_tree.proofs.SearchAnswerLemmas.{search-rows, search-work}
use Rattle.search_tree.proofs.search_laws.rows_of_the_search_tree_are_the_frequent_patterns.Goals as goal

pub returns : goal.returns
returns c = record {
  rows = λ d ranking tree labels known are is covers. search-rows d ranking are tree is labels covers known;
  work = λ d ranking tree labels least are is covers. search-work d ranking are tree is labels covers least;
}
