use Rattle.std.proofs.Common.{suc}
use Rattle.search_tree.specs.Cover.{down_to}
use Rattle.search_tree.proofs.SearchTreeLemmas.{search-covers, longest, longest-all}
use Rattle.search_tree.proofs.search_laws.search_tree_has_a_cover.Goals as goal

pub returns : goal.returns
returns c = λ d order pivots tree least is.
    (down_to tree.roots tree.kids (suc (suc (longest d.sequences))), search-covers d order pivots tree is least (longest d.sequences) (longest-all d.sequences))
