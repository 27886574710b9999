use Rattle.search_tree.specs.Cover.{IsInTree}
use Rattle.search_tree.proofs.TreeLemmas.{cover_once, cover_members}
use Rattle.search_tree.proofs.DepthLemmas.{in_tree}
use Rattle.search_tree.proofs.cover_laws.cover_is_the_tree.Goals as goal

pub returns : goal.returns
returns c = record {
  members = λ roots kids longer labels covers label. cover_members roots kids longer (IsInTree roots kids) (in_tree roots kids) labels covers label;
  once = λ roots kids longer apart labels covers. cover_once roots kids longer apart labels covers;
}
