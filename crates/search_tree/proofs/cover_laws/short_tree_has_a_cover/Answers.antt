use Rattle.search_tree.proofs.DepthLemmas.{short_tree}
use Rattle.search_tree.proofs.cover_laws.short_tree_has_a_cover.Goals as goal

pub returns : goal.returns
returns c roots kids longer most short = short_tree roots kids longer most short
