use Rattle.mine_model.specs.Numbered.{tree_of}
use Rattle.fst_compile.proofs.CopyLemmas.{IsCopied}
use Rattle.fst_compile.proofs.linking.+add_edges.Given as goal

abbrev pub invariant-copies : goal.invariant-copies
invariant-copies l = IsCopied (tree_of l.inner.value) l.least l.most l.index l.at l.size l.initial.rows l.rows l.rest

abbrev pub decreases-copies : goal.decreases-copies
decreases-copies l = l.index

abbrev pub decreases-add_edges : goal.decreases-add_edges
decreases-add_edges = goal.size-add_edges
