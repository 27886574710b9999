use Rattle.std.proofs.Common.{◌≡◌, ◌++◌, map}
use Rattle.mine_model.specs.Numbered.{tree_of}
use Rattle.fst_compile.specs.Shape.{labels_of, unfold_tree}
use Rattle.fst_compile.specs.Transducer.{entry_of}
use Rattle.fst_compile.proofs.LabelLemmas.{copies_of}
use Rattle.fst_compile.proofs.labelling.+push_labels.Given as goal

abbrev pub invariant-copies : goal.invariant-copies
invariant-copies l =
    map entry_of l.labels.items ++ copies_of l.left (labels_of (unfold_tree (tree_of l.inner.value) l.captured))
    ≡ map entry_of l.initial.labels.items ++ copies_of l.initial.left (labels_of (unfold_tree (tree_of l.inner.value) l.captured))

abbrev pub decreases-copies : goal.decreases-copies
decreases-copies l = l.left

abbrev pub decreases-push_labels : goal.decreases-push_labels
decreases-push_labels = goal.size-push_labels
