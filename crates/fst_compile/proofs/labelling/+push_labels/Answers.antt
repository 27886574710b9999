use Rattle.std.proofs.Common.{◌≡◌, map, arith, length}
use Rattle.std.proofs.lemmas.List.{append-nil, length-map}
use Rattle.mine_model.specs.Numbered.{tree_of}
use Rattle.fst_compile.specs.Shape.{labels_of, unfold_tree}
use Rattle.fst_compile.specs.Transducer.{entry_of}
use Rattle.fst_compile.proofs.LabelLemmas.{copies_of-zero, labels-repeated, copied_more, copied_none}
use Rattle.fst_compile.proofs.labelling.+push_labels.Goals as goal

pub returns-after-copies : goal.returns-after-copies
returns-after-copies t c =
    let none : c.copies.left ≡ 0 = omega arith in
    let all = rw (none, copies_of-zero (labels_of (unfold_tree (tree_of c.in-Rep.inner.value) c.args.captured)), append-nil (map entry_of c.copies.labels.items)) at c.copies.invariant in
    rw (c.in-Rep.is, labels-repeated (unfold_tree (tree_of c.in-Rep.inner.value) c.args.captured) c.in-Rep.least c.in-Rep.most, ← c.times-left.ensures) all

pub copies-preserved : goal.copies-preserved
copies-preserved t c =
    let grown = rw c.deref.ensures at c.in_ok-push_labels-in-Rep.ensures in
    copied_more (map entry_of c.copies.labels.items) (map entry_of c.push_labels.new.labels.items) (labels_of (unfold_tree (tree_of c.in-Rep.inner.value) c.args.captured)) _
    c.copies.left c.copies-test.true grown c.copies.invariant

pub copies-preserved-then-len-before : goal.copies-preserved-then-len-before
copies-preserved-then-len-before t c =
    let grown = rw c.deref.ensures at c.in_ok-push_labels-in-Rep.ensures in
    let same : length (map entry_of c.push_labels.new.labels.items) ≡ length (map entry_of c.copies.labels.items) =
    omega (arith, length-map c.push_labels.new.labels.items entry_of, length-map c.copies.labels.items entry_of, c.len.ensures, c.len-before.ensures, c.if-len-before.true) in
    copied_none (map entry_of c.copies.labels.items) (map entry_of c.push_labels.new.labels.items) (labels_of (unfold_tree (tree_of c.in-Rep.inner.value) c.args.captured)) _
    c.copies.left grown same c.copies.invariant
