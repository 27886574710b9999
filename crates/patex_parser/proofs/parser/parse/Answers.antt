use Rattle.std.proofs.Common.{map, refl}
use Rattle.std.proofs.lemmas.Result.{err_from_is_err_and}
use Rattle.mine_model.specs.Numbered.{tree_of}
use Rattle.patex_parser.specs.Parsing.{use_view, use_at}
use Rattle.patex_parser.proofs.ParseLemmas.{scanned-means, repeat-refused, unexpected-refused, deep-refused, leaves-refused, none-refused, is-parsed}
use Rattle.patex_parser.proofs.parser.parse.Goals as goal

pub returns-in_err-check_repeats-clause-refused : goal.returns-in_err-check_repeats-clause-refused
returns-in_err-check_repeats-clause-refused c =
    let text = c.args.text.now in
    let reads = c.in_ok-scanned.scanned.tokens.items in
    let uses = map use_view c.in_ok-scanned.scanned.uses.items in
    let scanned = scanned-means text reads uses c.in_ok-scanned.ensures.ok in
    let gone = err_from_is_err_and c.from_residual-in_err-check_repeats.result c.from_residual-in_err-check_repeats.ensures.1 in
    rw (gone.1, gone.2)
    (repeat-refused text c.if-text-gt-MOST_BYTES.false scanned.0 scanned.1 (use_at uses) reads scanned.3 c.in_err-check_repeats.field-0.0
    (rw c.as_slice.ensures.value at c.in_err-check_repeats.ensures.err))

pub returns-in_err-tree-clause-refused : goal.returns-in_err-tree-clause-refused
returns-in_err-tree-clause-refused c =
    let text = c.args.text.now in
    let reads = c.in_ok-scanned.scanned.tokens.items in
    let uses = map use_view c.in_ok-scanned.scanned.uses.items in
    let scanned = scanned-means text reads uses c.in_ok-scanned.ensures.ok in
    let marked = rw c.as_slice.ensures.value at c.in_ok-check_repeats.ensures.ok in
    let gone = err_from_is_err_and c.from_residual-in_err-tree.result c.from_residual-in_err-tree.ensures.1 in
    rw (gone.1, gone.2)
    (unexpected-refused text c.if-text-gt-MOST_BYTES.false scanned.0 scanned.1 (use_at uses) reads scanned.3 marked _ refl c.in_err-tree.field-0.0
    (rw c.as_slice-2.ensures.value at c.in_err-tree.ensures.err))

pub returns-in_err-check_depth-clause-refused : goal.returns-in_err-check_depth-clause-refused
returns-in_err-check_depth-clause-refused c =
    let text = c.args.text.now in
    let reads = c.in_ok-scanned.scanned.tokens.items in
    let uses = map use_view c.in_ok-scanned.scanned.uses.items in
    let scanned = scanned-means text reads uses c.in_ok-scanned.ensures.ok in
    let marked = rw c.as_slice.ensures.value at c.in_ok-check_repeats.ensures.ok in
    let whole = rw c.as_slice-2.ensures.value at c.in_ok-tree.ensures.ok in
    let gone = err_from_is_err_and c.from_residual-in_err-check_depth.result c.from_residual-in_err-check_depth.ensures.1 in
    rw (gone.1, gone.2)
    (deep-refused text c.if-text-gt-MOST_BYTES.false scanned.0 scanned.1 (use_at uses) reads scanned.3 marked (tree_of c.in_ok-tree.tree) whole
    c.in_err-check_depth.field-0.0 (rw c.as_slice-3.ensures.value at c.in_err-check_depth.ensures.err))

pub returns-in_err-check_leaves-clause-refused : goal.returns-in_err-check_leaves-clause-refused
returns-in_err-check_leaves-clause-refused c =
    let text = c.args.text.now in
    let reads = c.in_ok-scanned.scanned.tokens.items in
    let uses = map use_view c.in_ok-scanned.scanned.uses.items in
    let scanned = scanned-means text reads uses c.in_ok-scanned.ensures.ok in
    let marked = rw c.as_slice.ensures.value at c.in_ok-check_repeats.ensures.ok in
    let whole = rw c.as_slice-2.ensures.value at c.in_ok-tree.ensures.ok in
    let flat = rw c.as_slice-3.ensures.value at c.in_ok-check_depth.ensures.ok in
    let gone = err_from_is_err_and c.from_residual-in_err-check_leaves.result c.from_residual-in_err-check_leaves.ensures.1 in
    rw (gone.1, gone.2)
    (leaves-refused text c.if-text-gt-MOST_BYTES.false scanned.0 scanned.1 (use_at uses) reads scanned.3 marked (tree_of c.in_ok-tree.tree) whole flat
    c.in_err-check_leaves.field-0.0 c.in_err-check_leaves.ensures.err)

pub returns-clause-parsed : goal.returns-clause-parsed
returns-clause-parsed c =
    let text = c.args.text.now in
    let reads = c.in_ok-scanned.scanned.tokens.items in
    let uses = map use_view c.in_ok-scanned.scanned.uses.items in
    is-parsed text reads uses (tree_of c.in_ok-tree.tree) c.in_ok-scanned.ensures.ok
    (rw c.as_slice.ensures.value at c.in_ok-check_repeats.ensures.ok) (rw c.as_slice-2.ensures.value at c.in_ok-tree.ensures.ok)

pub returns-clause-accepted : goal.returns-clause-accepted
returns-clause-accepted c =
    let text = c.args.text.now in
    let reads = c.in_ok-scanned.scanned.tokens.items in
    let uses = map use_view c.in_ok-scanned.scanned.uses.items in
    let scanned = scanned-means text reads uses c.in_ok-scanned.ensures.ok in
    let marked = rw c.as_slice.ensures.value at c.in_ok-check_repeats.ensures.ok in
    let whole = rw c.as_slice-2.ensures.value at c.in_ok-tree.ensures.ok in
    let flat = rw c.as_slice-3.ensures.value at c.in_ok-check_depth.ensures.ok in
    none-refused text c.if-text-gt-MOST_BYTES.false scanned.0 scanned.1 (use_at uses) reads scanned.3 marked (tree_of c.in_ok-tree.tree) whole flat
    c.in_ok-check_leaves.ensures.ok
