use Rattle.std.proofs.Common.{◌≡◌, arith, length, ap, ◌∙◌, false}
use Rattle.std.proofs.lemmas.Result.{IfOk-weaker}
use Rattle.std.proofs.lemmas.List.{take-append-le, take_all}
use Rattle.mine_model.specs.Numbered.{tree_of}
use Rattle.fst_compile.proofs.AutomatonLemmas.{automaton-generates}
use Rattle.fst_compile.proofs.CompileLemmas.{labels_length, if_three, IsPositionAutomaton-made}
use Rattle.fst_compile.proofs.compiling.compile.Goals as goal

pub add_all_edges-requires-clause-room : goal.add_all_edges-requires-clause-room
add_all_edges-requires-clause-room c =
    let count = labels_length (tree_of c.args.expr.now) false c.push_labels.new.labels.items (rw c.new-labels.ensures.items at c.in_ok-push_labels.ensures) in
    omega (arith, ap length c.as_mut_slice.ensures.value, c.in_ok-rows.ensures.long, c.len.ensures)

pub add_all_edges-requires-clause-few : goal.add_all_edges-requires-clause-few
add_all_edges-requires-clause-few c =
    let count = labels_length (tree_of c.args.expr.now) false c.push_labels.new.labels.items (rw c.new-labels.ensures.items at c.in_ok-push_labels.ensures) in
    omega (arith, ap length c.as_mut_slice.ensures.value, c.in_ok-rows.ensures.long, c.len.ensures, c.requires)

automaton : goal.returns-clause-automaton
automaton c =
    let entries = rw c.new-labels.ensures.items at c.in_ok-push_labels.ensures in
    let count = labels_length (tree_of c.args.expr.now) false c.push_labels.new.labels.items entries in
    let whole = c.in_ok-finals.ensures in
    let same_length : c.in_ok-rows.rows.len ≡ length c.add_all_edges.new.rows = omega (arith, whole.long, c.in_ok-rows.ensures.long, c.len.ensures) in
    let rows : c.as_slice.result.now ≡ c.add_all_edges.new.rows =
    c.as_slice.ensures.value ∙ take-append-le c.in_ok-rows.rows.len c.add_all_edges.new.rows _ (omega arith) ∙ take_all c.in_ok-rows.rows.len c.add_all_edges.new.rows (omega arith) in
    if_three c.from_rows.result _ _ _ _
    (λ transducer parts leads labelled.
    IsPositionAutomaton-made (tree_of c.args.expr.now) c.add_all_edges.new.rows c.in_ok-finals.finals c.push_labels.new.labels.items transducer whole entries parts.1 parts.2
    (rw rows at leads) labelled)
    c.from_rows.ensures.parts c.from_rows.ensures.edges c.from_rows.ensures.labelled

pub returns-clause-states : goal.returns-clause-states
returns-clause-states c =
    let count = labels_length (tree_of c.args.expr.now) false c.push_labels.new.labels.items (rw c.new-labels.ensures.items at c.in_ok-push_labels.ensures) in
    IfOk-weaker c.from_rows.result _ _ (λ transducer parts. ap length parts.1 ∙ count) c.from_rows.ensures.parts

pub returns-clause-automaton : goal.returns-clause-automaton
returns-clause-automaton c = automaton c

pub returns-clause-paths : goal.returns-clause-paths
returns-clause-paths c = IfOk-weaker c.from_rows.result _ _ (λ transducer is. automaton-generates transducer (tree_of c.args.expr.now) is) (automaton c)
