use Rattle.std.proofs.Common.{◌≡◌, true, false, true≢false, ◌∷◌, length, sym, ap, ◌∙◌, subst, arith, Contains}
use Rattle.mine_model.specs.Numbered.{leaf_of}
use Rattle.mine_model.specs.Generation.{MayWrite}
use Rattle.fst_compile.specs.declared.edge.Edge.{Edge}
use Rattle.fst_compile.specs.Transducer.{Enters, edges_from}
use Rattle.pattern_proof.proofs.EdgeLemmas.{no-edge, no-match, within-labels, silent, written, not-written}
use Rattle.pattern_proof.proofs.checking.step.Goals as goal

pub returns-in_default : goal.returns-in_default
returns-in_default c =
    no-edge c.args.hierarchy.now.links c.args.fst.now c.args.from.0 c.args.to.0 c.args.t c.args.rest.now
    (λ edge held is. c.in_default.ensures edge (subst (λ l. Contains l edge) (sym c.edges.ensures.edges) held) is)

pub returns-then-not-matches : goal.returns-then-not-matches
returns-then-not-matches c =
    no-match c.args.hierarchy.now.links c.args.fst.now c.args.from.0 c.args.to.0 c.args.t c.args.rest.now
    (λ edge held. c.edges.ensures.labelled edge (subst (λ l. Contains l edge) (sym c.edges.ensures.edges) held))
    c.in-Some.edge (subst (λ l. Contains l c.in-Some.edge) c.edges.ensures.edges c.in-Some.ensures.0) c.in-Some.ensures.1
    (λ matches. true≢false (sym (c.matches.ensures.1 matches) ∙ c.if-not-matches.true))

pub returns-then-not-edge : goal.returns-then-not-edge
returns-then-not-edge c =
    let labelled : (edge : Edge) → Contains (edges_from c.args.fst.now c.args.from.0) edge → Enters c.args.fst.now.labels edge = λ edge held. c.edges.ensures.labelled edge (subst (λ l. Contains l edge) (sym c.edges.ensures.edges) held) in
    let held = subst (λ l. Contains l c.in-Some.edge) c.edges.ensures.edges c.in-Some.ensures.0 in
    let quiet : c.in-Some.edge.captured ≡ false = grind (arith, c.if-not-edge.true) in (
      within-labels c.args.hierarchy.now.links c.args.fst.now c.args.from.0 c.args.to.0 c.args.t c.args.rest.now labelled c.in-Some.edge held c.in-Some.ensures.1,
      silent c.args.hierarchy.now.links c.args.fst.now c.args.from.0 c.args.to.0 c.args.t c.args.rest.now labelled c.in-Some.edge held c.in-Some.ensures.1
          (c.matches.ensures.0 c.if-not-matches.false) quiet,
    )

pub returns-in_default-split_first : goal.returns-in_default-split_first
returns-in_default-split_first c =
    let labelled : (edge : Edge) → Contains (edges_from c.args.fst.now c.args.from.0) edge → Enters c.args.fst.now.labels edge = λ edge held. c.edges.ensures.labelled edge (subst (λ l. Contains l edge) (sym c.edges.ensures.edges) held) in
    let held = subst (λ l. Contains l c.in-Some.edge) c.edges.ensures.edges c.in-Some.ensures.0 in
    let loud : c.in-Some.edge.captured ≡ true = grind (arith, c.if-not-edge.false) in
    not-written c.args.hierarchy.now.links c.args.fst.now c.args.from.0 c.args.to.0 c.args.t c.args.rest.now labelled c.in-Some.edge held c.in-Some.ensures.1
    (c.matches.ensures.0 c.if-not-matches.false) loud
    (λ v others cut may. let long = ap length cut in let none = c.in_default-split_first.ensures.cases in omega (arith, long, none))

pub returns-then-not-may_write : goal.returns-then-not-may_write
returns-then-not-may_write c =
    let labelled : (edge : Edge) → Contains (edges_from c.args.fst.now c.args.from.0) edge → Enters c.args.fst.now.labels edge = λ edge held. c.edges.ensures.labelled edge (subst (λ l. Contains l edge) (sym c.edges.ensures.edges) held) in
    let held = subst (λ l. Contains l c.in-Some.edge) c.edges.ensures.edges c.in-Some.ensures.0 in
    let loud : c.in-Some.edge.captured ≡ true = grind (arith, c.if-not-edge.false) in
    not-written c.args.hierarchy.now.links c.args.fst.now c.args.from.0 c.args.to.0 c.args.t c.args.rest.now labelled c.in-Some.edge held c.in-Some.ensures.1
    (c.matches.ensures.0 c.if-not-matches.false) loud
    (λ v others cut may.
    let whole : v ∷ others ≡ c.in-Some-split_first.first.now ∷ c.in-Some-split_first.left.now = sym cut ∙ c.in-Some-split_first.ensures.cases.0 in
    let first : v ≡ c.in-Some-split_first.first.now = cc in
    true≢false (sym (c.may_write.ensures.1 (subst (λ w. MayWrite c.args.hierarchy.now.links (leaf_of c.in-Some.edge.leaf) c.args.t w) first may)) ∙ c.if-not-may_write.true))

pub returns : goal.returns
returns c =
    let labelled : (edge : Edge) → Contains (edges_from c.args.fst.now c.args.from.0) edge → Enters c.args.fst.now.labels edge = λ edge held. c.edges.ensures.labelled edge (subst (λ l. Contains l edge) (sym c.edges.ensures.edges) held) in
    let held = subst (λ l. Contains l c.in-Some.edge) c.edges.ensures.edges c.in-Some.ensures.0 in
    let loud : c.in-Some.edge.captured ≡ true = grind (arith, c.if-not-edge.false) in (
      within-labels c.args.hierarchy.now.links c.args.fst.now c.args.from.0 c.args.to.0 c.args.t c.args.rest.now labelled c.in-Some.edge held c.in-Some.ensures.1,
      written c.args.hierarchy.now.links c.args.fst.now c.args.from.0 c.args.to.0 c.args.t c.args.rest.now labelled c.in-Some.edge held c.in-Some.ensures.1
          (c.matches.ensures.0 c.if-not-matches.false) loud c.in-Some-split_first.first.now c.in-Some-split_first.left.now c.in-Some-split_first.ensures.cases.0
          (c.may_write.ensures.0 c.if-not-may_write.false),
    )
