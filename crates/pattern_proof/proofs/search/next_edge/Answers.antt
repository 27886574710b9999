use Rattle.std.proofs.Common.{◌≡◌, ℕ, ◌<◌, ◌≤◌, inl, inr, false, true≢false, List, length, get_or, sym, ap, ◌∙◌, subst, arith, Contains}
use Rattle.std.proofs.lemmas.Bool.{cases_eq}
use Rattle.std.proofs.lemmas.List.{get_or_default}
use Rattle.std.proofs.lemmas.List.Elements.{Contains-get_or}
use Rattle.mine_model.specs.declared.expression.Leaf.TheVariants.{Under}
use Rattle.fst_compile.specs.declared.edge.Edge.{Edge}
use Rattle.fst_compile.specs.declared.edge.Label.{Label}
use Rattle.fst_compile.specs.Transducer.{Enters}
use Rattle.pattern_proof.specs.Finding.{question_of, Passes}
use Rattle.pattern_proof.proofs.search.next_edge.Goals as goal

abbrev none : Edge
none = record { leaf = Under (record { 0 = 0 }); captured = false; to = record { 0 = 0 } }

leads-within : (labels : List Label) (edges : List Edge) → ((edge : Edge) → Contains edges edge → Enters labels edge) → (i : ℕ) → i < length edges → (get_or edges i none).to.0 ≤ length labels
leads-within labels edges labelled i within =
    let enters = labelled (get_or edges i none) (Contains-get_or edges i none within) in
    let a = enters.to in
    let b = enters.within in
    omega (arith, a, b)

pub passes-requires-clause-to : goal.passes-requires-clause-to
passes-requires-clause-to c =
    leads-within c.args.search.now.fst.now.labels c.edges-edge-items.result.now c.edges-edge-items.ensures.labelled c.loop-edge.edge-index c.loop-edge-test.true

pub returns-then-passes : goal.returns-then-passes
returns-then-passes c = (
  subst (λ l. Contains l (get_or c.edges-edge-items.result.now c.loop-edge.edge-index none)) c.edges-edge-items.ensures.edges
      (Contains-get_or c.edges-edge-items.result.now c.loop-edge.edge-index none c.loop-edge-test.true),
  leads-within c.args.search.now.fst.now.labels c.edges-edge-items.result.now c.edges-edge-items.ensures.labelled c.loop-edge.edge-index c.loop-edge-test.true,
  c.passes.ensures.0 c.if-passes.true,
)

pub loop-edge-preserved : goal.loop-edge-preserved
loop-edge-preserved c = λ k d less within.
    let i : ℕ = c.loop-edge.edge-index in
    let edges : List Edge = c.edges-edge-items.result.now in
    elim (cases_eq k i) [
      | inl same ↦ (λ passes.
          let there : get_or edges k d ≡ get_or edges i none = get_or_default edges k d none within ∙ ap (λ n. get_or edges n none) same in
          let own = subst (Passes (question_of c.args.search.now) c.args.silent c.args.written) there passes in
          true≢false (sym (c.passes.ensures.1 own) ∙ c.if-passes.false))
      | inr apart ↦ c.loop-edge.invariant k d (omega (arith, less, apart)) within
    ]

pub returns : goal.returns
returns c = λ edge held passes.
    let (k, within, is) = subst (λ l. Contains l edge) (sym c.edges-edge-items.ensures.edges) held in
    let last = c.loop-edge-test.false in
    c.loop-edge.invariant k edge (omega (arith, within, last)) within (subst (Passes (question_of c.args.search.now) c.args.silent c.args.written) (sym is) passes)
