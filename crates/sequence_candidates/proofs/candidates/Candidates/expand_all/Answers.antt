use Rattle.std.proofs.Common.{◌≡◌, ℕ, inl, inr, length, refl, ap, ◌∙◌, subst, arith}
use Rattle.std.proofs.lemmas.Bool.{cases_lt}
use Rattle.candidate_graph.specs.Graphs.{IsExpanded}
use Rattle.sequence_candidates.specs.Candidates.{CandidatesValue}
use Rattle.sequence_candidates.proofs.KeptLemmas.{grows-same, grows-on, expanded-on, all-expanded}
use Rattle.sequence_candidates.proofs.candidates.Candidates.expand_all.Goals as goal

pub loop-node-init : goal.loop-node-init
loop-node-init c = record {
  part = refl;
  begun = refl;
  grows = grows-same c.args.self.now.nodes;
  done = λ number less. absurd (omega (arith, less));
}

pub loop-node-preserved : goal.loop-node-preserved
loop-node-preserved c = record {
  part = c.expand.ensures.part ∙ c.loop-node.invariant.part;
  begun = c.expand.ensures.begun ∙ c.loop-node.invariant.begun;
  grows = grows-on c.args.self.now.nodes c.loop-node.self.nodes c.expand.new.self.nodes c.loop-node.invariant.grows c.expand.ensures.grows;
  done = λ number less. elim (cases_lt number c.loop-node.node) [
    | inl before ↦ expanded-on c.loop-node.self.nodes c.expand.new.self.nodes c.expand.ensures.grows number (c.loop-node.invariant.done number before)
    | inr last ↦
        let here : c.loop-node.node ≡ number = omega (arith, less, last) in
        subst (λ (k : ℕ). IsExpanded c.expand.new.self.nodes k) here c.in_ok-expand.ensures.expanded
  ];
}

pub returns-then-node-count-clause-whole : goal.returns-then-node-count-clause-whole
returns-then-node-count-clause-whole c =
    let long : length c.self.inside.graph.nodes ≡ length c.loop-node.self.nodes = ap (λ (v : CandidatesValue). length v.nodes) c.self.view_is in
    all-expanded c.loop-node.self.nodes c.loop-node.node (omega (arith, long, c.count.ensures, c.if-node-count.true)) c.loop-node.invariant.done

pub returns-in_err-expand-clause-grows : goal.returns-in_err-expand-clause-grows
returns-in_err-expand-clause-grows c =
    grows-on c.args.self.now.nodes c.loop-node.self.nodes c.expand.new.self.nodes c.loop-node.invariant.grows c.expand.ensures.grows

pub expand-requires-clause-begun : goal.expand-requires-clause-begun
expand-requires-clause-begun c = let (index, same) = c.requires.begun in (index, c.loop-node.invariant.begun ∙ same)

pub expand-requires-clause-node : goal.expand-requires-clause-node
expand-requires-clause-node c =
    let long : length c.self.inside.graph.nodes ≡ length c.loop-node.self.nodes = ap (λ (v : CandidatesValue). length v.nodes) c.self.view_is in
    omega (arith, long, c.count.ensures, c.if-node-count.false)
