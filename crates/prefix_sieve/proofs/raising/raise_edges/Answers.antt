use Rattle.std.proofs.Common.{◌≡◌, ◌∙◌, ℕ, false, get_or, refl, subst}
use Rattle.std.proofs.lemmas.Option.{slice_get-get_or}
use Rattle.candidate_graph.specs.declared.edge.Edge.{Edge}
use Rattle.prefix_sieve.specs.Hashes.{mixed}
use Rattle.prefix_sieve.specs.Buckets.{capped, sum_of}
use Rattle.prefix_sieve.proofs.FrontLemmas.{raised-none, raised-more, raised-all}
use Rattle.prefix_sieve.proofs.raising.raise_edges.Goals as goal

abbrev no_edge : Edge
no_edge = record { rank = 0; ends = false; next = 0 }

pub loop-edge-init : goal.loop-edge-init
loop-edge-init c = record {
  long = refl;
  raised = raised-none c.args.edges.now c.args.hash c.args.weight c.args.buckets.now;
}

pub loop-edge-preserved : goal.loop-edge-preserved
loop-edge-preserved c =
    let edge : Edge = get_or c.args.edges.now c.loop-edge.edge-index no_edge in
    let code : c.mixed.result ≡ mixed c.args.hash edge.rank = c.mixed.ensures in
    let here : sum_of c.add.new.self (mixed c.args.hash edge.rank) ≡ capped (sum_of c.loop-edge.buckets (mixed c.args.hash edge.rank)) c.args.weight =
    subst (λ (h : ℕ). sum_of c.add.new.self h ≡ capped (sum_of c.loop-edge.buckets h) c.args.weight) code c.add.ensures.here in
    record {
      long = c.add.ensures.long ∙ c.loop-edge.invariant.long;
      raised = raised-more c.args.edges.now c.args.hash c.args.weight c.loop-edge.edge-index edge c.args.buckets.now c.loop-edge.buckets c.add.new.self
          (slice_get-get_or c.args.edges.now c.loop-edge.edge-index no_edge c.loop-edge-test.true) c.loop-edge.invariant.raised here c.add.ensures.never_less;
    }

pub returns-clause-raised : goal.returns-clause-raised
returns-clause-raised c = raised-all c.args.edges.now c.args.hash c.args.weight c.loop-edge.edge-index c.args.buckets.now c.loop-edge.buckets c.loop-edge-test.false c.loop-edge.invariant.raised
