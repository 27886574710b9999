use Rattle.std.proofs.Common.{◌≡◌, ℕ, ◌+◌, ◌≤◌, None, length, sym, ap, ◌∙◌, subst, arith}
use Rattle.mine_model.specs.Ranks.{Ranking}
use Rattle.mining_job.specs.declared.bound.Bound.{Bound}
use Rattle.candidate_graph.specs.Graphs.{GraphValue}
use Rattle.snapshot_project.proofs.PartLemmas.{bound-few}
use Rattle.sequence_candidates.proofs.KeptLemmas.{kept-empty}
use Rattle.sequence_candidates.proofs.candidates.Candidates.new.Goals as goal

pub invariant_of-result : goal.invariant_of-result
invariant_of-result c =
    let ranks : ℕ = length c.args.job.now.ranking.order in
    let count : c.count-ranks.result ≡ ranks = c.count-ranks.ensures.count ∙ ap (λ (r : Ranking). length r.order) c.ranks.ensures.ranking in
    let few = bound-few c.count-ranks.result None tt in
    let top : c.bound_by.result.top ≤ c.count-ranks.result = subst (λ (b : Bound). b.top ≤ c.count-ranks.result) (sym c.bound_by.ensures) few in
    let room : c.in_ok-graph.graph.room ≡ c.count-ranks.result + 1 = ap (λ (g : GraphValue). g.room) c.in_ok-graph.ensures in
    kept-empty c.args.job.now c.bound_by.result c.ranks.ensures.whole (omega (arith, top, count)) c.in_ok-graph.graph.room (omega (arith, room, count)) c.in_ok-graph.graph.nodes
    c.new-2.result.items c.new-3.result.items c.new-2.ensures.items c.new-3.ensures.items
