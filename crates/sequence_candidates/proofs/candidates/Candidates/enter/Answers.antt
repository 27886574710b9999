use Rattle.std.proofs.Common.{◌≡◌, ℕ, ◌≤◌, ◌<◌, Option, None, List, length, sym, ap, ◌∙◌, subst}
use Rattle.std.specs.Prelude.{IfSome}
use Rattle.std.specs.List.{AllByRecursion}
use Rattle.mine_model.specs.Ranks.{Ranking}
use Rattle.mining_job.specs.declared.bound.Bound.{Bound}
use Rattle.mining_job.specs.Problems.{Problem}
use Rattle.sequence_grids.specs.Grids.{GridList}
use Rattle.snapshot_project.specs.Snapshots.{bound_of}
use Rattle.snapshot_project.proofs.PartLemmas.{part-begun}
use Rattle.sequence_candidates.specs.Candidates.{CandidatesValue}
use Rattle.sequence_candidates.specs.Terrains.{IsKept}
use Rattle.sequence_candidates.proofs.KeptLemmas.{kept-entered}
use Rattle.sequence_candidates.proofs.candidates.Candidates.enter.Goals as goal

pub invariant_of-self : goal.invariant_of-self
invariant_of-self c =
    let job : Problem = c.self.inside.job.now in
    let problem : job ≡ c.args.self.now.part.problem =
    ap (λ (v : CandidatesValue). v.part.problem) c.self.view_is ∙ ap (λ (p : GridList). p.problem) c.leave.ensures.part in
    let none : c.self.inside.begun ≡ None = ap (λ (v : CandidatesValue). v.begun) c.self.view_is ∙ c.leave.ensures.begun in
    let count : c.count.result ≡ length job.ranking.order = c.count.ensures.count ∙ ap (λ (r : Ranking). length r.order) c.ranks.ensures.ranking in
    let bound : Bound = c.bound_by-bound.result in
    let bound_is : bound ≡ bound_of (length job.ranking.order) c.args.pivot = c.bound_by-bound.ensures ∙ ap (λ (n : ℕ). bound_of n c.args.pivot) count in
    let most : IfSome c.args.pivot (λ rank. rank ≤ length job.ranking.order) =
    subst (λ (p : Problem). IfSome c.args.pivot (λ rank. rank ≤ length p.ranking.order)) (sym problem) c.requires.most in
    let within : AllByRecursion (λ i. i < length job.sequences) c.args.sequences.now =
    subst (λ (p : Problem). AllByRecursion (λ i. i < length p.sequences) c.args.sequences.now) (sym problem) c.requires.within in
    let part : GridList = record { problem = job; bound = bound; sequences = c.args.sequences.now } in
    let kept : IsKept part c.in_ok-terrain.terrain c.in_ok-starts.starts.items None c.self.inside.graph.room c.self.inside.graph.nodes =
    kept-entered part (part-begun job c.ranks.ensures.whole bound c.args.pivot bound_is most c.args.sequences.now c.requires.rising within)
    c.in_ok-terrain.terrain c.in_ok-terrain.ensures c.in_ok-starts.starts.items (c.in_ok-starts.ensures bound) c.self.inside.graph.room c.self.invariant.room_is c.self.inside.graph.nodes in
    subst (λ (l : List ℕ). IsKept (record { problem = job; bound = bound; sequences = l }) c.in_ok-terrain.terrain c.in_ok-starts.starts.items
    c.self.inside.begun c.self.inside.graph.room c.self.inside.graph.nodes) (sym c.in_ok-numbers.ensures)
    (subst (λ (o : Option ℕ). IsKept part c.in_ok-terrain.terrain c.in_ok-starts.starts.items o c.self.inside.graph.room c.self.inside.graph.nodes) (sym none) kept)
