use Rattle.std.proofs.Common.{subst}
use Rattle.std.specs.Prelude.{IfSome}
use Rattle.sequence_grids.specs.Grids.{GridList, items_at}
use Rattle.sequence_candidates.specs.Candidates.{CandidatesValue, AreCandidates}
use Rattle.sequence_candidates.proofs.ExpandLemmas.{kept-candidates}
use Rattle.sequence_candidates.proofs.candidates.Candidates.graph.Goals as goal

pub returns-clause-candidates : goal.returns-clause-candidates
returns-clause-candidates c =
    let part : GridList = record { problem = c.self.inside.job.now; bound = c.self.inside.bound; sequences = c.self.inside.sequences.items } in
    subst (λ (v : CandidatesValue). IfSome v.begun (λ index. AreCandidates v.part (items_at v.part index) v.nodes)) c.self.view_is
    (kept-candidates part c.self.inside.terrain c.self.inside.starts.items c.self.inside.begun c.self.inside.graph.room c.self.inside.graph.nodes c.self.invariant)
