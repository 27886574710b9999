use Rattle.sequence_candidates.proofs.KeptLemmas.{kept-empty}
use Rattle.sequence_candidates.proofs.candidates.Candidates.leave.Goals as goal

pub invariant_of-self : goal.invariant_of-self
invariant_of-self c =
    kept-empty c.self.inside.job.now c.self.inside.bound c.self.invariant.part_is.whole c.self.invariant.part_is.top c.self.inside.graph.room c.self.invariant.room_is
    c.self.inside.graph.nodes c.clear.new.self.items c.clear-2.new.self.items c.clear.ensures.items c.clear-2.ensures.items
