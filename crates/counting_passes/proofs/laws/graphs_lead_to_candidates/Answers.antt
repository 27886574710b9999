use Rattle.sieve_passes.specs.Branches.{part_of}
use Rattle.counting_passes.proofs.PathLemmas.{leads-to-candidates, are-short}
use Rattle.counting_passes.proofs.laws.graphs_lead_to_candidates.Goals as goal

pub returns-clause-leads : goal.returns-clause-leads
returns-clause-leads c = λ problem sequences items nodes whole are.
    leads-to-candidates problem sequences items nodes whole
    (c.edges_tell_what_follows.ensures.follows (part_of problem sequences) items nodes are)
    (c.edges_tell_what_follows.ensures.ends (part_of problem sequences) items nodes are)

pub returns-clause-short : goal.returns-clause-short
returns-clause-short c = are-short
