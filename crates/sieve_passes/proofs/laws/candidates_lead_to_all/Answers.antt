use Rattle.sieve_passes.specs.Branches.{part_of}
use Rattle.sieve_passes.proofs.LeadLemmas.{leads-to-all}
use Rattle.sieve_passes.proofs.laws.candidates_lead_to_all.Goals as goal

pub returns : goal.returns
returns c = λ problem sequences items nodes whole are.
    leads-to-all problem sequences items nodes whole (c.edges_tell_what_follows.ensures.follows (part_of problem sequences) items nodes are)
