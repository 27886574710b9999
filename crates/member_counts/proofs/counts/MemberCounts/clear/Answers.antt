use Rattle.member_counts.proofs.CountLemmas.{counts_in-none, AreCounts-none}
use Rattle.member_counts.proofs.counts.MemberCounts.clear.Goals as goal

pub invariant_of-self : goal.invariant_of-self
invariant_of-self g c =
    rw c.clear.ensures.items (AreCounts-none g.row.W c.self.inside.members c.new-self-inside.result c.self.invariant.narrow c.new-self-inside.ensures c.self.invariant.known)

pub returns : goal.returns
returns g c = rw c.clear.ensures.items (counts_in-none g.row.W c.self.inside.waiting c.new-self-inside.result c.new-self-inside.ensures)
