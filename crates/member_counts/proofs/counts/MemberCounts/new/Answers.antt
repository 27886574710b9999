use Rattle.member_counts.proofs.CountLemmas.{counts_in-none, AreCounts-none}
use Rattle.member_counts.proofs.counts.MemberCounts.new.Goals as goal

pub invariant_of-result : goal.invariant_of-result
invariant_of-result g c = rw c.new-3.ensures.items (AreCounts-none g.row.W c.all_members.result c.new-2.result c.requires c.new-2.ensures c.all_members.ensures)

pub returns : goal.returns
returns g c = rw c.new-3.ensures.items (counts_in-none g.row.W _ c.new-2.result c.new-2.ensures)
