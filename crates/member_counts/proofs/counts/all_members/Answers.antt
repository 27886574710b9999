use Rattle.std.proofs.Common.{ℕ, arith, subst}
use Rattle.state_bits.specs.Members.{Has}
use Rattle.state_bits.proofs.NeighbourLemmas.{Has-none}
use Rattle.member_counts.proofs.counts.all_members.Goals as goal

pub loop-member-init : goal.loop-member-init
loop-member-init g c q = (
  (λ has. absurd (Has-none q (subst (λ (set : ℕ). Has set q) c.new-members.ensures has))),
  (λ below. absurd (omega arith)),
)
