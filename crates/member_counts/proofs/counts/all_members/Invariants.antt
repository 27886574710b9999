use Rattle.std.proofs.Common.{ℕ, ◌<◌, ◌↔◌}
use Rattle.state_bits.specs.Members.{Has}
use Rattle.member_counts.proofs.counts.all_members.Given as goal

abbrev pub invariant-loop-member : goal.invariant-loop-member
invariant-loop-member g l = (q : ℕ) → Has l.members q ↔ (q < l.member)
