use Rattle.std.proofs.Common.{ℕ, ◌↔◌, Some, sym, subst}
use Rattle.state_bits.specs.Members.{Has}
use Rattle.mask_sums.specs.Kept.{lacks, OpensIn}
use Rattle.mask_sums.proofs.LackLemmas.{goes-none}
use Rattle.mask_sums.proofs.lacking.opening_set.Goals as goal

pub returns-in-false-false : goal.returns-in-false-false
returns-in-false-false c rank =
    subst (λ (set : ℕ). Has set rank ↔ OpensIn (lacks (Some c.args.need)) c.args.action c.args.mask.now rank) (sym c.new.ensures)
    (goes-none c.args.mask.now c.args.need c.args.action rank c.in-false-false.is-0 c.in-false-false.is-1)
