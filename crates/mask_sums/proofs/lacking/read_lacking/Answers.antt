use Rattle.std.proofs.Common.{Some}
use Rattle.mask_sums.specs.Kept.{lacks, OpensIn}
use Rattle.mask_sums.proofs.SetLemmas.{union-none}
use Rattle.mask_sums.proofs.LackLemmas.{no_more, no-member}
use Rattle.mask_sums.proofs.lacking.read_lacking.Goals as goal

pub returns-else-not-is_empty-clause-opened : goal.returns-else-not-is_empty-clause-opened
returns-else-not-is_empty-clause-opened c rank =
    union-none c.args.opened.now rank (OpensIn (lacks (Some c.args.need)) c.args.action c.args.mask.now rank)
    (no-member c.opening_set-opening.result rank (OpensIn (lacks (Some c.args.need)) c.args.action c.args.mask.now rank)
    (c.is_empty.ensures.0 c.if-not-is_empty.false) (c.opening_set-opening.ensures rank))

pub returns-else-not-is_empty-clause-stands : goal.returns-else-not-is_empty-clause-stands
returns-else-not-is_empty-clause-stands c =
    no_more (OpensIn (lacks (Some c.args.need)) c.args.action c.args.mask.now) c.args.stands.now (λ rank.
    no-member c.opening_set-opening.result rank (OpensIn (lacks (Some c.args.need)) c.args.action c.args.mask.now rank)
    (c.is_empty.ensures.0 c.if-not-is_empty.false) (c.opening_set-opening.ensures rank))
