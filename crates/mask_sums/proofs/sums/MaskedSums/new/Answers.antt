use Rattle.std.proofs.Common.{◌∙◌}
use Rattle.mask_sums.proofs.RoomLemmas.{together-none}
use Rattle.mask_sums.proofs.sums.MaskedSums.new.Goals as goal

pub returns : goal.returns
returns c = together-none c.new-2.result 0 c.in_ok-new.field-0 c.new-2.ensures ∙ c.in_ok-new.ensures
