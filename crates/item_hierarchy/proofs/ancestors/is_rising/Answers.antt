use Rattle.std.proofs.Common.{refl, arith}
use Rattle.item_hierarchy.proofs.GatheringLemmas.{rising_from_adjacent}
use Rattle.item_hierarchy.proofs.ancestors.is_rising.Goals as goal

pub returns : goal.returns
returns c = (λ yes'. rising_from_adjacent c.args.items.now (λ k d below. c.loop-i.invariant k d (omega arith)), λ rising. refl)
