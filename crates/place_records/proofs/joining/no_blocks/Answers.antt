use Rattle.std.proofs.Common.{[]}
use Rattle.place_records.proofs.BlockLemmas.{IsBlock-none}
use Rattle.place_records.proofs.joining.no_blocks.Goals as goal

pub returns : goal.returns
returns g c problem bound kinds = rw (c.new.ensures.empty, c.new-2.ensures.items, c.new-3.ensures) (IsBlock-none problem bound kinds 0 [])
