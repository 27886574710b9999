use Rattle.part_windows.proofs.PlaceLemmas.{written-between}
use Rattle.part_windows.proofs.laws.windows_reach_from_first_to_last_writes.Goals as goal

pub returns : goal.returns
returns c = written-between
