use Rattle.part_windows.proofs.PlaceLemmas.{reached-none, reached-more, reached-live}
use Rattle.part_windows.proofs.laws.silent_runs_go_item_by_item.Goals as goal

pub returns-clause-none : goal.returns-clause-none
returns-clause-none c = reached-none

pub returns-clause-more : goal.returns-clause-more
returns-clause-more c = reached-more

pub returns-clause-live : goal.returns-clause-live
returns-clause-live c = λ problem whole bound. reached-live problem bound whole
