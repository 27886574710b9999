use Rattle.part_windows.proofs.PlaceLemmas.{first-completes, last-ends}
use Rattle.part_windows.proofs.laws.first_writes_complete_and_last_writes_end.Goals as goal

pub returns-clause-first : goal.returns-clause-first
returns-clause-first c = first-completes

pub returns-clause-last : goal.returns-clause-last
returns-clause-last c = last-ends
