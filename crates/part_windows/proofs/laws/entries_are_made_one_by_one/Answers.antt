use Rattle.part_windows.proofs.MakeLemmas.{no-entries, one-own, one-more, all-own}
use Rattle.part_windows.proofs.laws.entries_are_made_one_by_one.Goals as goal

pub returns-clause-none : goal.returns-clause-none
returns-clause-none c = no-entries

pub returns-clause-own : goal.returns-clause-own
returns-clause-own c = one-own

pub returns-clause-more : goal.returns-clause-more
returns-clause-more c = one-more

pub returns-clause-alone : goal.returns-clause-alone
returns-clause-alone c = all-own
