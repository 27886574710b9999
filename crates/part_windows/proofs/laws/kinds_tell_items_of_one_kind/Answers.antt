use Rattle.part_windows.proofs.KindLemmas.{numbers-alike, narrower-alike, cut-alike}
use Rattle.part_windows.proofs.laws.kinds_tell_items_of_one_kind.Goals as goal

pub returns-clause-number : goal.returns-clause-number
returns-clause-number c = numbers-alike

pub returns-clause-narrower : goal.returns-clause-narrower
returns-clause-narrower c = narrower-alike

pub returns-clause-cut : goal.returns-clause-cut
returns-clause-cut c = cut-alike
