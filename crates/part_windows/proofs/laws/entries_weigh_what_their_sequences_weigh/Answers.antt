use Rattle.part_windows.proofs.PartLemmas.{count-support, count-behind, weigh-behind, count-chosen}
use Rattle.part_windows.proofs.laws.entries_weigh_what_their_sequences_weigh.Goals as goal

pub returns-clause-support : goal.returns-clause-support
returns-clause-support c = count-support

pub returns-clause-behind : goal.returns-clause-behind
returns-clause-behind c = count-behind

pub returns-clause-enough : goal.returns-clause-enough
returns-clause-enough c = weigh-behind

pub returns-clause-chosen : goal.returns-clause-chosen
returns-clause-chosen c = count-chosen
