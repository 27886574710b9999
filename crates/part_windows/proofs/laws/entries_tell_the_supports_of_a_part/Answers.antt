use Rattle.part_windows.proofs.PartLemmas.{part-support, part-behind, part-enough}
use Rattle.part_windows.proofs.laws.entries_tell_the_supports_of_a_part.Goals as goal

pub returns-clause-support : goal.returns-clause-support
returns-clause-support c = part-support

pub returns-clause-behind : goal.returns-clause-behind
returns-clause-behind c = part-behind

pub returns-clause-enough : goal.returns-clause-enough
returns-clause-enough c = part-enough
