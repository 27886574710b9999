use Rattle.part_windows.proofs.WindowLemmas.{alike-patterns}
use Rattle.part_windows.proofs.laws.alike_windows_have_the_same_patterns.Goals as goal

pub returns : goal.returns
returns c = alike-patterns
