use Rattle.part_windows.proofs.WindowLemmas.{window-patterns}
use Rattle.part_windows.proofs.laws.patterns_are_written_in_the_window.Goals as goal

pub returns : goal.returns
returns c = window-patterns
