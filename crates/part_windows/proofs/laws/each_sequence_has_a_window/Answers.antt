use Rattle.part_windows.proofs.WindowLemmas.{all-window}
use Rattle.part_windows.proofs.laws.each_sequence_has_a_window.Goals as goal

pub returns : goal.returns
returns c = all-window
