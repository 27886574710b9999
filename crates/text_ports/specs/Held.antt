-- What is left of the file that is open in memory.
use Rattle.std.specs.Prelude.{ℕ, List, drop}
use Rattle.text_ports.specs.declared.held.Held.{Held}
use Rattle.text_ports.specs.Memory.{bytes_at}

abbrev pub left_of : Held → List ℕ
left_of held = drop held.at (bytes_at held.files.items held.place)
