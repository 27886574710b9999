-- What a board keeps of its labels.
use Rattle.std.specs.Prelude.{List, map}
use Rattle.turn_lock.specs.History.{Made}
use Rattle.result_board.specs.declared.board.Entry.{Entry}

-- the entries, as a history
abbrev pub history_of : List Entry → List Made
history_of entries = map (λ (entry : Entry). (entry.number, entry.label.value)) entries
