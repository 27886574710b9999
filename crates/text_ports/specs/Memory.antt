-- Files that are held in memory.
use Rattle.std.specs.Prelude.{ℕ, List, [], Option, option_map, option_and_then, unwrap_or, find, bytes_eq, slice_get}
use Rattle.text_ports.specs.declared.held.MemFile.{MemFile}

-- The bytes of the first file of this name, or None where there is none.
unfoldable pub bytes_of : List MemFile → List ℕ → Option (List ℕ)
bytes_of files name = option_map (λ file. file.bytes.items) (find
    (λ file. bytes_eq file.name.items name) files)

-- The bytes of the file at this place, and no byte where no file is open.
abbrev pub bytes_at : List MemFile → Option ℕ → List ℕ
bytes_at files place = unwrap_or (option_map
    (λ file. file.bytes.items) (option_and_then (slice_get files) place)) []
