-- The place of a file, and its bytes.
use Rattle.std.proofs.Common.{◌≡◌, ℕ, List, [], Option, Some, None, is_some, if◌then◌else◌, unwrap_or, arith, bytes_eq, position, refl, sym}
use Rattle.std.proofs.lemmas.List.Folds.{find_at}
use Rattle.std.proofs.lemmas.Option.{slice_get_cases}
use Rattle.std.specs.List.{position_or_len}
use Rattle.text_ports.specs.declared.held.MemFile.{MemFile}
use Rattle.text_ports.specs.Memory.{bytes_of, bytes_at}

-- The first place of a name is where its bytes are.
pub found : (files : List MemFile) (name : List ℕ) (place : ℕ) → position (λ file. bytes_eq file.name.items name) files ≡ Some place → bytes_of files name ≡ Some (bytes_at files (Some place))
unfolding bytes_of
found files name place is_first =
    grind (arith, find_at (λ (file : MemFile). bytes_eq file.name.items name) files, slice_get_cases files (position_or_len (λ file. bytes_eq file.name.items name) files))

-- A name that has no place has no bytes.
pub missing : (files : List MemFile) (name : List ℕ) → position (λ file. bytes_eq file.name.items name) files ≡ None → bytes_of files name ≡ None
unfolding bytes_of
missing files name is_none =
    grind (arith, find_at (λ (file : MemFile). bytes_eq file.name.items name) files, slice_get_cases files (position_or_len (λ file. bytes_eq file.name.items name) files))

-- What is open once the place of a name was looked up.
pub opened : (files : List MemFile) (name : List ℕ) (place : Option ℕ) → place ≡ position (λ file. bytes_eq file.name.items name) files
    → (bytes_of files name ≡ (if is_some place then Some (bytes_at files place) else None)) × (bytes_at files place ≡ unwrap_or (bytes_of files name) [])
opened files name None is = let none = missing files name (sym is) in (none, rw none refl)
opened files name (Some i) is = let at = found files name i (sym is) in (at, rw at refl)
