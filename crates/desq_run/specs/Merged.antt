-- Files of outputs that are merged.
use Rattle.std.specs.Prelude.{◌≡◌, ℕ, List}
use Rattle.mine_model.specs.declared.fault.Fault.{Fault}
use Rattle.mine_model.specs.declared.fault.Fault.TheVariants.{BadByte, BadRow, TooLarge, NameTooLong, TooManyItems, Read, NoMemory}
use Rattle.mine_model.specs.declared.fault.Which.{Which}
use Rattle.mine_model.specs.declared.fault.Which.TheVariants.{Merged}
use Rattle.split_merge.specs.declared.faults.MergeFault.{MergeFault}
use Rattle.split_merge.specs.declared.faults.MergeFault.TheVariants.{ReadFault, TooLarge as FileTooLarge, BadByte as ByteInLine, NameTooLong as NameInLine, BadRow as RowInLine, TooManyItems as ItemsInLine, NoMemory as OutOfMemory}
use Rattle.split_merge.specs.Merging.{FileFault, IsMergeRefusal}
use Rattle.command_line.specs.Words.{Source, read, embed, make, merge}

-- the same fault, of this file
abbrev pub fault_in : Which → MergeFault → Fault
fault_in file ReadFault = Read file
fault_in file FileTooLarge = TooLarge file
fault_in file (ByteInLine line column) = BadByte file line column
fault_in file (NameInLine line column) = NameTooLong file line column
fault_in file (RowInLine line) = BadRow file line
fault_in file (ItemsInLine line) = TooManyItems file line
fault_in file OutOfMemory = NoMemory

-- the first refusal of files that are merged, which hold these bytes; of another source none
abbrev pub RefusesMerged : Source → ℕ → List (List ℕ) → Fault → Type 0
RefusesMerged (merge names) threshold files fault = (refused : FileFault)
    × IsMergeRefusal threshold files refused × (fault ≡ fault_in (Merged refused.file) refused.fault)
RefusesMerged (read expression file) threshold files fault = ⊥
RefusesMerged (embed rule file) threshold files fault = ⊥
RefusesMerged (make count expression) threshold files fault = ⊥
