-- The status and the message of each fault. This program's own format.
use Rattle.std.specs.Prelude.{ℕ, ◌++◌, ◌∷◌, List, [], codes, Option, Some, None, Result, Ok, Err}
use Rattle.std.specs.Fmt.{decimal}
use Rattle.mine_model.specs.declared.fault.Fault.{Fault}
use Rattle.mine_model.specs.declared.fault.Fault.TheVariants.{Usage, BadToken, BadRepeat, Unexpected, Unknown, BadByte, BadWeight, Cycle, BadRow, BadProof, ExprTooLong, RepeatLimit, TooDeep, TooManyLeaves, TooLarge, NameTooLong, TooManyItems, TooManyAncestors, TooManySequences, SequenceTooLong, Read, Write, NoMemory}
use Rattle.mine_model.specs.declared.fault.Which.{Which}
use Rattle.mine_model.specs.declared.fault.Which.TheVariants.{Hierarchy, Sequences, Merged, Proof}
use Rattle.mine_model.specs.declared.mined.Work.{Work}
use Rattle.mine_model.specs.Bytes.{line_feed}

-- what is malformed has 3, and what is beyond a limit 4
abbrev pub fault_status : Fault → ℕ
fault_status Usage = 2
fault_status (BadToken column) = 3
fault_status (BadRepeat column) = 3
fault_status (Unexpected column) = 3
fault_status (Unknown column) = 3
fault_status (BadByte file line column) = 3
fault_status (BadWeight line column) = 3
fault_status (Cycle line) = 3
fault_status (BadRow file line) = 3
fault_status (BadProof line) = 3
fault_status (Read file) = 5
fault_status Write = 6
fault_status NoMemory = 7
fault_status _ = 4

-- the status of a run
abbrev pub status_of : Result (Option Work) Fault → ℕ
status_of (Ok told) = 0
status_of (Err fault) = fault_status fault

abbrev pub file_text : Which → List ℕ
file_text Hierarchy = codes "hierarchy"
file_text Sequences = codes "sequences"
file_text (Merged number) = codes "file " ++ decimal number
file_text Proof = codes "proof"

-- the place in the expression, and what is wrong there
abbrev pub at_column : ℕ → List ℕ → List ℕ
at_column column what = codes "expression: column " ++ decimal column ++ what

-- the line of the file, and what is wrong with it
abbrev pub at_line : Which → ℕ → List ℕ → List ℕ
at_line file line what = file_text file ++ codes ": line " ++ decimal line ++ what

-- the place in the file, and what is wrong there
abbrev pub at_place : Which → ℕ → ℕ → List ℕ → List ℕ
at_place file line column what = at_line file line (codes " column " ++ decimal column ++ what)

abbrev pub fault_text : Fault → List ℕ
fault_text Usage = codes "usage: desq --support N [options] EXPR [FILE]"
fault_text (BadToken column) = at_column column (codes ": bad token")
fault_text (BadRepeat column) = at_column column (codes ": bad repeat")
fault_text (Unexpected column) = at_column column (codes ": unexpected")
fault_text (Unknown column) = at_column column (codes ": unknown name")
fault_text (BadByte file line column) = at_place file line column (codes ": bad byte")
fault_text (BadWeight line column) = at_place Sequences line column (codes ": bad weight")
fault_text (Cycle line) = at_line Hierarchy line (codes ": cycle")
fault_text (BadRow file line) = at_line file line (codes ": bad row")
fault_text (BadProof line) = at_line Proof line (codes ": refused")
fault_text ExprTooLong = codes "expression: more than 4096 bytes"
fault_text (RepeatLimit column) = at_column column (codes ": repeat over 1024")
fault_text (TooDeep column) = at_column column (codes ": nested over 128")
fault_text (TooManyLeaves count) = codes "expression: " ++ decimal count ++ codes " leaves, over 1024"
fault_text (TooLarge file) = file_text file ++ codes ": more than 67108864 bytes"
fault_text (NameTooLong file line column) = at_place file line column (codes ": name over 255 bytes")
fault_text (TooManyItems file line) = at_line file line (codes ": more than 1048576 items")
fault_text TooManyAncestors = codes "hierarchy: more than 33554432 ancestors"
fault_text (TooManySequences line) = at_line Sequences line (codes ": more than 4194304 sequences")
fault_text (SequenceTooLong line) = at_line Sequences line (codes ": more than 65535 items in a sequence")
fault_text (Read file) = file_text file ++ codes ": read fault"
fault_text Write = codes "write fault"
fault_text NoMemory = codes "out of memory"

abbrev pub work_text : Work → List ℕ
work_text work = codes "nodes " ++ decimal work.nodes ++ codes " parts " ++ decimal work.parts
    ++ codes " candidates " ++ decimal work.candidates

-- what stands on the error output after a run that ended so; after one that is done, its work where it is
-- told
abbrev pub message_of : Result (Option Work) Fault → List ℕ
message_of (Ok None) = []
message_of (Ok (Some work)) = codes "desq: " ++ work_text work ++ line_feed ∷ []
message_of (Err fault) = codes "desq: " ++ fault_text fault ++ line_feed ∷ []
