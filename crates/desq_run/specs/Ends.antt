-- How a run ends: what its outcome says of the words and of the files.
use Rattle.std.specs.Prelude.{◌≡◌, ℕ, ◌-◌, ◌≤◌, ◌⊎◌, ◌++◌, List, [], map, Option, Some, None, IfSome, is_some, Result, Ok, Err}
use Rattle.std.specs.List.{slice_get}
use Rattle.mine_model.specs.declared.fault.Fault.{Fault}
use Rattle.mine_model.specs.declared.fault.Fault.TheVariants.{Usage, Unknown, BadByte, BadWeight, Cycle, BadRow, BadProof, TooLarge, NameTooLong, TooManyItems, TooManyAncestors, TooManySequences, SequenceTooLong, Read, Write, NoMemory}
use Rattle.mine_model.specs.declared.fault.Which.{Which}
use Rattle.mine_model.specs.declared.fault.Which.TheVariants.{Hierarchy, Sequences, Merged, Proof}
use Rattle.mine_model.specs.Expression.{Tree, tree_by}
use Rattle.mine_model.specs.Grammar.{Use, ReadsAs}
use Rattle.mine_model.specs.Support.{Sequence}
use Rattle.mine_model.specs.Answer.{Data, NamedRow, IsFrequent, IsAnswer}
use Rattle.mine_model.specs.Counted.{IsCountingWork}
use Rattle.mine_model.specs.Growth.{IsSearchWork}
use Rattle.mine_model.specs.declared.mined.Work.{Work}
use Rattle.mine_model.specs.First.{FirstOf}
use Rattle.mine_model.specs.Text.{lines_of}
use Rattle.mine_model.specs.Refusal.{links_of, items_of, sequences_of}
use Rattle.gap_front.specs.Answers.{IsFrequentlyEmbedded, IsEmbeddedAnswer}
use Rattle.gap_front.specs.Embedding.{tree_of_rule}
use Rattle.command_line.specs.declared.words.Engine.{Engine}
use Rattle.command_line.specs.declared.words.Engine.TheVariants.{Count, Dfs, Pivot, Cand}
use Rattle.command_line.specs.declared.share.Share.{Share}
use Rattle.command_line.specs.Words.{Source, read, embed, make, merge, Task, mine, prove, check, Command, IsCommand, IsUsage, file_of, merged_in}
use Rattle.split_merge.specs.Merging.{IsMerge}
use Rattle.proof_names.specs.NamedProofs.{IsGoodProof, IsProofText}
use Rattle.proof_names.specs.NamedRefusals.{IsProofFileRefusal}
use Rattle.mine_model.specs.PartitionWork.{IsBytewiseBefore, IsPartitionWork}
use Rattle.automaton_model.specs.NamedWork.{IsCandidateSetWork}
use Rattle.desq_run.specs.Sources.{IsSourceRefusal, HasUse, IsUnknownIn, SaysTree}
use Rattle.desq_run.specs.Said.{names_said, links_said, sequences_said, RefusesHierarchy, RefusesSequences, output_of, checked_text}
use Rattle.desq_run.specs.Parts.{IsPartBy, IsShareWork}
use Rattle.desq_run.specs.Merged.{RefusesMerged}

-- the file of the proof that is checked
abbrev pub checked_in : Task → Option (List ℕ)
checked_in mine = None
checked_in prove = None
checked_in (check file) = Some file

-- a command, and what its files hold; of a file that is not named, nothing
pub record Input : Type 0 where
  pub command : Command
  pub hierarchy : List ℕ
  pub sequences : List ℕ
  pub merged : List (List ℕ)
  pub proof : List ℕ

-- what the file of this name holds; where none is named, nothing
abbrev pub bytes_named : (List ℕ → Option (List ℕ)) → Option (List ℕ) → Option (List ℕ)
bytes_named holds None = Some []
bytes_named holds (Some name) = holds name

-- the words say the command, and its files hold these bytes
pub record IsInput (words : List (List ℕ)) (holds : List ℕ → Option (List ℕ)) (input : Input) : Type 0 where
  pub said : IsCommand words input.command
  pub hierarchy : bytes_named holds input.command.hierarchy ≡ Some input.hierarchy
  pub sequences : bytes_named holds (file_of input.command.source) ≡ Some input.sequences
  pub merged : map holds (merged_in input.command.source) ≡ map (λ bytes. Some bytes) input.merged
  pub proof : bytes_named holds (checked_in input.command.task) ≡ Some input.proof

-- the sequences of the input
abbrev pub sequences_in : Input → List (Sequence (List ℕ))
sequences_in input = sequences_said input.command.source input.command.weighted input.sequences

-- the names of its hierarchy
abbrev pub hierarchy_names : Input → List (List ℕ)
hierarchy_names input = names_said input.command.source input.hierarchy

-- the names of its hierarchy and of its sequences
abbrev pub known_names : Input → List (List ℕ)
known_names input = hierarchy_names input ++ items_of (sequences_in input)

-- the first refusal of what is mined: of the expression or the rule, of the hierarchy, of the sequences, of
-- an unknown name, in this order
abbrev pub IsDataRefusal : Input → Fault → Type 0
IsDataRefusal input = FirstOf (IsSourceRefusal input.command.source)
    (FirstOf (RefusesHierarchy input.command.source input.hierarchy)
    (FirstOf
    (RefusesSequences input.command.source input.command.weighted (hierarchy_names input) input.sequences)
    (IsUnknownIn (known_names input) input.command.source)))

-- the first refusal of what the rows are found in: of what is mined, or of the files that are merged
abbrev pub IsRowsRefusal : Input → Fault → Type 0
IsRowsRefusal input = FirstOf (IsDataRefusal input)
    (RefusesMerged input.command.source input.command.threshold input.merged)

-- the data of the input, with a tree over names
abbrev pub input_data : Input → Tree (List ℕ) → Data (List ℕ)
input_data input tree = record {
  links = links_said input.command.source input.hierarchy;
  sequences = sequences_in input;
  expression = tree;
  threshold = input.command.threshold;
}

-- the first refusal of the proof that is checked, over the data and with the names of the input; where none
-- is checked, none
abbrev pub RefusesProof : Task → Input → Fault → Type 0
RefusesProof mine input fault = ⊥
RefusesProof prove input fault = ⊥
RefusesProof (check file) input fault = (tree : Tree (List ℕ)) × SaysTree input.command.source tree
    × IsProofFileRefusal (input_data input tree) (known_names input) input.proof fault

-- the first refusal: of what the rows are found in, and last of the proof that is checked
abbrev pub IsFirstRefusal : Input → Fault → Type 0
IsFirstRefusal input = FirstOf (IsRowsRefusal input) (RefusesProof input.command.task input)

-- nothing is refused
abbrev pub IsAccepted : Input → Type 0
IsAccepted input = (fault : Fault) → IsFirstRefusal input fault → ⊥

-- The rows are the answer: to an expression what it generates from the sequences, under a rule of gaps and
-- lengths what is embedded in them. Of a merge they are the rows of all lines.
abbrev pub IsAnswerTo : Source → Input → List NamedRow → Type 0
IsAnswerTo (read expression file) input answer = (tree : Tree Use) × ReadsAs expression tree
    × IsAnswer (input_data input (tree_by (λ (u : Use). u.name) tree)) answer
IsAnswerTo (embed rule file) input answer = IsEmbeddedAnswer (links_of input.hierarchy) rule
    (sequences_of input.command.weighted input.sequences) input.command.threshold answer
IsAnswerTo (make count expression) input answer = (tree : Tree Use) × ReadsAs expression tree
    × IsAnswer (input_data input (tree_by (λ (u : Use). u.name) tree)) answer
IsAnswerTo (merge files) input answer = IsMerge input.command.threshold input.merged answer

-- the rows are those of the answer to the expression whose pivot is in the share, in order
abbrev pub IsPartOf : List ℕ → Input → Share → List NamedRow → Type 0
IsPartOf expression input share rows = (tree : Tree Use) × ReadsAs expression tree
    × IsPartBy (λ row.
    IsFrequent (input_data input (tree_by (λ (u : Use). u.name) tree)) row.pattern row.support)
    (input_data input (tree_by (λ (u : Use). u.name) tree)) share rows

-- they are those of the answer of the source
abbrev pub IsPartTo : Source → Input → Share → List NamedRow → Type 0
IsPartTo (read expression file) input share rows = IsPartOf expression input share rows
IsPartTo (embed rule file) input share rows = IsPartBy (λ row.
    IsFrequentlyEmbedded (links_of input.hierarchy) rule
    (sequences_of input.command.weighted input.sequences) input.command.threshold row.pattern row.support)
    (input_data input (tree_of_rule rule)) share rows
IsPartTo (make count expression) input share rows = IsPartOf expression input share rows
IsPartTo (merge files) input share rows = ⊥

-- the rows that a run is to find: the answer, or its part where a share was asked for
abbrev pub AreRowsTo : Option Share → Source → Input → List NamedRow → Type 0
AreRowsTo None source input rows = IsAnswerTo source input rows
AreRowsTo (Some share) source input rows = IsPartTo source input share rows

-- the text is a proof of the rows, over the data of the input
abbrev pub IsProofOfRows : Input → List NamedRow → List ℕ → Type 0
IsProofOfRows input rows text = (tree : Tree (List ℕ)) × SaysTree input.command.source tree
    × IsProofText (input_data input tree) rows text

-- the proof that is checked is good, over the data and with the names of the input, and has so many rows
abbrev pub HasGoodProof : Input → ℕ → Type 0
HasGoodProof input count = (tree : Tree (List ℕ)) × SaysTree input.command.source tree
    × IsGoodProof (input_data input tree) (known_names input) (lines_of input.proof) count

-- The text is what a run with this task writes: what is written of the answer, or of its part; or in place of
-- it a proof of the answer; or of a proof that is checked how many rows it has.
abbrev pub IsTextOf : Task → Input → List ℕ → Type 0
IsTextOf mine input text = (rows : List NamedRow)
    × AreRowsTo input.command.share input.command.source input rows
    × (text ≡ output_of input.command.source rows)
IsTextOf prove input text = (rows : List NamedRow)
    × AreRowsTo input.command.share input.command.source input rows × IsProofOfRows input rows text
IsTextOf (check file) input text =
    (count : ℕ) × HasGoodProof input count × (text ≡ checked_text count)

-- it is that of the command
abbrev pub IsAnswerText : Input → List ℕ → Type 0
IsAnswerText input text = IsTextOf input.command.task input text

-- the work is that of a run of the engine over the data, or for a share of the pivots, where Ties says which
-- of two items of one frequency ranks first
abbrev pub IsWorkOf : {A : Type 0} → (A → A → Type 0) → Option Share → Engine → Data A → Work → Type 0
IsWorkOf Ties (Some share) engine d work = IsShareWork Ties d share work
IsWorkOf Ties None Count d work = IsCountingWork d work
IsWorkOf Ties None Dfs d work = IsSearchWork d work
IsWorkOf Ties None Pivot d work = IsPartitionWork Ties d work
IsWorkOf Ties None Cand d work = IsCandidateSetWork Ties d work

-- the work is that of the command on its input, where items of one frequency rank by their names
abbrev pub IsWork : Input → Work → Type 0
IsWork input work = (tree : Tree (List ℕ)) × SaysTree input.command.source tree
    × IsWorkOf IsBytewiseBefore input.command.share input.command.engine (input_data input tree) work

-- the command names a file of this kind; the files of a merge count from 1
abbrev pub NamesKind : Command → Which → Type 0
NamesKind command Hierarchy = (name : List ℕ) × (command.hierarchy ≡ Some name)
NamesKind command Sequences = (name : List ℕ) × (file_of command.source ≡ Some name)
NamesKind command (Merged number) = (1 ≤ number)
    × ((name : List ℕ) × (slice_get (merged_in command.source) (number - 1) ≡ Some name))
NamesKind command Proof = (name : List ℕ) × (command.task ≡ check name)

-- a fault of what stands in the file of this kind
abbrev pub IsOfKind : Which → Fault → Type 0
IsOfKind kind (BadByte file line column) = file ≡ kind
IsOfKind kind (NameTooLong file line column) = file ≡ kind
IsOfKind kind (TooLarge file) = file ≡ kind
IsOfKind kind (TooManyItems file line) = (file ≡ kind) × (kind ≡ Proof → ⊥)
IsOfKind kind (BadRow file line) = (file ≡ kind) × ((number : ℕ) × (kind ≡ Merged number))
IsOfKind kind (BadProof line) = Proof ≡ kind
IsOfKind kind (Cycle line) = Hierarchy ≡ kind
IsOfKind kind TooManyAncestors = Hierarchy ≡ kind
IsOfKind kind (BadWeight line column) = Sequences ≡ kind
IsOfKind kind (TooManySequences line) = Sequences ≡ kind
IsOfKind kind (SequenceTooLong line) = Sequences ≡ kind
IsOfKind kind _ = ⊥

-- a fault of a file that the command names, or of a name of its expression where it stands
abbrev pub IsOfFiles : Command → Fault → Type 0
IsOfFiles command fault = ((kind : Which) × NamesKind command kind × IsOfKind kind fault)
    ⊎ ((u : Use) × HasUse command.source u × (fault ≡ Unknown u.column))

-- the words say a command whose expression or rule is not refused
abbrev pub HasSource : List (List ℕ) → Command → Type 0
HasSource words command =
    IsCommand words command × ((fault : Fault) → IsSourceRefusal command.source fault → ⊥)

-- of the hierarchy of the command nothing is refused, where what it holds is told
abbrev pub AcceptsHierarchy : (List ℕ → Option (List ℕ)) → Command → Type 0
AcceptsHierarchy holds command = (bytes : List ℕ) (fault : Fault)
    → bytes_named holds command.hierarchy ≡ Some bytes → RefusesHierarchy command.source bytes fault → ⊥

-- the input is of this command, and its hierarchy and its sequences are what the files hold
pub record HoldsData (holds : List ℕ → Option (List ℕ)) (command : Command) (input : Input) : Type 0 where
  pub same : command ≡ input.command
  pub hierarchy : bytes_named holds command.hierarchy ≡ Some input.hierarchy
  pub sequences : bytes_named holds (file_of command.source) ≡ Some input.sequences

-- of what is mined nothing is refused, where what its files hold is told
abbrev pub AcceptsData : (List ℕ → Option (List ℕ)) → Command → Type 0
AcceptsData holds command =
    (input : Input) (fault : Fault) → HoldsData holds command input → IsDataRefusal input fault → ⊥

-- The fault comes in its turn, where the files of what is mined tell what they hold: one of the proof where
-- of these nothing is refused, and another one is their first refusal, if no files are merged.
pub record ComesInTurn (holds : List ℕ → Option (List ℕ)) (command : Command) (fault : Fault) : Type 0 where
  pub proof : IsOfKind Proof fault → AcceptsData holds command
  pub other : (IsOfKind Proof fault → ⊥) → merged_in command.source ≡ [] → (input : Input)
      → HoldsData holds command input → IsDataRefusal input fault

-- nothing but this fault is refused of the hierarchy, where what it holds is told
abbrev pub RefusesNoOther : (List ℕ → Option (List ℕ)) → Command → Fault → Type 0
RefusesNoOther holds command fault = (bytes : List ℕ) (other : Fault)
    → bytes_named holds command.hierarchy ≡ Some bytes → RefusesHierarchy command.source bytes other
    → other ≡ fault

-- the source is refused, or names no file: nothing of it stands in one
abbrev pub NeedsNoFile : Source → Type 0
NeedsNoFile source = ((fault : Fault) × IsSourceRefusal source fault)
    ⊎ ((file_of source ≡ None) × (merged_in source ≡ []))

-- What each outcome of a run says of the words, and of what the files hold where they tell it. A run that is
-- done tells its work where the command asks for it. The hierarchy is read before the sequences, a proof
-- behind them, and the files of a merge one after another.
pub data MayEndWith (words : List (List ℕ)) (holds : List ℕ → Option (List ℕ)) : Result (Option Work) Fault
    → Type 0 where
  done : (command : Command) (told : Option Work) → HasSource words command → command.stats ≡ is_some told
      → AcceptsHierarchy holds command → AcceptsData holds command
      → ((input : Input) → IsInput words holds input → IsAccepted input × IfSome told (IsWork input))
      → MayEndWith words holds (Ok told)
  no_command : IsUsage words → MayEndWith words holds (Err Usage)
  refused_source : (command : Command) (fault : Fault) → IsCommand words command
      → IsSourceRefusal command.source fault → MayEndWith words holds (Err fault)
  refused_file : (command : Command) (fault : Fault) → HasSource words command
      → ((input : Input) → IsInput words holds input → IsFirstRefusal input fault)
      → RefusesNoOther holds command fault → IsOfFiles command fault
      → ComesInTurn holds command fault → MayEndWith words holds (Err fault)
  read_fault : (command : Command) (file : Which) → HasSource words command → NamesKind command file
      → (file ≡ Sequences → AcceptsHierarchy holds command)
      → (file ≡ Proof → AcceptsHierarchy holds command × AcceptsData holds command)
      → MayEndWith words holds (Err (Read file))
  write_fault : (command : Command) → HasSource words command → AcceptsHierarchy holds command
      → AcceptsData holds command
      → ((input : Input) → IsInput words holds input → IsAccepted input) → MayEndWith words holds (Err Write)
  no_memory : MayEndWith words holds (Err NoMemory)
