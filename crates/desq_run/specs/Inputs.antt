-- What was read of the files or made, by the numbers of names.
use Rattle.std.specs.Prelude.{◌≡◌, ◌≢◌, ◌⊎◌, ◌↔◌, ◌≤◌, ◌<◌, ◌++◌, ℕ, Bool, true, List, Option, Some, None, IfSome, length, map, All, Contains, IsPermutation}
use Rattle.std.specs.List.{AllByRecursion}
use Rattle.mine_model.specs.declared.item.Item.{Item}
use Rattle.mine_model.specs.declared.fault.Fault.{Fault}
use Rattle.mine_model.specs.declared.fault.Fault.TheVariants.{Read, NoMemory}
use Rattle.mine_model.specs.declared.fault.Which.{Which}
use Rattle.mine_model.specs.Hierarchy.{Link, IsAncestor}
use Rattle.mine_model.specs.Text.{lines_of}
use Rattle.mine_model.specs.declared.row.Row.{Row}
use Rattle.mine_model.specs.Expression.{Tree, tree_by, named_in}
use Rattle.mine_model.specs.Grammar.{Use}
use Rattle.mine_model.specs.Support.{Sequence}
use Rattle.mine_model.specs.Answer.{Data, IsFrequent, Rises}
use Rattle.mine_model.specs.Names.{name_of, HasName, AreDistinct, sequence_by, named_row}
use Rattle.mine_model.specs.Ranks.{AreTiesByName}
use Rattle.mining_job.specs.Problems.{Problem, data_of}
use Rattle.mine_model.specs.Ancestry.{Ancestry}
use Rattle.item_hierarchy.specs.declared.edges.EdgeRow.{EdgeRow}
use Rattle.item_hierarchy.specs.declared.hierarchy_fault.CloseFault.{CloseFault}
use Rattle.item_hierarchy.specs.declared.hierarchy_fault.CloseFault.TheVariants.{NoMemory as OutOfMemory}
use Rattle.item_hierarchy.specs.Edges.{OrderedRows, IsCloseRefusal, Closes}
use Rattle.item_hierarchy.specs.Faults.{fault_of_close}
use Rattle.mine_model.specs.Refusal.{IsHierarchyRefusal, IsSequencesRefusal, IsUnknown, names_of, links_of, items_of, sequences_of}
use Rattle.mine_model.specs.declared.mined.Work.{Work}
use Rattle.command_line.specs.declared.words.Engine.{Engine}
use Rattle.command_line.specs.declared.share.Share.{Share}
use Rattle.gap_front.specs.Embedding.{IsRule}
use Rattle.patex_parser.specs.Parsing.{AreWithin, named_tree}
use Rattle.command_line.specs.Words.{Source, read, embed, make, merge, Command, file_of, most_merged}
use Rattle.mine_model.specs.PartitionWork.{IsNamedBefore}
use Rattle.made_input.specs.Made.{most_made}
use Rattle.desq_run.specs.Said.{names_said, links_said, sequences_said, RefusesHierarchy, RefusesSequences}
use Rattle.desq_run.specs.Sources.{IsSourceRefusal, HasUse, IsUnknownIn, SaysTree}
use Rattle.split_merge.specs.Shares.{IsRankList}
use Rattle.desq_run.specs.Parts.{IsOfShare}
use Rattle.desq_run.specs.Ends.{Input, IsInput, bytes_named, IsRowsRefusal, AreRowsTo, HasSource, IsOfKind, IsWorkOf, IsWork, AcceptsHierarchy, AcceptsData}

-- nothing is refused, the names are exactly these, and above each other stands what these links say
pub record IsHierarchyBy (Refuses : Fault → Type 0) (own : List (List ℕ)) (links : List (Link (List ℕ)))
    (names : List (List ℕ)) (h : Ancestry) : Type 0 where
  pub accepted : (fault : Fault) → Refuses fault → ⊥
  pub held : (name : List ℕ) → Contains names name ↔ Contains own name
  pub items : h.items ≡ length names
  pub above : (w t : Item) → HasName names w → HasName names t
      → (IsAncestor h.links w t ↔ IsAncestor links (name_of names w) (name_of names t))

-- the hierarchy is that of the file
abbrev pub IsHierarchyOf : List ℕ → List (List ℕ) → Ancestry → Type 0
IsHierarchyOf bytes names h =
    IsHierarchyBy (IsHierarchyRefusal bytes) (names_of (lines_of bytes)) (links_of bytes) names h

-- both items of each link are among those of the hierarchy
abbrev pub AreLinksWithin : Ancestry → Type 0
AreLinksWithin h = All (λ (link : Link Item). (link.child.0 < h.items) × (link.parent.0 < h.items)) h.links

-- the hierarchy is that of the rows, in any order; of no rows it has no items
abbrev pub IsClosureOf : Option OrderedRows → Ancestry → Type 0
IsClosureOf None h = (h.items ≡ 0) × AreLinksWithin h
IsClosureOf (Some ordered) h =
    (rows : List EdgeRow) → IsPermutation rows ordered.rows → Closes ordered.items rows h

-- why the rows make none; no rows are never refused
abbrev pub RefusesRows : Option OrderedRows → CloseFault → Type 0
RefusesRows None fault = ⊥
RefusesRows (Some ordered) fault =
    (rows : List EdgeRow) → IsPermutation rows ordered.rows → IsCloseRefusal ordered.items rows fault

-- the rows are those of the file: their hierarchy is that of the file, and what refuses them refuses the file
pub record AreRowsOf (bytes : List ℕ) (names : List (List ℕ)) (rows : Option OrderedRows) : Type 0 where
  pub closes : (h : Ancestry) → IsClosureOf rows h → IsHierarchyOf bytes names h
  pub refuses : (fault : CloseFault) → RefusesRows rows fault → fault ≢ OutOfMemory
      → IsHierarchyRefusal bytes (fault_of_close fault)

-- it is that of the source, whose file holds these bytes
abbrev pub IsHierarchySaid : Source → List ℕ → List (List ℕ) → Ancestry → Type 0
IsHierarchySaid source bytes names h =
    IsHierarchyBy (RefusesHierarchy source bytes) (names_said source bytes) (links_said source bytes) names h

-- nothing is refused, the sequences are these, and the names are those known before and those of the items
pub record IsDatabaseBy (Refuses : Fault → Type 0) (sequences : List (Sequence (List ℕ)))
    (known names : List (List ℕ)) (db : List (Sequence Item)) : Type 0 where
  pub accepted : (fault : Fault) → Refuses fault → ⊥
  pub same : map (sequence_by (name_of names)) db ≡ sequences
  pub held : (name : List ℕ)
      → Contains names name ↔ (Contains known name ⊎ Contains (items_of sequences) name)

-- the sequences are those of the file
abbrev pub IsDatabaseOf : Bool → List ℕ → List (List ℕ) → List (List ℕ) → List (Sequence Item) → Type 0
IsDatabaseOf weighted bytes known names db =
    IsDatabaseBy (IsSequencesRefusal weighted known bytes) (sequences_of weighted bytes) known names db

-- they are those of the source, whose file holds these bytes
abbrev pub IsDatabaseSaid : Source → Bool → List ℕ → List (List ℕ) → List (List ℕ) → List (Sequence Item)
    → Type 0
IsDatabaseSaid source weighted bytes known names db = IsDatabaseBy
    (RefusesSequences source weighted known bytes) (sequences_said source weighted bytes) known names db

-- names, hierarchy and sequences were read or made: numbers as the program needs them, and what they say of
-- the source
pub record AreInputs (holds : List ℕ → Option (List ℕ)) (command : Command) (names : List (List ℕ))
    (h : Ancestry)
    (db : List (Sequence Item)) : Type 0 where
  pub known : List (List ℕ)
  pub added : List (List ℕ)
  pub behind : names ≡ known ++ added
  pub before : Ancestry
  pub within : AreLinksWithin before
  pub links : h.links ≡ before.links
  pub hierarchy : IfSome (bytes_named holds command.hierarchy)
      (λ bytes. IsHierarchySaid command.source bytes known before)
  pub sequences : IfSome (bytes_named holds (file_of command.source))
      (λ bytes. IsDatabaseSaid command.source command.weighted bytes known names db)

-- reading a file, where one is named, ended with this fault: a refusal of its bytes, a counted fault, or want
-- of memory
pub data FailsBy (told : Option (List ℕ)) (Refused : List ℕ → Fault → Type 0)
    (file : Which) (Named Faulty : Type 0) : Fault → Type 0 where
  refused : (fault : Fault) → Named → IfSome told (λ bytes. Refused bytes fault) → IsOfKind file fault
      → FailsBy told Refused file Named Faulty fault
  failed : Named → Faulty → FailsBy told Refused file Named Faulty (Read file)
  no_memory : FailsBy told Refused file Named Faulty NoMemory

-- the rows are refused, or they are not, and what comes behind them fails
abbrev pub FailsInTurn : Option OrderedRows → (Fault → Type 0) → Fault → Type 0
FailsInTurn rows Fails fault = ((e : CloseFault) × RefusesRows rows e × (fault ≡ fault_of_close e))
    ⊎ ((h : Ancestry) × IsClosureOf rows h × Fails fault)

-- The numbers of the source are in their ranges. An expression on a file has none.
abbrev pub HasRanges : Source → Type 0
HasRanges (read expression file) = Unit {0}
HasRanges (embed rule file) = IsRule rule × (rule.min_length ≤ rule.max_length)
HasRanges (make count expression) = (1 ≤ count) × (count ≤ most_made)
HasRanges (merge files) = (1 ≤ length files) × (length files ≤ most_merged)

-- The source is one to mine by.
abbrev pub IsMinedBy : Source → Type 0
IsMinedBy source = (files : List (List ℕ)) → source ≡ merge files → ⊥

-- The tree of the source was read, over the numbers of the uses of its names.
pub record IsRead (source : Source) (uses : List Use) (tree : Tree Item) : Type 0 where
  pub says : SaysTree source (named_tree uses tree)
  pub within : AreWithin (length uses) (named_in tree)
  pub used : (u : Use) → Contains uses u → HasUse source u
  pub unknown : (known : List (List ℕ)) (fault : Fault)
      → IsUnknownIn known source fault ↔ IsUnknown known uses fault

-- The share, where one was asked for, is one of the shares that there are.
abbrev pub HasShare : Option Share → Type 0
HasShare share = IfSome share (λ s. (1 ≤ s.index) × (s.index ≤ s.of))

-- the rows are exactly the frequent patterns, or those whose pivot is in the share
abbrev pub AreFound : (Item → Item → Type 0) → Option Share → Data Item → List Row → Type 0
AreFound Ties None d rows = (row : Row) → Contains rows row ↔ IsFrequent d row.pattern row.support
AreFound Ties (Some share) d rows = (order : List Item) × IsRankList Ties d order
    × ((row : Row) → Contains rows row
    ↔ (IsFrequent d row.pattern row.support × IsOfShare share order row.pattern))

-- The rows are the frequent patterns by numbers, all or those of the share, in the order of their names, and
-- where it is asked for, the work is that of the engine; the tree is over names.
pub record AreRows (names : List (List ℕ)) (h : Ancestry) (db : List (Sequence Item)) (tree : Tree (List ℕ))
    (threshold : ℕ) (share : Option Share) (engine : Engine) (asked : Bool)
    (rows : List Row) (counted : Work) : Type 0 where
  pub expression : Tree Item
  pub same : tree_by (name_of names) expression ≡ tree
  pub named : AllByRecursion (HasName names) (named_in expression)
  pub found : AreFound (IsNamedBefore names) share
      (record { links = h.links; sequences = db; expression = expression; threshold = threshold }) rows
  pub rises : Rises (map (named_row names) rows)
  pub work : asked ≡ true → IsWorkOf (IsNamedBefore names) share engine
      (record { links = h.links; sequences = db; expression = expression; threshold = threshold }) counted

-- The rows are in the order of their names, the words name a source that is not refused, and where the files
-- tell their bytes nothing of what the rows are found in is refused, the rows are those that the command is
-- to find, and where it asks for the work this is its work.
pub record IsMined (words : List (List ℕ)) (holds : List ℕ → Option (List ℕ)) (command : Command)
    (names : List (List ℕ))
    (rows : List Row) (counted : Work) : Type 0 where
  pub source : HasSource words command
  pub hierarchy : AcceptsHierarchy holds command
  pub mined : AcceptsData holds command
  pub accepted : (input : Input) → IsInput words holds input
      → (fault : Fault) → IsRowsRefusal input fault → ⊥
  pub answer : (input : Input) → IsInput words holds input
      → AreRowsTo input.command.share input.command.source input (map (named_row names) rows)
  pub work : command.stats ≡ true → (input : Input) → IsInput words holds input → IsWork input counted

-- the rows are the frequent patterns by numbers, all or those of the share, in the order of their names
pub record AreOrdered (names : List (List ℕ)) (share : Option Share) (d : Data Item) (rows : List Row)
    : Type 0 where
  pub found : AreFound (IsNamedBefore names) share d rows
  pub rises : Rises (map (named_row names) rows)

-- the job is by an expression whose tree over names this is, on these sequences under this hierarchy
pub record IsJobOf (names : List (List ℕ)) (h : Ancestry) (db : List (Sequence Item)) (tree : Tree (List ℕ))
    (threshold : ℕ) (problem : Problem) : Type 0 where
  pub expression : Tree Item
  pub same : tree_by (name_of names) expression ≡ tree
  pub named : AllByRecursion (HasName names) (named_in expression)
  pub sets : data_of problem
      ≡ record { links = h.links; sequences = db; expression = expression; threshold = threshold }
  pub items : problem.hierarchy.items ≡ length names
  pub ties : AreTiesByName names problem.ranking

-- the job of the command was set by what was read or made, of which nothing is refused
pub record IsJobFor (holds : List ℕ → Option (List ℕ)) (command : Command) (names : List (List ℕ))
    (problem : Problem) : Type 0 where
  pub source : (fault : Fault) → IsSourceRefusal command.source fault → ⊥
  pub h : Ancestry
  pub db : List (Sequence Item)
  pub inputs : AreInputs holds command names h db
  pub distinct : AreDistinct names
  pub numbered : AllByRecursion (λ s. AllByRecursion (HasName names) s.items) db
  pub uses : List Use
  pub tree : Tree Item
  pub read : IsRead command.source uses tree
  pub known : (fault : Fault) → IsUnknown names uses fault → ⊥
  pub job : IsJobOf names h db (named_tree uses tree) command.threshold problem
