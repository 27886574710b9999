-- What the words of a command say: what clap finds in them, and the rules beyond clap's.
use Rattle.std.specs.Prelude.{◌≡◌, ◌≢◌, ◌↔◌, ◌⊎◌, ℕ, ◌≤◌, Bool, false, List, [], ◌∷◌, ◌++◌, codes, length, Contains, Option, Some, None, unwrap_or, IsTrue}
use Rattle.mine_model.specs.Limits.{most_support, most_workers}
use Rattle.mine_model.specs.Grammar.{IsDecimal}
use Rattle.clap.specs.Words.{Row, Text, all_of, first_of}
use Rattle.gap_front.specs.declared.rule.GapRule.{GapRule}
use Rattle.gap_front.specs.Embedding.{most_gap, most_rule_length}
use Rattle.made_input.specs.Made.{most_made}
use Rattle.command_line.specs.Options.{faults, rows}
use Rattle.command_line.specs.declared.words.Engine.{Engine}
use Rattle.command_line.specs.declared.words.Engine.TheVariants.{Count, Dfs, Pivot, Cand}
use Rattle.command_line.specs.declared.share.Share.{Share}

-- where the rows of a run come from: they are the patterns of an expression in the sequences of a file, or
-- those that are embedded in them under a rule on gaps and lengths, or the patterns of an expression in so
-- many made sequences; or no patterns are sought, and they are the rows of these files, outputs of other runs
pub data Source : Type 0 where
  read : (expression file : Text) → Source
  embed : (rule : GapRule) → (file : Text) → Source
  make : (count : ℕ) → (expression : Text) → Source
  merge : (files : List Text) → Source

-- what a run does with its data: it mines and writes the answer, or a proof of the answer in its place, or it
-- mines nothing and judges the proof in this file
pub data Task : Type 0 where
  mine : Task
  prove : Task
  check : (proof : Text) → Task

-- what the words of a command say
pub record Command : Type 0 where
  pub threshold : ℕ
  pub source : Source
  pub hierarchy : Option Text
  pub weighted : Bool
  pub engine : Engine
  pub workers : ℕ
  pub seed : Option ℕ
  pub share : Option Share
  pub stats : Bool
  pub task : Task

-- one or more decimal digits, leading zeros allowed, of a number in this range
pub record IsNumber (least most : ℕ) (digits : Text) (n : ℕ) : Type 0 where
  pub decimal : IsDecimal digits n
  pub within : (least ≤ n) × (n ≤ most)

-- the option that stands alone was given
abbrev pub IsGiven : List Row → Text → Type 0
IsGiven found name = first_of name found ≡ Some (codes "true")

-- this threshold was given
abbrev pub GivesSupport : List Row → ℕ → Type 0
GivesSupport found n =
    (digits : Text) × (first_of (codes "support") found ≡ Some digits) × IsNumber 1 most_support digits n

abbrev pub engine_name : Engine → Text
engine_name Count = codes "count"
engine_name Dfs = codes "dfs"
engine_name Pivot = codes "pivot"
engine_name Cand = codes "cand"

-- this engine was named, or none was and it is that of a run that names none
abbrev pub GivesEngine : List Row → Engine → Type 0
GivesEngine found engine = unwrap_or (first_of (codes "engine") found) (codes "dfs") ≡ engine_name engine

-- so many workers were asked for, or none and it is the number of a run that asks for none
abbrev pub GivesWorkers : List Row → ℕ → Type 0
GivesWorkers found n = IsNumber 1 most_workers (unwrap_or (first_of (codes "workers") found) (codes "4")) n

-- the greatest seed
abbrev pub most_seed : ℕ
most_seed = 18446744073709551615

-- this seed was given for a simulated run, or none was
abbrev pub GivesSeed : List Row → Option ℕ → Type 0
GivesSeed found None = first_of (codes "simulate") found ≡ None
GivesSeed found (Some n) =
    (digits : Text) × (first_of (codes "simulate") found ≡ Some digits) × IsNumber 0 most_seed digits n

-- the most shares
abbrev pub most_shares : ℕ
most_shares = 64

abbrev pub slash : ℕ
slash = 47

-- the index of a share, a slash, and how many shares there are
pub record IsShareText (text : Text) (share : Share) : Type 0 where
  pub before : Text
  pub behind : Text
  pub spelled : text ≡ before ++ slash ∷ behind
  pub count : IsNumber 1 most_shares behind share.of
  pub index : IsNumber 1 share.of before share.index

-- this share of the pivots was asked for, or none was
abbrev pub GivesShare : List Row → Option Share → Type 0
GivesShare found None = first_of (codes "split") found ≡ None
GivesShare found (Some share) =
    (text : Text) × (first_of (codes "split") found ≡ Some text) × IsShareText text share

-- the engine runs with this seed, or with none, and for this share, or for all: a search by prefixes may be
-- simulated, counting of candidates or of sets of them may not; a share is for a search by prefixes and
-- pivots that is not simulated
abbrev pub Suits : Engine → Option ℕ → Option Share → Type 0
Suits Count seed share = (seed ≡ None) × (share ≡ None)
Suits Dfs seed share = share ≡ None
Suits Pivot seed share = (seed ≡ None) ⊎ (share ≡ None)
Suits Cand seed share = (seed ≡ None) × (share ≡ None)

-- this engine is that of the run, with this seed or none and this share or none, and they suit each other
pub record GivesMode (found : List Row) (engine : Engine) (seed : Option ℕ) (share : Option Share)
    : Type 0 where
  pub named : GivesEngine found engine
  pub given : GivesSeed found seed
  pub shared : GivesShare found share
  pub suits : Suits engine seed share

-- no value was given for the argument
abbrev pub IsAway : List Row → Text → Type 0
IsAway found name = first_of name found ≡ None

-- No word of a rule was given. Clap finds the value `false` for an option that stands alone and was not
-- given, so such an option is away where it was not given, and not where it has no value.
pub record HasNoRule (found : List Row) : Type 0 where
  pub gap : IsAway found (codes "max-gap")
  pub least : IsAway found (codes "min-length")
  pub most : IsAway found (codes "max-length")
  pub generalize : IsGiven found (codes "generalize") → ⊥

-- this length of a pattern was given, or none and it is that of the digits
abbrev pub GivesLength : List Row → Text → Text → ℕ → Type 0
GivesLength found name default n = IsNumber 1 most_rule_length (unwrap_or (first_of name found) default) n

-- this rule was given: a greatest gap, and the least and the greatest length of a pattern, 1 and 5 where none
-- is given
pub record GivesRule (found : List Row) (rule : GapRule) : Type 0 where
  pub digits : Text
  pub given : first_of (codes "max-gap") found ≡ Some digits
  pub gap : IsNumber 0 most_gap digits rule.max_gap
  pub least : GivesLength found (codes "min-length") (codes "1") rule.min_length
  pub most : GivesLength found (codes "max-length") (codes "5") rule.max_length
  pub order : rule.min_length ≤ rule.max_length
  pub generalize : IsTrue rule.generalize ↔ IsGiven found (codes "generalize")

-- the words from the place of FILE on, in their order
abbrev pub files_in : List Row → List Text
files_in found = unwrap_or (all_of (codes "file") found) []

-- so many sequences are to be made, and no file is named, no weight is read and no share is asked for
pub record GivesMade (found : List Row) (count : ℕ) : Type 0 where
  pub digits : Text
  pub given : first_of (codes "generated") found ≡ Some digits
  pub number : IsNumber 1 most_made digits count
  pub file : IsAway found (codes "file")
  pub hierarchy : IsAway found (codes "hierarchy")
  pub weighted : IsGiven found (codes "weighted") → ⊥
  pub split : IsAway found (codes "split")
  pub rule : HasNoRule found

-- no option was given beside which no proof is written or judged: proofs are of the patterns of an expression
-- in the sequences of a file, and of all of them
pub record IsProvable (found : List Row) : Type 0 where
  pub generated : IsAway found (codes "generated")
  pub gap : IsAway found (codes "max-gap")
  pub split : IsAway found (codes "split")

-- a proof is to be judged, in this file; nothing is mined, so no work is counted or simulated
pub record GivesCheck (found : List Row) (proof : Text) : Type 0 where
  pub given : first_of (codes "check") found ≡ Some proof
  pub only : IsGiven found (codes "proof") → ⊥
  pub provable : IsProvable found
  pub stats : IsGiven found (codes "stats") → ⊥
  pub simulate : IsAway found (codes "simulate")

-- this is asked for: an answer where neither a proof nor a check is, and never both
abbrev pub GivesTask : List Row → Task → Type 0
GivesTask found mine = (IsGiven found (codes "proof") → ⊥) × IsAway found (codes "check")
GivesTask found prove = IsGiven found (codes "proof") × IsAway found (codes "check") × IsProvable found
GivesTask found (check proof) = GivesCheck found proof

-- no option was given but the threshold and the one that asks for a merge
pub record HasNoOther (found : List Row) : Type 0 where
  pub generated : IsAway found (codes "generated")
  pub rule : HasNoRule found
  pub hierarchy : IsAway found (codes "hierarchy")
  pub weighted : IsGiven found (codes "weighted") → ⊥
  pub engine : IsAway found (codes "engine")
  pub workers : IsAway found (codes "workers")
  pub simulate : IsAway found (codes "simulate")
  pub split : IsAway found (codes "split")
  pub stats : IsGiven found (codes "stats") → ⊥
  pub proof : IsGiven found (codes "proof") → ⊥
  pub check : IsAway found (codes "check")

-- the most files of a merge
abbrev pub most_merged : ℕ
most_merged = 64

-- These files are to be merged. The word by the first place, which is else the expression, names the first of
-- them.
pub record GivesMerge (found : List Row) (files : List Text) : Type 0 where
  pub given : IsGiven found (codes "merge")
  pub first : Text
  pub named : first_of (codes "expression") found ≡ Some first
  pub all : files ≡ first ∷ files_in found
  pub few : length files ≤ most_merged
  pub alone : HasNoOther found

-- Without a merge exactly one of FILE, a greatest gap and a number of made sequences is there. With a gap the
-- one word by its place, which is else the expression, is the name of the file.
abbrev pub GivesSource : List Row → Source → Type 0
GivesSource found (read expression file) = (first_of (codes "expression") found ≡ Some expression)
    × (files_in found ≡ file ∷ []) × IsAway found (codes "generated") × HasNoRule found
    × (IsGiven found (codes "merge") → ⊥)
GivesSource found (embed rule file) = (first_of (codes "expression") found ≡ Some file)
    × IsAway found (codes "file") × IsAway found (codes "generated") × GivesRule found rule
    × (IsGiven found (codes "merge") → ⊥)
GivesSource found (make count expression) = (first_of (codes "expression") found ≡ Some expression)
    × GivesMade found count × (IsGiven found (codes "merge") → ⊥)
GivesSource found (merge files) = GivesMerge found files

-- the rules beyond clap's, a line each: each number is in its range, the engine is one that there is, and a
-- seed and a share suit it, there is one source, and there is one task, beside nothing that does not suit it
pub record KeepsRules (found : List Row) : Type 0 where
  pub support : (n : ℕ) × GivesSupport found n
  pub mode : (engine : Engine) × (seed : Option ℕ) × (share : Option Share)
      × GivesMode found engine seed share
  pub workers : (n : ℕ) × GivesWorkers found n
  pub source : (source : Source) × GivesSource found source
  pub task : (task : Task) × GivesTask found task

-- the values that were found say this command, a line for each argument
pub record Says (found : List Row) (command : Command) : Type 0 where
  pub support : GivesSupport found command.threshold
  pub source : GivesSource found command.source
  pub hierarchy : first_of (codes "hierarchy") found ≡ command.hierarchy
  pub weighted : IsTrue command.weighted ↔ IsGiven found (codes "weighted")
  pub mode : GivesMode found command.engine command.seed command.share
  pub workers : GivesWorkers found command.workers
  pub stats : IsTrue command.stats ↔ IsGiven found (codes "stats")
  pub task : GivesTask found command.task

-- the words say this command: clap takes them, and what it finds in them keeps the rules and says it
pub record IsCommand (words : List Text) (command : Command) : Type 0 where
  pub taken : faults words ≡ []
  pub rules : KeepsRules (rows words)
  pub says : Says (rows words) command

-- the words say no command: clap refuses them, or what it finds in them breaks a rule
abbrev pub IsUsage : List Text → Type 0
IsUsage words = (faults words ≢ []) ⊎ (KeepsRules (rows words) → ⊥)

-- the run is about the patterns of an expression in the sequences of a file, and about all of them
pub record IsOfFile (command : Command) : Type 0 where
  pub expression : Text
  pub file : Text
  pub source : command.source ≡ read expression file
  pub share : command.share ≡ None

-- what the other words say suits this task: a proof is of the patterns of an expression in a file, and where
-- one is judged no run is simulated and no work is told
abbrev pub SuitsTask : Task → Command → Type 0
SuitsTask mine command = Unit {0}
SuitsTask prove command = IsOfFile command
SuitsTask (check proof) command = IsOfFile command × (command.seed ≡ None) × (command.stats ≡ false)

-- the file of sequences; made ones have none, and a merge has none
abbrev pub file_of : Source → Option Text
file_of (read expression file) = Some file
file_of (embed rule file) = Some file
file_of (make count expression) = None
file_of (merge files) = None

-- the files that are merged
abbrev pub merged_in : Source → List Text
merged_in (merge files) = files
merged_in other = []

-- the command names this file: for the sequences, for the hierarchy, to be merged, or for a proof
abbrev pub NamesFile : Command → Text → Type 0
NamesFile command name = (file_of command.source ≡ Some name) ⊎ (command.hierarchy ≡ Some name)
    ⊎ Contains (merged_in command.source) name ⊎ (command.task ≡ check name)

-- the words name this file
abbrev pub IsNamed : List Text → Text → Type 0
IsNamed words name = (command : Command) × IsCommand words command × NamesFile command name
