-- The options of the command, and what clap's own definitions say of its words.
use Rattle.std.specs.Prelude.{true, List, [], ◌∷◌, codes, Some}
use Rattle.clap.specs.Words.{App, Row, Rule, Text, Kinds, fault_of, matches_of, new_rule}
use Rattle.clap.specs.Simple.{new_shape}
use Rattle.clap.specs.declared.builder.action.ArgAction.TheVariants.{Set, SetTrue, Append}

-- an option with one value, `--name VALUE` or `--name=VALUE`
abbrev pub value : Text → Rule
value name = record (new_rule name) { long = Some name; action = Some Set }

-- an option that stands alone, `--name`
abbrev pub flag : Text → Rule
flag name = record (new_rule name) { long = Some name; action = Some SetTrue }

-- a word by its place
abbrev pub word : Text → Rule
word name = record (new_rule name) { action = Some Set }

-- the words from this place on, each of which is one more value
abbrev pub words : Text → Rule
words name = record (new_rule name) { action = Some Append }

-- the words are refused without it
abbrev pub needed : Rule → Rule
needed rule = record rule { required = true }

-- the arguments of the command, in order
unfoldable pub options : List Rule
options = needed (value (codes "support")) ∷ value (codes "hierarchy") ∷ flag (codes "weighted")
    ∷ value (codes "engine") ∷ value (codes "workers") ∷ value (codes "simulate") ∷ flag (codes "stats")
    ∷ value (codes "max-gap") ∷ value (codes "min-length") ∷ value (codes "max-length")
    ∷ flag (codes "generalize") ∷ value (codes "generated") ∷ value (codes "split")
    ∷ flag (codes "merge") ∷ flag (codes "proof") ∷ value (codes "check")
    ∷ needed (word (codes "expression")) ∷ words (codes "file") ∷ []

-- the command, as clap sees it: no program's name comes before the words, and no word asks for help
unfoldable pub desq : App
desq = record {
  subs = [];
  top = record (new_shape (codes "desq"))
      { no_binary_name = true; disable_help_flag = true; rules = options };
}

-- why clap refuses the words; empty where it takes them
unfoldable pub faults : List Text → Kinds
faults all = fault_of desq all

-- the values that clap finds in words that it takes
unfoldable pub rows : List Text → List Row
rows all = matches_of desq all
