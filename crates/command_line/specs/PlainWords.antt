-- Plain words, which are no options whatever the options are, and the command that they say.
use Rattle.std.specs.Prelude.{◌≡◌, ◌≢◌, ◌⊎◌, ◌==◌, ℕ, Bool, false, None, List, ◌++◌, codes}
use Rattle.std.specs.List.{AllByRecursion}
use Rattle.mine_model.specs.Bytes.{dash}
use Rattle.mine_model.specs.Tokens.{BeginsOtherwise}
use Rattle.clap.specs.Words.{Text}
use Rattle.command_line.specs.Words.{Command, Source, mine}
use Rattle.command_line.specs.declared.words.Engine.TheVariants.{Dfs}

abbrev pub is_dash : ℕ → Bool
is_dash b = b == dash

-- a dash alone, or a word that does not begin with one
abbrev pub IsPlainWord : Text → Type 0
IsPlainWord word = (word ≡ codes "-") ⊎ BeginsOtherwise is_dash word

-- none of the words is `--`, behind which each word is taken as it is
abbrev pub HasNoDashes : List Text → Type 0
HasNoDashes words = AllByRecursion (λ word. word ≢ codes "--") words

-- a word with which other programs are asked for help, or for their version
abbrev pub IsHelp : Text → Type 0
IsHelp word = (word ≡ codes "--help") ⊎ (word ≡ codes "-h") ⊎ (word ≡ codes "--version") ⊎ (word ≡ codes "-V")

-- a use of the option of this name, `--NAME` or `--NAME=VALUE`
abbrev pub IsUse : Text → Text → Type 0
IsUse name word =
    (word ≡ codes "--" ++ name) ⊎ ((value : Text) × (word ≡ codes "--" ++ name ++ codes "=" ++ value))

-- the command of this threshold and source, where no other option is given
abbrev pub plain_command : ℕ → Source → Command
plain_command threshold source = record {
  threshold = threshold;
  source = source;
  hierarchy = None;
  weighted = false;
  engine = Dfs;
  workers = 4;
  seed = None;
  share = None;
  stats = false;
  task = mine;
}
