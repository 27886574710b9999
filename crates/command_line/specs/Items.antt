-- Words as options with their values, flags and plain words, and the value that each name has in them.
use Rattle.std.specs.Prelude.{◌≡◌, ◌≢◌, ◌⊎◌, List, [], ◌∷◌, ◌++◌, codes, find, option_map, Option, Some}
use Rattle.std.specs.List.{AllByRecursion}
use Rattle.std.specs.Str.{bytes_eq}
use Rattle.clap.specs.Words.{Rule, Text}
use Rattle.clap.specs.declared.builder.action.ArgAction.{ArgAction}
use Rattle.clap.specs.declared.builder.action.ArgAction.TheVariants.{Set, SetTrue}
use Rattle.command_line.specs.Options.{options}
use Rattle.command_line.specs.PlainWords.{IsPlainWord}

-- `--NAME VALUE`, `--NAME=VALUE`, `--NAME`, a plain word, or `--` with words that are taken as they are
pub data Item : Type 0 where
  spaced : (name value : Text) → Item
  joined : (name value : Text) → Item
  alone : (name : Text) → Item
  plain : (word : Text) → Item
  as_they_are : (words : List Text) → Item

-- the words as they are written
abbrev pub words_of : List Item → List Text
words_of [] = []
words_of (spaced name value ∷ items) = (codes "--" ++ name) ∷ value ∷ words_of items
words_of (joined name value ∷ items) = (codes "--" ++ name ++ codes "=" ++ value) ∷ words_of items
words_of (alone name ∷ items) = (codes "--" ++ name) ∷ words_of items
words_of (plain word ∷ items) = word ∷ words_of items
words_of (as_they_are words ∷ items) = codes "--" ∷ (words ++ words_of items)

-- one of the arguments has this long name and this action
abbrev pub IsNameIn : List Rule → ArgAction → Text → Type 0
IsNameIn [] action name = ⊥
IsNameIn (rule ∷ rules) action name =
    ((rule.long ≡ Some name) × (rule.action ≡ Some action)) ⊎ IsNameIn rules action name

-- Each name is that of an option of its kind. A value that is a word of its own is plain, as is a word in
-- front of `--` that is of no option. `--` comes last.
abbrev pub AreItems : List Item → Type 0
AreItems [] = Unit {0}
AreItems (spaced name value ∷ items) = IsNameIn options Set name × IsPlainWord value × AreItems items
AreItems (joined name value ∷ items) = IsNameIn options Set name × AreItems items
AreItems (alone name ∷ items) = IsNameIn options SetTrue name × AreItems items
AreItems (plain word ∷ items) = IsPlainWord word × AreItems items
AreItems (as_they_are words ∷ items) = items ≡ []

-- the options that are used, in order, with their values: that of a flag is `true`
abbrev pub uses : List Item → List (Text × Text)
uses [] = []
uses (spaced name value ∷ items) = (name, value) ∷ uses items
uses (joined name value ∷ items) = (name, value) ∷ uses items
uses (alone name ∷ items) = (name, codes "true") ∷ uses items
uses (plain word ∷ items) = uses items
uses (as_they_are words ∷ items) = uses items

-- the words that are of no option, in order
abbrev pub words_by_place : List Item → List Text
words_by_place [] = []
words_by_place (spaced name value ∷ items) = words_by_place items
words_by_place (joined name value ∷ items) = words_by_place items
words_by_place (alone name ∷ items) = words_by_place items
words_by_place (plain word ∷ items) = word ∷ words_by_place items
words_by_place (as_they_are words ∷ items) = words ++ words_by_place items

-- no name is used twice
abbrev pub IsEachOnce : List (Text × Text) → Type 0
IsEachOnce [] = Unit {0}
IsEachOnce (first ∷ later) = AllByRecursion (λ other. first.0 ≢ other.0) later × IsEachOnce later

-- the value with which the name is used
abbrev pub value_in : List (Text × Text) → Text → Option Text
value_in all name = option_map (λ found. found.1) (find (λ one. bytes_eq one.0 name) all)

-- the items are as they should be, and each option is used once
abbrev pub IsLine : List Item → Type 0
IsLine items = AreItems items × IsEachOnce (uses items)

-- the words of no option are the same, and each option has the same value in both, or none in both
abbrev pub HaveSameValues : List Item → List Item → Type 0
HaveSameValues items others = (words_by_place items ≡ words_by_place others)
    × ((name : Text) → value_in (uses items) name ≡ value_in (uses others) name)
