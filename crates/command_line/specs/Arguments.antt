-- The arguments of the code, as clap reads them, and what a parse that succeeds gives.
use Rattle.std.specs.Prelude.{◌≡◌, true, List, is_some}
use Rattle.std.specs.List.{AllByRecursion}
use Rattle.clap.specs.Words.{Row, Rule, first_of}
use Rattle.command_line.specs.declared.options.Argument.{Argument}
use Rattle.command_line.specs.declared.options.Argument.TheVariants.{NeededValue, Value, Flag, NeededWord, Words}
use Rattle.command_line.specs.Options.{options, value, flag, word, words, needed}

-- an argument of the code, as clap reads it
abbrev pub rule_for : Argument → Rule
rule_for (NeededValue name) = needed (value name.now)
rule_for (Value name) = value name.now
rule_for (Flag name) = flag name.now
rule_for (NeededWord name) = needed (word name.now)
rule_for (Words name) = words name.now

-- each needed argument has a value
abbrev pub HasNeeded : List Row → Type 0
HasNeeded found =
    AllByRecursion (λ (rule : Rule). rule.required ≡ true → is_some (first_of rule.id found) ≡ true) options
