use Rattle.std.proofs.Common.{rules, ◌≡◌, ◌∙◌, sym, ℕ, List, Option, Some, None, codes, false, is_none, option_map, string_bytes, true≢false}
use Rattle.std.proofs.lemmas.Option.{none-some}
use Rattle.clap.specs.Words.{Row, first_of, found_of, rows_of}
use Rattle.command_line.specs.Words.{GivesMade, GivesSource, IsGiven, Source, read, embed, make, merge}
use Rattle.command_line.proofs.Needed.{needed_expression, shown}
use Rattle.command_line.proofs.words.given_source.Goals as goal

pub unwrap-word-requires : goal.unwrap-word-requires
unwrap-word-requires c =
    let there = needed_expression (rows_of (found_of c.args.matches.now)) c.requires in
    shown string_bytes c.in_ok-given_text.field-0 _ c.in_ok-given_text.ensures there

not_away : {X Y : Type 0} (f : X → Y) (o : Option X) → is_none o ≡ false → option_map f o ≡ None → ⊥
not_away f None there away = true≢false there
not_away f (Some x) there away = none-some (f x) (sym away)

-- with a number of sequences there is no other source
no_source : (found : List Row) → (first_of (codes "generated") found ≡ None → ⊥) → (IsGiven found (codes "merge") → ⊥)
    → ((count : ℕ) → GivesMade found count → ⊥) → (source : Source) → GivesSource found source → ⊥
no_source found there apart none (read expression file) gives = there gives.2
no_source found there apart none (embed rule file) gives = there gives.2
no_source found there apart none (make count expression) gives = none count gives.1
no_source found there apart none (merge files) gives = apart gives.given

pub returns-in-None : goal.returns-in-None
returns-in-None c =
    no_source (rows_of (found_of c.args.matches.now))
    (λ away. not_away _ c.given.result (search rules) (c.given.ensures ∙ away)) (search rules) c.in-None.ensures
