use Rattle.std.proofs.Common.{rules, ◌∙◌, sym, List, Option, Some, None, codes, MatchOption}
use Rattle.std.proofs.lemmas.Option.{none-some}
use Rattle.clap.specs.Words.{Row, Text, found_of, rows_of}
use Rattle.gap_front.specs.declared.rule.GapRule.{GapRule}
use Rattle.command_line.specs.Words.{GivesSource, HasNoRule, IsAway, IsGiven, Source, read, embed, make, merge}
use Rattle.command_line.specs.Commands.{source_said}
use Rattle.command_line.specs.declared.words.Source.{Source as ReadSource}
use Rattle.command_line.proofs.words.given_files.Goals as goal

-- beside words of a rule there is no source but one by that rule
no_source : (found : List Row) → (HasNoRule found → ⊥) → IsAway found (codes "generated") → (IsGiven found (codes "merge") → ⊥)
    → ((rule : GapRule) (file : Text) → GivesSource found (embed rule file) → ⊥) → (source : Source) → GivesSource found source → ⊥
no_source found ruled made apart none (read expression file) gives = ruled gives.3
no_source found ruled made apart none (embed rule file) gives = none rule file gives
no_source found ruled made apart none (make count expression) gives = none-some gives.1.digits (sym made ∙ gives.1.given)
no_source found ruled made apart none (merge files) gives = apart gives.given

by_rule : (found : List Row) → (HasNoRule found → ⊥) → IsAway found (codes "generated") → (IsGiven found (codes "merge") → ⊥) → (o : Option ReadSource)
    → MatchOption o ((rule : GapRule) (file : Text) → GivesSource found (embed rule file) → ⊥) (λ source. GivesSource found (source_said source))
    → MatchOption o ((source : Source) → GivesSource found source → ⊥) (λ source. GivesSource found (source_said source))
by_rule found ruled made apart None none = no_source found ruled made apart none
by_rule found ruled made apart (Some source) gives = gives

pub returns-then-not-has_no_rule : goal.returns-then-not-has_no_rule
returns-then-not-has_no_rule c =
    let ruled : HasNoRule (rows_of (found_of c.args.matches.now)) → ⊥ = search rules in
    by_rule (rows_of (found_of c.args.matches.now)) ruled c.requires.made c.requires.merge c.given_embedding.result c.given_embedding.ensures
