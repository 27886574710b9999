use Rattle.std.proofs.Common.{rules, ◌∙◌, ◌≡◌, ap, ap₂, fold, map, true}
use Rattle.std.specs.List.{list_all}
use Rattle.clap.specs.Words.{with_rule}
use Rattle.clap.specs.Simple.{Shape, app_of_fields, on_top}
use Rattle.command_line.specs.Arguments.{rule_for}
use Rattle.command_line.specs.Options.{options}
use Rattle.command_line.proofs.Adding.{added_in_turn, options_are_simple, desq_is}
use Rattle.command_line.proofs.Needed.{needed_given}
use Rattle.command_line.proofs.options.command.Goals as goal

pub returns-clause-app : goal.returns-clause-app
unfolding options
returns-clause-app c =
    let table : map rule_for c.as_slice.result.now ≡ options = search rules in
    let rules = c.in_ok-arguments.ensures ∙ table in
    let named = ap app_of_fields c.no_binary_name.ensures ∙ ap (on_top (λ (s : Shape). record s { no_binary_name = true })) c.new.ensures.app in
    let helped = ap app_of_fields c.disable_help_flag.ensures ∙ ap (on_top (λ (s : Shape). record s { disable_help_flag = true })) named in
    added_in_turn _ _ _ c.in_ok-args.ensures (ap (list_all (λ r. r.is_simple)) rules ∙ options_are_simple)
    ∙ ap₂ (fold with_rule) helped rules ∙ desq_is

pub returns-clause-needed : goal.returns-clause-needed
unfolding options
returns-clause-needed c m parsed =
    let table : map rule_for c.as_slice.result.now ≡ options = search rules in
    let table2 = c.in_ok-arguments.ensures ∙ table in
    needed_given c.disable_help_flag.result _ _ m c.in_ok-args.ensures (search rules) (search rules) (search rules) (search rules) table2 parsed
