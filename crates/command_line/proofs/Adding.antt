-- What clap sees of a command with arguments that were added in turn.
use Rattle.std.proofs.Common.{◌≡◌, ◌∙◌, refl, sym, ap, true, false, not, List, [], ◌∷◌, map, fold, codes, is_some}
use Rattle.std.specs.List.{list_all}
use Rattle.clap.specs.Words.{AddsArg, AddsInTurn, app_of, is_simple, rule_of, with_rule}
use Rattle.clap.specs.Faults.{is_simple_and_free}
use Rattle.clap.specs.Simple.{new_shape}
use Rattle.clap.specs.Walk.{is_empty, is_simple_arg}
use Rattle.clap.specs.declared.builder.arg.Arg.{Arg}
use Rattle.clap.specs.declared.builder.command.Command.{Command}
use Rattle.clap.proofs.WalkLemmas.{both}
use Rattle.clap.proofs.SimpleLemmas.{is_false}
use Rattle.clap.proofs.OnLiterals.{clap_on_literals}
use Rattle.command_line.specs.Options.{options, desq}

-- a simple argument is not global
pub local_argument : (a : Arg) → is_simple_arg a ≡ true → a.global ≡ false
local_argument a e =
    let p1 = both (is_empty a.overrides.items) _ e in
    let p2 = both (is_empty a.default_vals_ifs.items) _ p1.1 in
    let p3 = both (is_empty a.groups.items) _ p2.1 in
    let p4 = both (not (is_some a.val_delim)) _ p3.1 in
    let p5 = both (not (is_some a.terminator)) _ p4.1 in
    let p6 = both (not a.allow_hyphen_values) _ p5.1 in
    let p7 = both (not a.allow_negative_numbers) _ p6.1 in
    let p8 = both (not a.require_equals) _ p7.1 in
    let p9 = both (not a.last) _ p8.1 in
    is_false a.global p9.1

pub added_in_turn : (old : Command) (xs : List Arg) (new : Command) → AddsInTurn AddsArg old xs new
    → list_all (λ r. r.is_simple) (map rule_of xs) ≡ true → app_of new ≡ fold with_rule (app_of old) (map rule_of xs)
added_in_turn old [] new h simple = ap app_of (sym h)
added_in_turn old (x ∷ xs) new h simple =
    let s = both (rule_of x).is_simple _ simple in
    added_in_turn h.0 xs new h.2 s.1 ∙ ap (λ a. fold with_rule a (map rule_of xs)) (h.1.shape (local_argument x s.0))

pub options_are_simple : list_all (λ r. r.is_simple) options ≡ true
unfolding options
options_are_simple = refl

pub desq_is : fold with_rule (record { top = record (new_shape (codes "desq")) { no_binary_name = true; disable_help_flag = true }; subs = [] }) options ≡ desq
unfolding options desq
desq_is = refl

pub desq_is_simple : is_simple desq ≡ true
unfolding clap_on_literals options desq
desq_is_simple = refl

pub desq_is_free : is_simple_and_free desq ≡ true
unfolding clap_on_literals options desq
desq_is_free = refl
