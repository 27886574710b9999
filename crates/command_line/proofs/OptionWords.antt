-- The options of the command, each of which may be used once.
use Rattle.std.proofs.Common.{◌≡◌, ◌∙◌, refl, sym, ap, inl, inr, true, false, List, [], ◌∷◌, ◌++◌, codes, IfSome, Option, Some, None, unwrap_or}
use Rattle.std.specs.Str.{bytes_eq}
use Rattle.std.specs.List.{AllByRecursion}
use Rattle.clap.specs.Words.{Rule, Text, new_rule}
use Rattle.clap.specs.Lexer.{long_of}
use Rattle.clap.specs.Walk.{action_of, arg_by_id, arg_by_long, nothing_held, walk, walk_from}
use Rattle.clap.specs.Faults.{settle_fault, walk_fault}
use Rattle.command_line.specs.Options.{options, desq}
use Rattle.command_line.specs.Words.{IsUsage}
use Rattle.command_line.specs.PlainWords.{HasNoDashes, IsUse}
use Rattle.command_line.proofs.PlainCommand.{top}
use Rattle.command_line.proofs.Walking.{dashes, is_single, or_else-nil}
use Rattle.command_line.proofs.RefusedWords.{faults_are, no_dashes, options_single}
use Rattle.command_line.proofs.RepeatedOptions.{twice_refused}

-- what the words of an option of this name are to clap
abbrev IsNamed : Text → Type 0
IsNamed name = (rule : Rule) × (arg_by_long top.rules name ≡ Some rule) × (arg_by_id top.rules rule.id ≡ Some rule) × (is_single (action_of rule) ≡ true)
    × (bytes_eq (codes "--" ++ name) dashes ≡ false) × (long_of (codes "--" ++ name) ≡ Some (name, None))
    × ((value : Text) → (bytes_eq (codes "--" ++ name ++ codes "=" ++ value) dashes ≡ false)
    × (long_of (codes "--" ++ name ++ codes "=" ++ value) ≡ Some (name, Some value)))

-- the option of this name may be used once
abbrev pub IsOnce : Text → Type 0
IsOnce name = (before middle behind : List Text) (first second : Text) → IsUse name first → IsUse name second → HasNoDashes before → HasNoDashes middle
    → IsUsage (before ++ first ∷ (middle ++ second ∷ behind))

pub strict : top.args_override_self ≡ false
unfolding options desq
strict = refl

once : (name : Text) → IsNamed name → IsOnce name
once name (rule, named, known, one, apart, spelled, valued) before middle behind first second use1 use2 free1 free2 = inl (λ taken.
    let all = or_else-nil (walk_fault top [] (walk_from nothing_held) (before ++ first ∷ (middle ++ second ∷ behind))) _ (sym (faults_are (before ++ first ∷ (middle ++ second ∷ behind))) ∙ taken) in
    let settles = (or_else-nil (settle_fault top.rules top.args_override_self (walk top.rules [] nothing_held (before ++ first ∷ (middle ++ second ∷ behind))).held) _ (or_else-nil _ _ all.1).1).0 in
    twice_refused top options_single strict rule one known before middle behind first second (is_word first use1) (is_word second use2)
    (no_dashes before free1) (no_dashes middle free2) all.0 settles)
  where
    is_word : (word : Text) → IsUse name word → (n : Text) × (v : Option Text) × (long_of word ≡ Some (n, v)) × (bytes_eq word dashes ≡ false) × (arg_by_long top.rules n ≡ Some rule)
    is_word word (inl is) = (name, None, ap long_of is ∙ spelled, ap (λ (t : Text). bytes_eq t dashes) is ∙ apart, named)
    is_word word (inr (value, is)) = (name, Some value, ap long_of is ∙ (valued value).1, ap (λ (t : Text). bytes_eq t dashes) is ∙ (valued value).0, named)

-- the argument of this name
abbrev rule_named : Text → Rule
rule_named name = unwrap_or (arg_by_long top.rules name) (new_rule [])

support : IsNamed (codes "support")
unfolding options desq
support = (rule_named (codes "support"), refl, refl, refl, refl, refl, (λ value. (refl, refl)))

hierarchy : IsNamed (codes "hierarchy")
unfolding options desq
hierarchy = (rule_named (codes "hierarchy"), refl, refl, refl, refl, refl, (λ value. (refl, refl)))

weighted : IsNamed (codes "weighted")
unfolding options desq
weighted = (rule_named (codes "weighted"), refl, refl, refl, refl, refl, (λ value. (refl, refl)))

engine : IsNamed (codes "engine")
unfolding options desq
engine = (rule_named (codes "engine"), refl, refl, refl, refl, refl, (λ value. (refl, refl)))

workers : IsNamed (codes "workers")
unfolding options desq
workers = (rule_named (codes "workers"), refl, refl, refl, refl, refl, (λ value. (refl, refl)))

simulate : IsNamed (codes "simulate")
unfolding options desq
simulate = (rule_named (codes "simulate"), refl, refl, refl, refl, refl, (λ value. (refl, refl)))

stats : IsNamed (codes "stats")
unfolding options desq
stats = (rule_named (codes "stats"), refl, refl, refl, refl, refl, (λ value. (refl, refl)))

max_gap : IsNamed (codes "max-gap")
unfolding options desq
max_gap = (rule_named (codes "max-gap"), refl, refl, refl, refl, refl, (λ value. (refl, refl)))

min_length : IsNamed (codes "min-length")
unfolding options desq
min_length = (rule_named (codes "min-length"), refl, refl, refl, refl, refl, (λ value. (refl, refl)))

max_length : IsNamed (codes "max-length")
unfolding options desq
max_length = (rule_named (codes "max-length"), refl, refl, refl, refl, refl, (λ value. (refl, refl)))

generalize : IsNamed (codes "generalize")
unfolding options desq
generalize = (rule_named (codes "generalize"), refl, refl, refl, refl, refl, (λ value. (refl, refl)))

generated : IsNamed (codes "generated")
unfolding options desq
generated = (rule_named (codes "generated"), refl, refl, refl, refl, refl, (λ value. (refl, refl)))

split : IsNamed (codes "split")
unfolding options desq
split = (rule_named (codes "split"), refl, refl, refl, refl, refl, (λ value. (refl, refl)))

merge : IsNamed (codes "merge")
unfolding options desq
merge = (rule_named (codes "merge"), refl, refl, refl, refl, refl, (λ value. (refl, refl)))

proof : IsNamed (codes "proof")
unfolding options desq
proof = (rule_named (codes "proof"), refl, refl, refl, refl, refl, (λ value. (refl, refl)))

check : IsNamed (codes "check")
unfolding options desq
check = (rule_named (codes "check"), refl, refl, refl, refl, refl, (λ value. (refl, refl)))

-- each option of the command
pub each_once : AllByRecursion (λ rule. IfSome rule.long IsOnce) options
unfolding options
each_once = (
  once (codes "support") support,
  (
    once (codes "hierarchy") hierarchy,
    (
      once (codes "weighted") weighted,
      (
        once (codes "engine") engine,
        (
          once (codes "workers") workers,
          (
            once (codes "simulate") simulate,
            (
              once (codes "stats") stats,
              (
                once (codes "max-gap") max_gap,
                (
                  once (codes "min-length") min_length,
                  (
                    once (codes "max-length") max_length,
                    (
                      once (codes "generalize") generalize,
                      (
                        once (codes "generated") generated,
                        (
                          once (codes "split") split,
                          (
                            once (codes "merge") merge,
                            (once (codes "proof") proof, (once (codes "check") check, (tt, (tt, tt)))),
                          ),
                        ),
                      ),
                    ),
                  ),
                ),
              ),
            ),
          ),
        ),
      ),
    ),
  ),
)
