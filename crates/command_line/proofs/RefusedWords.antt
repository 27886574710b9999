-- Words that ask for help are refused, wherever they stand in front of `--`.
use Rattle.std.proofs.Common.{◌≡◌, ◌≢◌, ◌∙◌, refl, sym, ap, subst, ℕ, inl, inr, true, false, Bool, List, [], ◌∷◌, ◌++◌, codes, Option}
use Rattle.std.specs.Str.{bytes_eq}
use Rattle.std.specs.List.{AllByRecursion}
use Rattle.std.proofs.lemmas.Slice.Eq.{bytes_eq-Decides}
use Rattle.clap.specs.Words.{Text}
use Rattle.clap.specs.Walk.{Held, Waiting, idle, nothing_held, walk, walk_from}
use Rattle.clap.specs.Faults.{flags_fault, other_fault, turn_fault, walk_fault, word_fault}
use Rattle.clap.proofs.OnLiterals.{clap_on_literals}
use Rattle.clap.specs.declared.error.kind.ErrorKind.TheVariants as kind
use Rattle.command_line.specs.Options.{options, desq, faults}
use Rattle.command_line.specs.PlainWords.{HasNoDashes, IsHelp}
use Rattle.command_line.proofs.PlainCommand.{faults_at, top}
use Rattle.command_line.proofs.PlainWordLemmas.{between, no_subcommand}
use Rattle.command_line.proofs.Walking.{AreSingle, Lasts, dashes, goes_from, or_else-nil}

pub no_dashes : (words : List Text) → HasNoDashes words → AllByRecursion (λ word. bytes_eq word dashes ≡ false) words
no_dashes [] free = tt
no_dashes (word ∷ words) free = (go (bytes_eq word dashes) refl, no_dashes words free.1)
  where
    go : (b : Bool) → bytes_eq word dashes ≡ b → b ≡ false
    go true e = absurd (free.0 ((bytes_eq-Decides word dashes).0 e))
    go false e = refl

pub options_single : AreSingle top.rules
unfolding options desq
options_single = record { shorts = λ x. refl; trailing = refl; kept = refl; several = refl }

pub faults_are : (words : List Text) → faults words ≡ faults_at (walk top.rules [] nothing_held words) (walk_fault top [] (walk_from nothing_held) words)
unfolding faults options desq
faults_are words = refl

-- no bundle of flags was broken off
abbrev IsWhole : Held → Type 0
IsWhole h = h.skip ≡ 0

whole_lasts : Lasts top.rules IsWhole
whole_lasts = record {
  skips = λ h q. refl;
  settles = λ h q. q;
  begins = λ id h q. q;
  uses = λ a values h single q. q;
  pushes = λ id word h q. q;
}

refused_words : (before behind : List Text) (word : Text) → HasNoDashes before
    → ((h : Held) (waiting : Waiting) → h.skip ≡ 0 → word_fault top [] false waiting word h ≡ kind.UnknownArgument ∷ [])
    → faults (before ++ word ∷ behind) ≢ []
unfolding walk_fault
refused_words before behind word free refuses taken =
    let clean = (or_else-nil _ _ (sym (faults_are (before ++ word ∷ behind)) ∙ taken)).0 in
    let there = goes_from top options_single IsWhole whole_lasts before (word ∷ behind) (no_dashes before free) nothing_held idle 1 refl clean in
    let turn = (or_else-nil (turn_fault top [] (between there.0 there.1 there.2) word) _ there.4).0 in
    let none = (or_else-nil (word_fault top [] false there.1 word there.0) _ turn).0 in
    nonempty (sym (refuses there.0 there.1 there.3) ∙ none)
  where
    nonempty : kind.UnknownArgument ∷ [] ≡ [] → ⊥
    nonempty e = cc

help_refused : (h : Held) (waiting : Waiting) → h.skip ≡ 0 → word_fault top [] false waiting (codes "--help") h ≡ kind.UnknownArgument ∷ []
unfolding clap_on_literals options desq
help_refused h waiting q = ap (λ (o : Option Text). other_fault top o (codes "--help") h) (no_subcommand waiting (codes "--help"))

version_refused : (h : Held) (waiting : Waiting) → h.skip ≡ 0 → word_fault top [] false waiting (codes "--version") h ≡ kind.UnknownArgument ∷ []
unfolding clap_on_literals options desq
version_refused h waiting q = ap (λ (o : Option Text). other_fault top o (codes "--version") h) (no_subcommand waiting (codes "--version"))

short_help_refused : (h : Held) (waiting : Waiting) → h.skip ≡ 0 → word_fault top [] false waiting (codes "-h") h ≡ kind.UnknownArgument ∷ []
unfolding clap_on_literals options desq
short_help_refused h waiting q =
    ap (λ (o : Option Text). other_fault top o (codes "-h") h) (no_subcommand waiting (codes "-h"))
    ∙ ap (λ (n : ℕ). flags_fault top.rules false 1 (104 ∷ []) n (record h { skip = 0 })) q

short_version_refused : (h : Held) (waiting : Waiting) → h.skip ≡ 0 → word_fault top [] false waiting (codes "-V") h ≡ kind.UnknownArgument ∷ []
unfolding clap_on_literals options desq
short_version_refused h waiting q =
    ap (λ (o : Option Text). other_fault top o (codes "-V") h) (no_subcommand waiting (codes "-V"))
    ∙ ap (λ (n : ℕ). flags_fault top.rules false 1 (86 ∷ []) n (record h { skip = 0 })) q

pub help_is_refused : (before behind : List Text) (word : Text) → IsHelp word → HasNoDashes before → faults (before ++ word ∷ behind) ≢ []
help_is_refused before behind word (inl is) free =
    subst (λ (w : Text). faults (before ++ w ∷ behind) ≢ []) (sym is) (refused_words before behind (codes "--help") free help_refused)
help_is_refused before behind word (inr (inl is)) free =
    subst (λ (w : Text). faults (before ++ w ∷ behind) ≢ []) (sym is) (refused_words before behind (codes "-h") free short_help_refused)
help_is_refused before behind word (inr (inr (inl is))) free =
    subst (λ (w : Text). faults (before ++ w ∷ behind) ≢ []) (sym is) (refused_words before behind (codes "--version") free version_refused)
help_is_refused before behind word (inr (inr (inr is))) free =
    subst (λ (w : Text). faults (before ++ w ∷ behind) ≢ []) (sym is) (refused_words before behind (codes "-V") free short_version_refused)
