-- The words --support DIGITS EXPRESSION FILE, with `--` or without, by clap's definitions.
use Rattle.std.proofs.Common.{◌≡◌, ◌∙◌, ◌↔◌, ap, ap₂, arith, rules, sym, subst, ℕ, true, false, IsTrue, refl, fold, List, [], ◌∷◌, codes, Option, Some, None, is_some}
use Rattle.clap.specs.Words.{Row, Text, Kinds, Shape, built}
use Rattle.clap.specs.Kinds.{or_else}
use Rattle.clap.specs.Simple.{entered}
use Rattle.clap.specs.Walk.{Walk, finished, idle, nothing_held, option, positional, settled, walk, walk_from, walked}
use Rattle.clap.specs.Faults.{check_fault, defaults_fault, entered_fault, settle_fault, turn_fault, walk_fault}
use Rattle.clap.proofs.OnLiterals.{clap_on_literals}
use Rattle.command_line.specs.Options.{options, desq, faults, rows}
use Rattle.command_line.specs.Words.{GivesSource, GivesSupport, GivesMode, GivesTask, HasNoRule, IsCommand, IsNumber, KeepsRules, Says, mine, read}
use Rattle.mine_model.specs.Limits.{most_support, most_workers}
use Rattle.command_line.specs.declared.words.Engine.TheVariants.{Dfs}
use Rattle.command_line.specs.PlainWords.{IsPlainWord, plain_command}
use Rattle.command_line.proofs.PlainWordLemmas.{between, plain_step, walked_plain, walk_fault_plain}

abbrev pub top : Shape
top = (built desq).top

abbrev pub walk_over : Walk → List Text → Walk
walk_over = fold (walked top.rules [])

-- the faults of a parse, by where its walk ends and how
abbrev pub faults_at : Walk → Kinds → Kinds
faults_at w k =
    or_else k (or_else (entered_fault (built desq) w.stopped) (or_else (settle_fault top.rules top.args_override_self w.held)
    (or_else (defaults_fault (settled top.rules w.held).rows top.rules)
    (check_fault top (finished top.rules w.held) (is_some (entered (built desq) w.stopped))))))

-- a flag that was not given
flag_off : (value : Option Text) → value ≡ Some (codes "false") → IsTrue false ↔ (value ≡ Some (codes "true"))
flag_off value off = search rules

-- an option that stands alone and was not given is not given
pub not_given : (value : Option Text) → value ≡ Some (codes "false") → value ≡ Some (codes "true") → ⊥
not_given value off = search rules

-- the number of workers of a run that asks for none
pub four : IsNumber 1 most_workers (codes "4") 4
four = record { decimal = ((refl, tt), (λ none. absurd (cc)), refl); within = (omega arith, omega arith) }

module _ (digits : Text) (p : IsPlainWord digits) where
  -- the walk after --support, and after the digits
  abbrev w1 : Walk
  w1 = between (record { rows = []; pending = Some (codes "support", []); skip = 0 }) (option (codes "support")) 1

  abbrev w2 : Walk
  w2 = between (record { rows = []; pending = Some (codes "support", digits ∷ []); skip = 0 }) idle 1

  first : walked top.rules [] (walk_from nothing_held) (codes "--support") ≡ w1
  unfolding clap_on_literals options desq
  first = refl

  second : walked top.rules [] w1 digits ≡ w2
  unfolding options desq
  second = walked_plain top.rules w1.held w1.waiting w1.position digits p

  turn1 : turn_fault top [] (walk_from nothing_held) (codes "--support") ≡ []
  unfolding clap_on_literals options desq
  turn1 = refl

  -- what follows is walked from w2 on
  module _ (more : List Text) where
    abbrev words : List Text
    words = codes "--support" ∷ digits ∷ more

    walk_is : walk top.rules [] nothing_held words ≡ walk_over w2 more
    walk_is = ap (λ (w : Walk). walk_over (walked top.rules [] w digits) more) first ∙ ap (λ (w : Walk). walk_over w more) second

    faults2 : walk_fault top [] w1 (digits ∷ more) ≡ walk_fault top [] w2 more
    unfolding options desq
    faults2 = walk_fault_plain top w1.held w1.waiting w1.position digits more p

    faults1 : walk_fault top [] (walk_from nothing_held) words ≡ walk_fault top [] w2 more
    unfolding walk_fault
    faults1 = ap₂ (λ (k : Kinds) (w : Walk). or_else k (walk_fault top [] w (digits ∷ more))) turn1 first ∙ faults2

    faults_are : faults words ≡ faults_at (walk top.rules [] nothing_held words) (walk_fault top [] (walk_from nothing_held) words)
    unfolding faults options desq
    faults_are = refl

    rows_are : rows words ≡ finished top.rules (walk top.rules [] nothing_held words).held
    unfolding rows options desq
    rows_are = refl

    faults_end : (w : Walk) → walk_over w2 more ≡ w → walk_fault top [] w2 more ≡ [] → faults words ≡ faults_at w []
    faults_end w ends clean = faults_are ∙ ap₂ faults_at (walk_is ∙ ends) (faults1 ∙ clean)

    rows_end : (w : Walk) → walk_over w2 more ≡ w → rows words ≡ finished top.rules w.held
    rows_end w ends = rows_are ∙ ap (λ (v : Walk). finished top.rules v.held) (walk_is ∙ ends)

  module _ (expression file : Text) (n : ℕ) (number : IsNumber 1 most_support digits n) where
    -- the walk after the expression, and after the file
    abbrev w3 : Walk
    w3 = between (plain_step top.rules w2 expression).held idle 2

    abbrev w4 : Walk
    w4 = between (plain_step top.rules w3 file).held positional 2

    -- what is found at the end
    abbrev found : List Row
    found = finished top.rules w4.held

    none_at_end : faults_at w4 [] ≡ []
    unfolding clap_on_literals options desq
    none_at_end = refl

    end_support : GivesSupport found n
    unfolding clap_on_literals options desq
    end_support = (digits, refl, number)

    end_mode : GivesMode found Dfs None None
    unfolding clap_on_literals options desq
    end_mode = record { named = refl; given = refl; shared = refl; suits = refl }

    no_rule : HasNoRule found
    unfolding clap_on_literals options desq
    no_rule = record { gap = refl; least = refl; most = refl; generalize = not_given _ refl }

    end_source : GivesSource found (read expression file)
    unfolding clap_on_literals options desq
    end_source = (refl, refl, refl, no_rule, not_given _ refl)

    end_task : GivesTask found mine
    unfolding clap_on_literals options desq
    end_task = (not_given _ refl, refl)

    end_rules : KeepsRules found
    unfolding clap_on_literals options desq
    end_rules = record {
      support = (n, end_support);
      mode = (Dfs, None, None, end_mode);
      workers = (4, four);
      source = (read expression file, end_source);
      task = (mine, end_task);
    }

    end_says : Says found (plain_command n (read expression file))
    unfolding clap_on_literals options desq
    end_says = record {
      support = end_support;
      source = end_source;
      hierarchy = refl;
      weighted = flag_off _ refl;
      mode = end_mode;
      workers = four;
      stats = flag_off _ refl;
      task = end_task;
    }

    says : (all : List Text) → faults all ≡ [] → rows all ≡ found → IsCommand all (plain_command n (read expression file))
    says all taken is = record {
      taken = taken;
      rules = subst KeepsRules (sym is) end_rules;
      says = subst (λ (r : List Row). Says r (plain_command n (read expression file))) (sym is) end_says;
    }

    module _ (q : IsPlainWord expression) (r : IsPlainWord file) where
      abbrev plain : List Text
      plain = expression ∷ file ∷ []

      third : walked top.rules [] w2 expression ≡ w3
      unfolding options desq
      third = walked_plain top.rules w2.held w2.waiting w2.position expression q

      fourth : walked top.rules [] w3 file ≡ w4
      unfolding options desq
      fourth = walked_plain top.rules w3.held w3.waiting w3.position file r

      ends : walk_over w2 plain ≡ w4
      ends = ap (λ (w : Walk). walked top.rules [] w file) third ∙ fourth

      faults4 : walk_fault top [] w3 (file ∷ []) ≡ []
      unfolding options desq walk_fault
      faults4 = walk_fault_plain top w3.held w3.waiting w3.position file [] r

      faults3 : walk_fault top [] w2 plain ≡ []
      unfolding options desq
      faults3 = walk_fault_plain top w2.held w2.waiting w2.position expression (file ∷ []) q ∙ faults4

      pub plain_says : IsCommand (words plain) (plain_command n (read expression file))
      plain_says = says (words plain) (faults_end plain w4 ends faults3 ∙ none_at_end) (rows_end plain w4 ends)

    -- the same behind --, where each word is taken as it is
    abbrev behind : List Text
    behind = codes "--" ∷ expression ∷ file ∷ []

    abbrev b4 : Walk
    b4 = record w4 { is_trailing = true }

    behind_ends : walk_over w2 behind ≡ b4
    unfolding clap_on_literals options desq
    behind_ends = refl

    behind_clean : walk_fault top [] w2 behind ≡ []
    unfolding clap_on_literals options desq
    behind_clean = refl

    pub behind_says : IsCommand (words behind) (plain_command n (read expression file))
    behind_says = says (words behind) (faults_end behind b4 behind_ends behind_clean ∙ none_at_end) (rows_end behind b4 behind_ends)
