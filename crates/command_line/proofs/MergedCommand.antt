-- The words --support DIGITS --merge FILE .. say a merge, and a merge says nothing but the threshold and the files.
use Rattle.std.proofs.Common.{◌≡◌, ◌≤◌, refl, sym, ap, subst, arith, ℕ, inl, inr, true, false, Bool, List, [], ◌∷◌, ◌++◌, codes, fold, length, map, None}
use Rattle.std.specs.List.{AllByRecursion}
use Rattle.std.proofs.lemmas.List.{append_assoc, append-nil}
use Rattle.clap.specs.Words.{Row, Text}
use Rattle.clap.specs.Walk.{with_default}
use Rattle.clap.proofs.OnLiterals.{clap_on_literals}
use Rattle.mine_model.specs.Limits.{most_support}
use Rattle.command_line.specs.Options.{options, desq, rows}
use Rattle.command_line.specs.Words.{Command, GivesMerge, GivesMode, GivesSource, GivesSupport, GivesTask, GivesWorkers, HasNoOther, HasNoRule, IsCommand, IsNumber, KeepsRules, Says, merge, mine, most_merged}
use Rattle.command_line.specs.Items.{AreItems, IsEachOnce, Item, alone, plain, spaced, uses, words_of}
use Rattle.command_line.specs.PlainWords.{IsPlainWord, plain_command}
use Rattle.command_line.specs.declared.words.Engine.TheVariants.{Dfs}
use Rattle.command_line.proofs.PlainCommand.{not_given, top}
use Rattle.command_line.proofs.PlainDigits.{number_is_plain}
use Rattle.command_line.proofs.CommandLemmas.{IsCommand-unique}
use Rattle.command_line.proofs.AnyOrder.{AreOf, adds, row}
use Rattle.command_line.proofs.AnyWalk.{name_at}
use Rattle.command_line.proofs.AnyRows.{all_uses, placed}
use Rattle.command_line.proofs.AnyCommand.{lacks}
use Rattle.command_line.proofs.LineCommand.{line_is_said, no_flag, plain_mode, plain_workers}

-- a command with this threshold and this merge alone is said where these are given
module _ (given : List Row) (n : ℕ) (files : List Text) (support : GivesSupport given n) (m : GivesMerge given files) where
  mode : GivesMode given Dfs None None
  mode = plain_mode given m.alone.engine m.alone.simulate m.alone.split

  workers : GivesWorkers given 4
  workers = plain_workers given m.alone.workers

  task : GivesTask given mine
  task = (m.alone.proof, m.alone.check)

  merge_keeps : KeepsRules given
  merge_keeps = record {
    support = (n, support);
    mode = (Dfs, None, None, mode);
    workers = (4, workers);
    source = (merge files, m);
    task = (mine, task);
  }

  merge_says : Says given (plain_command n (merge files))
  merge_says = record {
    support = support;
    source = m;
    hierarchy = m.alone.hierarchy;
    weighted = no_flag m.alone.weighted;
    mode = mode;
    workers = workers;
    stats = no_flag m.alone.stats;
    task = task;
  }

-- a merge is the plain command of its files
pub merge_is_plain : (words : List Text) (command : Command) (files : List Text) → IsCommand words command → command.source ≡ merge files
    → (1 ≤ length files) × (length files ≤ most_merged) × (command ≡ plain_command command.threshold (merge files))
merge_is_plain words command files is source =
    let m : GivesMerge (rows words) files = subst (GivesSource (rows words)) source is.says.source in (
      subst (λ (l : List Text). 1 ≤ length l) (sym m.all) (omega arith),
      m.few,
      IsCommand-unique words command (plain_command command.threshold (merge files)) is
          (record { taken = is.taken; rules = is.rules; says = merge_says (rows words) command.threshold files is.says.support m }),
    )

-- the files, each as a plain word
abbrev as_items : List Text → List Item
as_items = map (λ word. plain word)

words_as : (files : List Text) → words_of (as_items files) ≡ files
words_as [] = refl
words_as (file ∷ files) = ap (λ (l : List Text). file ∷ l) (words_as files)

uses_none : (files : List Text) → uses (as_items files) ≡ []
uses_none [] = refl
uses_none (file ∷ files) = uses_none files

are_plain : (files : List Text) → AllByRecursion IsPlainWord files → AreItems (as_items files)
are_plain [] all = tt
are_plain (file ∷ files) all = (all.0, are_plain files all.1)

placed_as : (taken : Bool) (files : List Text) → all_uses taken (as_items files) ≡ placed taken files
placed_as taken [] = refl
placed_as taken (file ∷ files) = ap (λ (l : List (Text × Text)). (name_at taken, file) ∷ l) (placed_as true files)

-- the row of the files behind the first
abbrev files_row : List Text → List Row
files_row [] = []
files_row (file ∷ files) = row (codes "file") (file ∷ files) ∷ []

module _ (digits first : Text) where
  -- the rows of what comes before them
  abbrev base : List Row
  base = row (codes "support") (digits ∷ []) ∷ row (codes "merge") (codes "true" ∷ []) ∷ row (codes "expression") (first ∷ []) ∷ []

  abbrev used : List (Text × Text)
  used = (codes "support", digits) ∷ (codes "merge", codes "true") ∷ (codes "expression", first) ∷ []

  base_are : AreOf base used
  unfolding options desq
  base_are =
      adds (codes "expression") first (row (codes "support") (digits ∷ []) ∷ row (codes "merge") (codes "true" ∷ []) ∷ []) ((codes "support", digits) ∷ (codes "merge", codes "true") ∷ [])
      (adds (codes "merge") (codes "true") (row (codes "support") (digits ∷ []) ∷ []) ((codes "support", digits) ∷ [])
      (adds (codes "support") digits [] [] (λ id. refl)))

  more_are : (files more : List Text) (file : Text) → AreOf (base ++ files_row (file ∷ files)) (used ++ placed true (file ∷ files))
      → AreOf (base ++ files_row (file ∷ (files ++ more))) (used ++ placed true (file ∷ (files ++ more)))
  more_are files [] file are = subst (λ (l : List Text). AreOf (base ++ files_row (file ∷ l)) (used ++ placed true (file ∷ l))) (sym (append-nil files)) are
  more_are files (next ∷ more) file are =
      subst (λ (l : List Text). AreOf (base ++ files_row (file ∷ l)) (used ++ placed true (file ∷ l))) (append_assoc files (next ∷ []) more)
      (more_are (files ++ next ∷ []) more file
      (subst (λ (l : List (Text × Text)). AreOf (base ++ files_row (file ∷ (files ++ next ∷ []))) (used ++ l)) (placed_more file files next)
      (adds (codes "file") next (base ++ files_row (file ∷ files)) (used ++ placed true (file ∷ files)) are)))
    where
      placed_end : (l : List Text) (x : Text) → placed true l ++ (codes "file", x) ∷ [] ≡ placed true (l ++ x ∷ [])
      placed_end [] x = refl
      placed_end (y ∷ l) x = ap (λ (m : List (Text × Text)). (codes "file", y) ∷ m) (placed_end l x)

      placed_more : (f : Text) (l : List Text) (x : Text) → placed true (f ∷ l) ++ (codes "file", x) ∷ [] ≡ placed true (f ∷ (l ++ x ∷ []))
      placed_more f l x = placed_end (f ∷ l) x

  -- the rows of a merge
  all_are : (files : List Text) → AreOf (base ++ files_row files) (used ++ placed true files)
  all_are [] = base_are
  all_are (file ∷ files) = more_are [] files file (adds (codes "file") file base used base_are)

  abbrev found : List Text → List Row
  found files = fold with_default (base ++ files_row files) top.rules

  module _ (n : ℕ) (number : IsNumber 1 most_support digits n) where
    gives_support : (files : List Text) → GivesSupport (found files) n
    unfolding clap_on_literals options desq
    gives_support [] = (digits, refl, number)
    gives_support (file ∷ files) = (digits, refl, number)

    no_rule : (files : List Text) → HasNoRule (found files)
    unfolding clap_on_literals options desq
    no_rule [] = record { gap = refl; least = refl; most = refl; generalize = not_given _ refl }
    no_rule (file ∷ files) = record { gap = refl; least = refl; most = refl; generalize = not_given _ refl }

    no_other : (files : List Text) → HasNoOther (found files)
    unfolding clap_on_literals options desq
    no_other [] = record {
      generated = refl;
      rule = no_rule [];
      hierarchy = refl;
      weighted = not_given _ refl;
      engine = refl;
      workers = refl;
      simulate = refl;
      split = refl;
      stats = not_given _ refl;
      proof = not_given _ refl;
      check = refl;
    }
    no_other (file ∷ files) = record {
      generated = refl;
      rule = no_rule (file ∷ files);
      hierarchy = refl;
      weighted = not_given _ refl;
      engine = refl;
      workers = refl;
      simulate = refl;
      split = refl;
      stats = not_given _ refl;
      proof = not_given _ refl;
      check = refl;
    }

    gives_merge : (files : List Text) → length (first ∷ files) ≤ most_merged → GivesMerge (found files) (first ∷ files)
    unfolding clap_on_literals options desq
    gives_merge [] few = record { given = refl; first = first; named = refl; all = refl; few = few; alone = no_other [] }
    gives_merge (file ∷ files) few = record { given = refl; first = first; named = refl; all = refl; few = few; alone = no_other (file ∷ files) }

    none_lacks : (files : List Text) → lacks top.rules (found files) ≡ false
    unfolding clap_on_literals options desq
    none_lacks [] = refl
    none_lacks (file ∷ files) = refl

-- the line of a merge
abbrev line : Text → List Text → List Item
line digits files = spaced (codes "support") digits ∷ alone (codes "merge") ∷ as_items files

line_words : (digits : Text) (files : List Text) → words_of (line digits files) ≡ codes "--support" ∷ digits ∷ codes "--merge" ∷ files
line_words digits files = ap (λ (l : List Text). codes "--support" ∷ digits ∷ codes "--merge" ∷ l) (words_as files)

line_items : (digits : Text) (files : List Text) → IsPlainWord digits → AllByRecursion IsPlainWord files → AreItems (line digits files)
unfolding options
line_items digits files p all =
    (inl (refl, refl), p, (inr (inr (inr (inr (inr (inr (inr (inr (inr (inr (inr (inr (inr (inl (refl, refl)))))))))))))), are_plain files all))

line_once : (digits : Text) (files : List Text) → IsEachOnce (uses (line digits files))
line_once digits files =
    subst (λ (l : List (Text × Text)). IsEachOnce ((codes "support", digits) ∷ (codes "merge", codes "true") ∷ l)) (sym (uses_none files))
    (((λ same. cc), tt), (tt, tt))

line_uses : (digits first : Text) (files : List Text) → all_uses false (line digits (first ∷ files)) ≡ used digits first ++ placed true files
line_uses digits first files = ap (λ (l : List (Text × Text)). used digits first ++ l) (placed_as true files)

pub merge_is_said : (digits : Text) (files : List Text) (n : ℕ) → IsNumber 1 most_support digits n → 1 ≤ length files → length files ≤ most_merged
    → AllByRecursion IsPlainWord files → IsCommand (codes "--support" ∷ digits ∷ codes "--merge" ∷ files) (plain_command n (merge files))
merge_is_said digits [] n number some few all = absurd (omega (arith, some))
merge_is_said digits (first ∷ files) n number some few all =
    subst (λ (ws : List Text). IsCommand ws (plain_command n (merge (first ∷ files)))) (line_words digits (first ∷ files))
    (line_is_said (line digits (first ∷ files)) (line_items digits (first ∷ files) (number_is_plain 1 most_support digits n number) all)
    (line_once digits (first ∷ files)) (base digits first ++ files_row files)
    (subst (AreOf (base digits first ++ files_row files)) (sym (line_uses digits first files)) (all_are digits first files))
    (plain_command n (merge (first ∷ files))) (none_lacks digits first n number files)
    (merge_keeps (found digits first files) n (first ∷ files) support merged) (merge_says (found digits first files) n (first ∷ files) support merged))
  where
    support : GivesSupport (found digits first files) n
    support = gives_support digits first n number files

    merged : GivesMerge (found digits first files) (first ∷ files)
    merged = gives_merge digits first n number files few
