-- The words --support DIGITS --proof EXPRESSION FILE, and those with --check PROOF in place of --proof.
use Rattle.std.proofs.Common.{◌≡◌, refl, ℕ, inl, inr, true, false, List, [], ◌∷◌, ◌++◌, codes, fold, None, Some}
use Rattle.clap.specs.Words.{Row, Text, first_of}
use Rattle.clap.specs.Walk.{with_default}
use Rattle.clap.proofs.OnLiterals.{clap_on_literals}
use Rattle.mine_model.specs.Limits.{most_support}
use Rattle.command_line.specs.Options.{options, desq}
use Rattle.command_line.specs.Words.{GivesMode, GivesSource, GivesSupport, GivesTask, GivesWorkers, HasNoRule, IsAway, IsCommand, IsGiven, IsNumber, IsProvable, KeepsRules, Says, Task, check, files_in, prove, read}
use Rattle.command_line.specs.Items.{AreItems, IsEachOnce, Item, alone, plain, spaced, uses}
use Rattle.command_line.specs.PlainWords.{IsPlainWord, plain_command}
use Rattle.command_line.specs.declared.words.Engine.TheVariants.{Dfs}
use Rattle.command_line.proofs.PlainCommand.{not_given, top}
use Rattle.command_line.proofs.PlainDigits.{number_is_plain}
use Rattle.command_line.proofs.AnyOrder.{AreOf, adds, row}
use Rattle.command_line.proofs.AnyRows.{all_uses}
use Rattle.command_line.proofs.AnyCommand.{lacks}
use Rattle.command_line.proofs.LineCommand.{line_is_said, no_flag, plain_mode, plain_workers}

-- the digits of a threshold, an expression and a file were given, and no option that says how they are mined
record IsBare (given : List Row) (digits expression file : Text) : Type 0 where
  pub support : first_of (codes "support") given ≡ Some digits
  pub named : first_of (codes "expression") given ≡ Some expression
  pub files : files_in given ≡ file ∷ []
  pub generated : IsAway given (codes "generated")
  pub rule : HasNoRule given
  pub merge : IsGiven given (codes "merge") → ⊥
  pub hierarchy : IsAway given (codes "hierarchy")
  pub weighted : IsGiven given (codes "weighted") → ⊥
  pub engine : IsAway given (codes "engine")
  pub workers : IsAway given (codes "workers")
  pub simulate : IsAway given (codes "simulate")
  pub split : IsAway given (codes "split")
  pub stats : IsGiven given (codes "stats") → ⊥

module _ (given : List Row) (digits expression file : Text) (n : ℕ) (number : IsNumber 1 most_support digits n) (bare : IsBare given digits expression file) where
  provable : IsProvable given
  provable = record { generated = bare.generated; gap = bare.rule.gap; split = bare.split }

  support : GivesSupport given n
  support = (digits, bare.support, number)

  source : GivesSource given (read expression file)
  source = (bare.named, bare.files, bare.generated, bare.rule, bare.merge)

  mode : GivesMode given Dfs None None
  mode = plain_mode given bare.engine bare.simulate bare.split

  workers : GivesWorkers given 4
  workers = plain_workers given bare.workers

  module _ (task : Task) (gives : GivesTask given task) where
    bare_keeps : KeepsRules given
    bare_keeps = record {
      support = (n, support);
      mode = (Dfs, None, None, mode);
      workers = (4, workers);
      source = (read expression file, source);
      task = (task, gives);
    }

    bare_says : Says given (record (plain_command n (read expression file)) { task = task })
    bare_says = record {
      support = support;
      source = source;
      hierarchy = bare.hierarchy;
      weighted = no_flag bare.weighted;
      mode = mode;
      workers = workers;
      stats = no_flag bare.stats;
      task = gives;
    }

module _ (digits expression file : Text) (n : ℕ) (number : IsNumber 1 most_support digits n) (plain_expression : IsPlainWord expression) (plain_file : IsPlainWord file) where
  -- what comes first in both
  abbrev support_row : List Row
  support_row = row (codes "support") (digits ∷ []) ∷ []

  support_are : AreOf support_row ((codes "support", digits) ∷ [])
  unfolding options desq
  support_are = adds (codes "support") digits [] [] (λ id. refl)

  -- a proof is written
  abbrev proof_line : List Item
  proof_line = spaced (codes "support") digits ∷ alone (codes "proof") ∷ plain expression ∷ plain file ∷ []

  abbrev proof_rows : List Row
  proof_rows =
      row (codes "support") (digits ∷ []) ∷ row (codes "proof") (codes "true" ∷ [])
      ∷ row (codes "expression") (expression ∷ []) ∷ row (codes "file") (file ∷ []) ∷ []

  proof_items : AreItems proof_line
  unfolding options
  proof_items = (
    inl (refl, refl),
    number_is_plain 1 most_support digits n number,
    (inr (inr (inr (inr (inr (inr (inr (inr (inr (inr (inr (inr (inr (inr (inl (refl, refl))))))))))))))), (plain_expression, (plain_file, tt))),
  )

  proof_once : IsEachOnce (uses proof_line)
  proof_once = (((λ same. cc), tt), (tt, tt))

  proof_are : AreOf proof_rows (all_uses false proof_line)
  unfolding options desq
  proof_are =
      adds (codes "file") file (support_row ++ row (codes "proof") (codes "true" ∷ []) ∷ row (codes "expression") (expression ∷ []) ∷ [])
      ((codes "support", digits) ∷ (codes "proof", codes "true") ∷ (codes "expression", expression) ∷ [])
      (adds (codes "expression") expression (support_row ++ row (codes "proof") (codes "true" ∷ []) ∷ []) ((codes "support", digits) ∷ (codes "proof", codes "true") ∷ [])
      (adds (codes "proof") (codes "true") support_row ((codes "support", digits) ∷ []) support_are))

  abbrev proof_found : List Row
  proof_found = fold with_default proof_rows top.rules

  proof_rule : HasNoRule proof_found
  unfolding clap_on_literals options desq
  proof_rule = record { gap = refl; least = refl; most = refl; generalize = not_given _ refl }

  proof_bare : IsBare proof_found digits expression file
  unfolding clap_on_literals options desq
  proof_bare = record {
    support = refl;
    named = refl;
    files = refl;
    generated = refl;
    rule = proof_rule;
    merge = not_given _ refl;
    hierarchy = refl;
    weighted = not_given _ refl;
    engine = refl;
    workers = refl;
    simulate = refl;
    split = refl;
    stats = not_given _ refl;
  }

  proof_task : GivesTask proof_found prove
  unfolding clap_on_literals options desq
  proof_task = (refl, refl, provable proof_found digits expression file n number proof_bare)

  proof_lacks : lacks top.rules proof_found ≡ false
  unfolding clap_on_literals options desq
  proof_lacks = refl

  pub proof_is_said : IsCommand (codes "--support" ∷ digits ∷ codes "--proof" ∷ expression ∷ file ∷ []) (record (plain_command n (read expression file)) { task = prove })
  proof_is_said =
      line_is_said proof_line proof_items proof_once proof_rows proof_are (record (plain_command n (read expression file)) { task = prove }) proof_lacks
      (bare_keeps proof_found digits expression file n number proof_bare prove proof_task) (bare_says proof_found digits expression file n number proof_bare prove proof_task)

  -- a proof is judged
  module _ (proof : Text) (plain_proof : IsPlainWord proof) where
    abbrev check_line : List Item
    check_line = spaced (codes "support") digits ∷ spaced (codes "check") proof ∷ plain expression ∷ plain file ∷ []

    abbrev check_rows : List Row
    check_rows =
        row (codes "support") (digits ∷ []) ∷ row (codes "check") (proof ∷ [])
        ∷ row (codes "expression") (expression ∷ []) ∷ row (codes "file") (file ∷ []) ∷ []

    check_items : AreItems check_line
    unfolding options
    check_items = (
      inl (refl, refl),
      number_is_plain 1 most_support digits n number,
      (
        inr (inr (inr (inr (inr (inr (inr (inr (inr (inr (inr (inr (inr (inr (inr (inl (refl, refl)))))))))))))))),
        plain_proof,
        (plain_expression, (plain_file, tt)),
      ),
    )

    check_once : IsEachOnce (uses check_line)
    check_once = (((λ same. cc), tt), (tt, tt))

    check_are : AreOf check_rows (all_uses false check_line)
    unfolding options desq
    check_are =
        adds (codes "file") file (support_row ++ row (codes "check") (proof ∷ []) ∷ row (codes "expression") (expression ∷ []) ∷ [])
        ((codes "support", digits) ∷ (codes "check", proof) ∷ (codes "expression", expression) ∷ [])
        (adds (codes "expression") expression (support_row ++ row (codes "check") (proof ∷ []) ∷ []) ((codes "support", digits) ∷ (codes "check", proof) ∷ [])
        (adds (codes "check") proof support_row ((codes "support", digits) ∷ []) support_are))

    abbrev check_found : List Row
    check_found = fold with_default check_rows top.rules

    check_rule : HasNoRule check_found
    unfolding clap_on_literals options desq
    check_rule = record { gap = refl; least = refl; most = refl; generalize = not_given _ refl }

    check_bare : IsBare check_found digits expression file
    unfolding clap_on_literals options desq
    check_bare = record {
      support = refl;
      named = refl;
      files = refl;
      generated = refl;
      rule = check_rule;
      merge = not_given _ refl;
      hierarchy = refl;
      weighted = not_given _ refl;
      engine = refl;
      workers = refl;
      simulate = refl;
      split = refl;
      stats = not_given _ refl;
    }

    check_task : GivesTask check_found (check proof)
    unfolding clap_on_literals options desq
    check_task = record {
      given = refl;
      only = not_given _ refl;
      provable = provable check_found digits expression file n number check_bare;
      stats = check_bare.stats;
      simulate = refl;
    }

    check_lacks : lacks top.rules check_found ≡ false
    unfolding clap_on_literals options desq
    check_lacks = refl

    pub check_is_said : IsCommand (codes "--support" ∷ digits ∷ codes "--check" ∷ proof ∷ expression ∷ file ∷ []) (record (plain_command n (read expression file)) { task = check proof })
    check_is_said =
        line_is_said check_line check_items check_once check_rows check_are (record (plain_command n (read expression file)) { task = check proof }) check_lacks
        (bare_keeps check_found digits expression file n number check_bare (check proof) check_task)
        (bare_says check_found digits expression file n number check_bare (check proof) check_task)
