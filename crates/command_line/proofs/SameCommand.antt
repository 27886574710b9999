-- What rows say is said by the values of each name.
use Rattle.std.proofs.Common.{◌≡◌, ◌↔◌, ◌∙◌, sym, ap, subst, ℕ, List, [], ◌∷◌, codes, Option, Some, None, unwrap_or}
use Rattle.mine_model.specs.Limits.{most_workers}
use Rattle.gap_front.specs.declared.rule.GapRule.{GapRule}
use Rattle.gap_front.specs.Embedding.{most_rule_length}
use Rattle.clap.specs.Words.{Row, Text, all_of, first_of}
use Rattle.command_line.specs.Options.{rows}
use Rattle.command_line.specs.Words.{Command, GivesEngine, GivesLength, GivesMade, GivesMerge, GivesMode, GivesRule, GivesSeed, GivesShare, GivesSource, GivesSupport, GivesTask, GivesWorkers, HasNoOther, HasNoRule, IsCommand, IsGiven, IsNumber, IsProvable, KeepsRules, Says, Source, Task, check, embed, files_in, make, merge, mine, prove, read}
use Rattle.command_line.specs.declared.words.Engine.{Engine}
use Rattle.command_line.specs.declared.share.Share.{Share}
use Rattle.command_line.specs.Items.{HaveSameValues, IsLine, Item, words_of}
use Rattle.command_line.proofs.AnyCommand.{same_all, same_faults, same_first}

module _ (a b : List Row) (same : (id : Text) → first_of id a ≡ first_of id b) (all : (id : Text) → all_of id a ≡ all_of id b) where
  is_in : (name : Text) (o : Option Text) → first_of name a ≡ o → first_of name b ≡ o
  is_in name o e = sym (same name) ∙ e

  not_in : (name : Text) → (IsGiven a name → ⊥) → IsGiven b name → ⊥
  not_in name away e = away (same name ∙ e)

  given_in : {P : Type 0} (name : Text) → P ↔ IsGiven a name → P ↔ IsGiven b name
  given_in name (to, from) = ((λ p. is_in name (Some (codes "true")) (to p)), (λ e. from (same name ∙ e)))

  support_in : (n : ℕ) → GivesSupport a n → GivesSupport b n
  support_in n (digits, e, number) = (digits, is_in (codes "support") (Some digits) e, number)

  engine_in : (engine : Engine) → GivesEngine a engine → GivesEngine b engine
  engine_in engine e = ap (λ (o : Option Text). unwrap_or o (codes "dfs")) (sym (same (codes "engine"))) ∙ e

  workers_in : (n : ℕ) → GivesWorkers a n → GivesWorkers b n
  workers_in n = subst (λ (o : Option Text). IsNumber 1 most_workers (unwrap_or o (codes "4")) n) (same (codes "workers"))

  seed_in : (seed : Option ℕ) → GivesSeed a seed → GivesSeed b seed
  seed_in None e = is_in (codes "simulate") None e
  seed_in (Some n) (digits, e, number) = (digits, is_in (codes "simulate") (Some digits) e, number)

  share_in : (share : Option Share) → GivesShare a share → GivesShare b share
  share_in None e = is_in (codes "split") None e
  share_in (Some share) (text, e, is) = (text, is_in (codes "split") (Some text) e, is)

  mode_in : (engine : Engine) (seed : Option ℕ) (share : Option Share) → GivesMode a engine seed share → GivesMode b engine seed share
  mode_in engine seed share m = record {
    named = engine_in engine m.named;
    given = seed_in seed m.given;
    shared = share_in share m.shared;
    suits = m.suits;
  }

  no_rule_in : HasNoRule a → HasNoRule b
  no_rule_in r = record {
    gap = is_in (codes "max-gap") None r.gap;
    least = is_in (codes "min-length") None r.least;
    most = is_in (codes "max-length") None r.most;
    generalize = not_in (codes "generalize") r.generalize;
  }

  length_in : (name default : Text) (n : ℕ) → GivesLength a name default n → GivesLength b name default n
  length_in name default n = subst (λ (o : Option Text). IsNumber 1 most_rule_length (unwrap_or o default) n) (same name)

  rule_in : (rule : GapRule) → GivesRule a rule → GivesRule b rule
  rule_in rule r = record {
    digits = r.digits;
    given = is_in (codes "max-gap") (Some r.digits) r.given;
    gap = r.gap;
    least = length_in (codes "min-length") (codes "1") rule.min_length r.least;
    most = length_in (codes "max-length") (codes "5") rule.max_length r.most;
    order = r.order;
    generalize = given_in (codes "generalize") r.generalize;
  }

  made_in : (count : ℕ) → GivesMade a count → GivesMade b count
  made_in count m = record {
    digits = m.digits;
    given = is_in (codes "generated") (Some m.digits) m.given;
    number = m.number;
    file = is_in (codes "file") None m.file;
    hierarchy = is_in (codes "hierarchy") None m.hierarchy;
    weighted = not_in (codes "weighted") m.weighted;
    split = is_in (codes "split") None m.split;
    rule = no_rule_in m.rule;
  }

  files_same : files_in b ≡ files_in a
  files_same = ap (λ (o : Option (List Text)). unwrap_or o []) (sym (all (codes "file")))

  no_other_in : HasNoOther a → HasNoOther b
  no_other_in n = record {
    generated = is_in (codes "generated") None n.generated;
    rule = no_rule_in n.rule;
    hierarchy = is_in (codes "hierarchy") None n.hierarchy;
    weighted = not_in (codes "weighted") n.weighted;
    engine = is_in (codes "engine") None n.engine;
    workers = is_in (codes "workers") None n.workers;
    simulate = is_in (codes "simulate") None n.simulate;
    split = is_in (codes "split") None n.split;
    stats = not_in (codes "stats") n.stats;
    proof = not_in (codes "proof") n.proof;
    check = is_in (codes "check") None n.check;
  }

  merge_in : (files : List Text) → GivesMerge a files → GivesMerge b files
  merge_in files m = record {
    given = is_in (codes "merge") (Some (codes "true")) m.given;
    first = m.first;
    named = is_in (codes "expression") (Some m.first) m.named;
    all = m.all ∙ ap (λ (l : List Text). m.first ∷ l) (sym files_same);
    few = m.few;
    alone = no_other_in m.alone;
  }

  source_in : (source : Source) → GivesSource a source → GivesSource b source
  source_in (read expression file) (e, f, g, r, m) = (
    is_in (codes "expression") (Some expression) e,
    files_same ∙ f,
    is_in (codes "generated") None g,
    no_rule_in r,
    not_in (codes "merge") m,
  )
  source_in (embed rule file) (e, f, g, r, m) = (
    is_in (codes "expression") (Some file) e,
    is_in (codes "file") None f,
    is_in (codes "generated") None g,
    rule_in rule r,
    not_in (codes "merge") m,
  )
  source_in (make count expression) (e, g, m) = (is_in (codes "expression") (Some expression) e, made_in count g, not_in (codes "merge") m)
  source_in (merge files) m = merge_in files m

  provable_in : IsProvable a → IsProvable b
  provable_in p = record {
    generated = is_in (codes "generated") None p.generated;
    gap = is_in (codes "max-gap") None p.gap;
    split = is_in (codes "split") None p.split;
  }

  task_in : (task : Task) → GivesTask a task → GivesTask b task
  task_in mine (p, c) = (not_in (codes "proof") p, is_in (codes "check") None c)
  task_in prove (p, c, r) = (is_in (codes "proof") (Some (codes "true")) p, is_in (codes "check") None c, provable_in r)
  task_in (check proof) c = record {
    given = is_in (codes "check") (Some proof) c.given;
    only = not_in (codes "proof") c.only;
    provable = provable_in c.provable;
    stats = not_in (codes "stats") c.stats;
    simulate = is_in (codes "simulate") None c.simulate;
  }

  pub keeps_in : KeepsRules a → KeepsRules b
  keeps_in k = record {
    support = (k.support.0, support_in k.support.0 k.support.1);
    mode = (k.mode.0, k.mode.1, k.mode.2, mode_in k.mode.0 k.mode.1 k.mode.2 k.mode.3);
    workers = (k.workers.0, workers_in k.workers.0 k.workers.1);
    source = (k.source.0, source_in k.source.0 k.source.1);
    task = (k.task.0, task_in k.task.0 k.task.1);
  }

  pub says_in : (command : Command) → Says a command → Says b command
  says_in command s = record {
    support = support_in command.threshold s.support;
    source = source_in command.source s.source;
    hierarchy = is_in (codes "hierarchy") command.hierarchy s.hierarchy;
    weighted = given_in (codes "weighted") s.weighted;
    mode = mode_in command.engine command.seed command.share s.mode;
    workers = workers_in command.workers s.workers;
    stats = given_in (codes "stats") s.stats;
    task = task_in command.task s.task;
  }

says_as : (items others : List Item) (command : Command) → IsLine items → IsLine others → HaveSameValues items others
    → IsCommand (words_of items) command → IsCommand (words_of others) command
says_as items others command line other same is =
    let first = same_first items others line other same in
    let all = same_all items others line other same in record {
      taken = sym (same_faults items others line other same) ∙ is.taken;
      rules = keeps_in (rows (words_of items)) (rows (words_of others)) first all is.rules;
      says = says_in (rows (words_of items)) (rows (words_of others)) first all command is.says;
    }

pub says_the_same : (items others : List Item) (command : Command) → IsLine items → IsLine others → HaveSameValues items others
    → IsCommand (words_of items) command ↔ IsCommand (words_of others) command
says_the_same items others command line other same =
    (says_as items others command line other same, says_as others items command other line (sym same.0, (λ name. sym (same.1 name))))
