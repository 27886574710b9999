-- A line says what is said by rows that have the values of its uses.
use Rattle.std.proofs.Common.{◌≡◌, ◌∙◌, ◌↔◌, sym, ap, subst, false, IsTrue, List, codes, fold, slice_get, Option, None, option_map, option_and_then, unwrap_or, refl}
use Rattle.clap.specs.Words.{Row, Text, all_of, first_of}
use Rattle.clap.specs.Kinds.{check_kinds}
use Rattle.clap.specs.Walk.{finished, with_default}
use Rattle.mine_model.specs.Limits.{most_workers}
use Rattle.command_line.specs.Options.{rows}
use Rattle.command_line.specs.Words.{Command, GivesMode, GivesWorkers, IsAway, IsCommand, IsNumber, KeepsRules, Says}
use Rattle.command_line.specs.Items.{AreItems, IsEachOnce, Item, uses, words_of}
use Rattle.command_line.specs.declared.words.Engine.TheVariants.{Dfs}
use Rattle.command_line.proofs.PlainCommand.{four, top}
use Rattle.command_line.proofs.AnyOrder.{AreOf, row_in}
use Rattle.command_line.proofs.AnyRows.{all_uses}
use Rattle.command_line.proofs.AnyCommand.{AreAlike, faults_found, finished_alike, lacks, lacks_alike, rows_found, there}
use Rattle.command_line.proofs.SameCommand.{keeps_in, says_in}

-- an option that stands alone and was not given
pub no_flag : {P : Type 0} → (P → ⊥) → IsTrue false ↔ P
no_flag away = ((λ none. absurd (cc)), (λ there. absurd (away there)))

-- how a run searches where no option says it
pub plain_mode : (given : List Row) → IsAway given (codes "engine") → IsAway given (codes "simulate") → IsAway given (codes "split") → GivesMode given Dfs None None
plain_mode given engine simulate split = record {
  named = ap (λ (o : Option Text). unwrap_or o (codes "dfs")) engine;
  given = simulate;
  shared = split;
  suits = refl;
}

pub plain_workers : (given : List Row) → IsAway given (codes "workers") → GivesWorkers given 4
plain_workers given away = subst (λ (o : Option Text). IsNumber 1 most_workers (unwrap_or o (codes "4")) 4) (sym away) four

module _ (items : List Item) (are : AreItems items) (once : IsEachOnce (uses items)) (base : List Row) (base_are : AreOf base (all_uses false items)) where
  abbrev found : List Row
  found = fold with_default base top.rules

  alike : AreAlike found (finished top.rules (there items are once).0)
  alike = finished_alike top.rules _ _ (λ id. base_are id ∙ sym ((there items are once).6.rows id))

  same : AreAlike found (rows (words_of items))
  same id = alike id ∙ sym (ap (row_in id) (rows_found items are once))

  same_first : (id : Text) → first_of id found ≡ first_of id (rows (words_of items))
  same_first id = ap (option_and_then (λ r. slice_get r.values 0)) (same id)

  same_all : (id : Text) → all_of id found ≡ all_of id (rows (words_of items))
  same_all id = ap (option_map (λ r. r.values)) (same id)

  pub line_is_said : (command : Command) → lacks top.rules found ≡ false → KeepsRules found → Says found command → IsCommand (words_of items) command
  line_is_said command none keeps says = record {
    taken = faults_found items are once ∙ ap (check_kinds false false) (sym (lacks_alike top.rules found _ alike) ∙ none);
    rules = keeps_in found (rows (words_of items)) same_first same_all keeps;
    says = says_in found (rows (words_of items)) same_first same_all command says;
  }
