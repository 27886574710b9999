-- Words in which each name has the same value are refused alike, and the same is found in them.
use Rattle.std.proofs.Common.{◌≡◌, ◌∙◌, ◌&&◌, ◌||◌, refl, sym, ap, ap₂, ℕ, true, false, true≢false, not, Bool, List, [], ◌∷◌, fold, slice_get, Option, Some, None, is_some, option_map, option_and_then, if◌then◌else◌}
use Rattle.std.specs.Str.{bytes_eq}
use Rattle.std.specs.Option.{option_map_or, option_or}
use Rattle.std.specs.List.{AllByRecursion, list_any}
use Rattle.std.proofs.lemmas.List.Folds.{find-append}
use Rattle.clap.specs.Words.{Kinds, Row, Rule, Text, all_of, first_of}
use Rattle.clap.specs.Facts.{explicit_source}
use Rattle.clap.specs.Kinds.{check_kinds, or_else}
use Rattle.clap.specs.Takes.{is_given}
use Rattle.clap.specs.Walk.{Held, Waiting, Walk, default_rows, finished, has_row, idle, is_empty, nothing_held, reading_by, settled, walk, with_default}
use Rattle.clap.specs.Faults.{check_fault, defaults_fault, given_default_fault, settle_fault}
use Rattle.clap.specs.declared.builder.value_parser.Reading.{Reading}
use Rattle.clap.specs.declared.parser.matches.ValueSource.TheVariants.{DefaultValue}
use Rattle.command_line.specs.Options.{options, desq, faults, rows}
use Rattle.command_line.specs.Items.{AreItems, HaveSameValues, IsEachOnce, IsLine, Item, uses, words_of}
use Rattle.command_line.proofs.PlainCommand.{faults_at, top}
use Rattle.command_line.proofs.PlainWordLemmas.{between}
use Rattle.command_line.proofs.RefusedWords.{faults_are}
use Rattle.command_line.proofs.RepeatedOptions.{stood}
use Rattle.command_line.proofs.AnyOrder.{has_row_is, row_for, row_in, with_absent}
use Rattle.command_line.proofs.AnyWalk.{rests}
use Rattle.command_line.proofs.AnyRows.{Goes, all_uses, goes_over}
use Rattle.command_line.proofs.AnyUses.{same_uses}

-- each name has the same row
abbrev pub AreAlike : List Row → List Row → Type 0
AreAlike a b = (id : Text) → row_in id a ≡ row_in id b

defaults_alike : (id : Text) (how : Reading) (values : List Text) (a b : List Row) → has_row id a ≡ false → has_row id b ≡ false → AreAlike a b
    → AreAlike (default_rows id how values a) (default_rows id how values b)
defaults_alike id how [] a b away_a away_b alike = alike
defaults_alike id how (v ∷ vs) a b away_a away_b alike = λ other.
    let new : List Row = record { id = id; values = v ∷ vs; count = None; source = Some DefaultValue; reading = how } ∷ [] in
    ap (row_in other) (with_absent id how DefaultValue (v ∷ vs) a away_a)
    ∙ (find-append (λ r. bytes_eq r.id other) a new
    ∙ (ap (λ (o : Option Row). option_or o (row_in other new)) (alike other)
    ∙ (sym (find-append (λ r. bytes_eq r.id other) b new) ∙ sym (ap (row_in other) (with_absent id how DefaultValue (v ∷ vs) b away_b)))))

default_alike : (a b : List Row) (rule : Rule) → AreAlike a b → AreAlike (with_default a rule) (with_default b rule)
default_alike a b rule alike =
    go (has_row rule.id a) (has_row rule.id b) refl refl (has_row_is rule.id a ∙ (ap (λ (o : Option Row). is_some o) (alike rule.id) ∙ sym (has_row_is rule.id b)))
  where
    go : (p q : Bool) → has_row rule.id a ≡ p → has_row rule.id b ≡ q → has_row rule.id a ≡ has_row rule.id b
        → AreAlike (if p then a else default_rows rule.id (reading_by rule) rule.defaults a) (if q then b else default_rows rule.id (reading_by rule) rule.defaults b)
    go true true ea eb e = alike
    go false false ea eb e = defaults_alike rule.id (reading_by rule) rule.defaults a b ea eb alike
    go true false ea eb e = absurd (true≢false (sym ea ∙ (e ∙ eb)))
    go false true ea eb e = absurd (true≢false (sym eb ∙ (sym e ∙ ea)))

pub finished_alike : (rules : List Rule) (a b : List Row) → AreAlike a b → AreAlike (fold with_default a rules) (fold with_default b rules)
finished_alike [] a b alike = alike
finished_alike (rule ∷ rules) a b alike = finished_alike rules (with_default a rule) (with_default b rule) (default_alike a b rule alike)

-- an argument that was not used has a default that is taken, or none
defaults_clean : (rules : List Rule) (rs : List Row) → AllByRecursion (λ rule. given_default_fault rule rule.defaults ≡ []) rules → defaults_fault rs rules ≡ []
unfolding defaults_fault
defaults_clean [] rs all = refl
defaults_clean (rule ∷ rules) rs all = ap₂ or_else (go (has_row rule.id rs || is_empty rule.defaults)) (defaults_clean rules (with_default rs rule) all.1)
  where
    go : (b : Bool) → (if b then [] else given_default_fault rule rule.defaults) ≡ []
    go true = refl
    go false = all.0

top_defaults : AllByRecursion (λ rule. given_default_fault rule rule.defaults ≡ []) top.rules
unfolding options desq
top_defaults =
    (refl, (refl, (refl, (refl, (refl, (refl, (refl, (refl, (refl, (refl, (refl, (refl, (refl, (refl, (refl, (refl, (refl, (refl, tt))))))))))))))))))

abbrev pub lacks : List Rule → List Row → Bool
lacks rules rs = list_any (λ rule. rule.required && not (is_given rule.id rs)) rules

pub lacks_alike : (rules : List Rule) (a b : List Row) → AreAlike a b → lacks rules a ≡ lacks rules b
lacks_alike [] a b alike = refl
lacks_alike (rule ∷ rules) a b alike =
    ap₂ (λ (p q : Bool). p || q)
    (ap (λ (o : Option Row). rule.required && not (option_map_or (λ r. explicit_source r.source) o false)) (alike rule.id))
    (lacks_alike rules a b alike)

check_is : (rs : List Row) → check_fault top rs false ≡ check_kinds false false (lacks top.rules rs)
unfolding options desq
check_is rs = refl

rows_are : (words : List Text) → rows words ≡ finished top.rules (walk top.rules [] nothing_held words).held
unfolding rows options desq
rows_are words = refl

faults_end : (h : Held) (waiting : Waiting) (position : ℕ) (t : Bool) → settle_fault top.rules top.args_override_self h ≡ []
    → faults_at (stood h waiting position t) [] ≡ check_fault top (finished top.rules h) false
faults_end h waiting position t clean = ap₂ (λ (k l : Kinds). or_else k (or_else l (check_fault top (finished top.rules h) false))) clean (defaults_clean top.rules (settled top.rules h).rows top_defaults)

module _ (items : List Item) (are : AreItems items) (once : IsEachOnce (uses items)) where
  pub there : Goes (between nothing_held idle 1) (words_of items) (all_uses false items)
  there = goes_over items are once

  pub rows_found : rows (words_of items) ≡ finished top.rules there.0
  rows_found = rows_are (words_of items) ∙ ap (λ (w : Walk). finished top.rules w.held) there.4

  pub faults_found : faults (words_of items) ≡ check_kinds false false (lacks top.rules (finished top.rules there.0))
  faults_found =
      faults_are (words_of items)
      ∙ (ap₂ faults_at there.4 there.5
      ∙ (faults_end there.0 (rests there.1) there.2 there.3 there.6.clean ∙ check_is (finished top.rules there.0)))

module _ (items others : List Item) (line : IsLine items) (other : IsLine others) (same : HaveSameValues items others) where
  abbrev here : Goes (between nothing_held idle 1) (words_of items) (all_uses false items)
  here = there items line.0 line.1

  abbrev other_here : Goes (between nothing_held idle 1) (words_of others) (all_uses false others)
  other_here = there others other.0 other.1

  settled_alike : AreAlike (settled top.rules here.0).rows (settled top.rules other_here.0).rows
  settled_alike id =
      here.6.rows id ∙ (ap (row_for id) (same_uses items others line.0 other.0 line.1 other.1 same.0 same.1 id) ∙ sym (other_here.6.rows id))

  found_alike : AreAlike (finished top.rules here.0) (finished top.rules other_here.0)
  found_alike = finished_alike top.rules (settled top.rules here.0).rows (settled top.rules other_here.0).rows settled_alike

  pub same_faults : faults (words_of items) ≡ faults (words_of others)
  same_faults =
      faults_found items line.0 line.1
      ∙ (ap (check_kinds false false) (lacks_alike top.rules (finished top.rules here.0) (finished top.rules other_here.0) found_alike)
      ∙ sym (faults_found others other.0 other.1))

  -- each name has the same row
  same_rows : AreAlike (rows (words_of items)) (rows (words_of others))
  same_rows id =
      ap (row_in id) (rows_found items line.0 line.1) ∙ (found_alike id ∙ sym (ap (row_in id) (rows_found others other.0 other.1)))

  pub same_first : (id : Text) → first_of id (rows (words_of items)) ≡ first_of id (rows (words_of others))
  same_first id = ap (option_and_then (λ r. slice_get r.values 0)) (same_rows id)

  pub same_all : (id : Text) → all_of id (rows (words_of items)) ≡ all_of id (rows (words_of others))
  same_all id = ap (option_map (λ r. r.values)) (same_rows id)
