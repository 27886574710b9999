-- What clap finds in words is the values that each name has in them, wherever these stand.
use Rattle.std.proofs.Common.{◌≡◌, ◌∙◌, ◌&&◌, ◌||◌, refl, sym, ap, ap₂, true, false, true≢false, not, Bool, cond, List, [], ◌∷◌, ◌++◌, find, length, Option, Some, None, is_some, unwrap_or, if◌then◌else◌}
use Rattle.std.specs.Str.{bytes_eq}
use Rattle.std.specs.Option.{option_map_or}
use Rattle.std.proofs.lemmas.List.{append-nil}
use Rattle.std.proofs.lemmas.Slice.Eq.{bytes_eq-Decides}
use Rattle.clap.specs.Words.{Row, Rule, Text, new_rule}
use Rattle.clap.specs.Facts.{unwrap_or_range}
use Rattle.clap.specs.Kinds.{or_else, range_kinds}
use Rattle.clap.specs.Walk.{Held, Walk, action_of, arg_by_id, has_row, more_values, most_values, reacted, reading_by, settled, used, used_as, used_by_id, stronger, values_or_missing, walked, with_values, without}
use Rattle.clap.specs.Faults.{action_fault, react_fault, repeat_fault, settle_fault, turn_fault, use_fault, values_fault}
use Rattle.clap.specs.declared.builder.action.ArgAction.{ArgAction}
use Rattle.clap.specs.declared.builder.action.ArgAction.TheVariants.{Set, SetTrue, Append}
use Rattle.clap.specs.declared.builder.value_parser.Reading.{Reading}
use Rattle.clap.specs.declared.error.kind.ErrorKind.TheVariants as kind
use Rattle.clap.specs.declared.parser.matches.ValueSource.{ValueSource}
use Rattle.clap.specs.declared.parser.matches.ValueSource.TheVariants.{CommandLine}
use Rattle.command_line.proofs.PlainCommand.{top}
use Rattle.command_line.proofs.Walking.{is_single}
use Rattle.command_line.proofs.RepeatedOptions.{single_use}

-- the argument of this name
abbrev pub rule_of : Text → Rule
rule_of name = unwrap_or (arg_by_id top.rules name) (new_rule [])

-- what is found for a name with these values
abbrev pub row : Text → List Text → Row
row name vs = record { id = name; values = vs; count = None; source = Some CommandLine; reading = reading_by (rule_of name) }

-- the same, and nothing where there is no value
abbrev pub row_for : Text → List Text → Option Row
row_for name [] = None
row_for name (v ∷ vs) = Some (row name (v ∷ vs))

pub swapped : (a b : Text) → bytes_eq a b ≡ bytes_eq b a
swapped a b = go (bytes_eq a b) (bytes_eq b a) refl refl
  where
    go : (p q : Bool) → bytes_eq a b ≡ p → bytes_eq b a ≡ q → p ≡ q
    go true true ea eb = refl
    go false false ea eb = refl
    go true false ea eb = absurd (true≢false (sym ((bytes_eq-Decides b a).1 (sym ((bytes_eq-Decides a b).0 ea))) ∙ eb))
    go false true ea eb = absurd (true≢false (sym ((bytes_eq-Decides a b).1 (sym ((bytes_eq-Decides b a).0 eb))) ∙ ea))

-- the first row of this name
abbrev pub row_in : Text → List Row → Option Row
row_in id = find (λ r. bytes_eq r.id id)

pub has_row_is : (id : Text) (rs : List Row) → has_row id rs ≡ is_some (row_in id rs)
has_row_is id [] = refl
has_row_is id (r ∷ rs) = go (bytes_eq r.id id) (has_row_is id rs)
  where
    go : (b : Bool) → has_row id rs ≡ is_some (row_in id rs) → (b || has_row id rs) ≡ is_some (cond b (Some r) (row_in id rs))
    go true later = refl
    go false later = later

-- the values with which the name is used, in order
abbrev pub values_in : List (Text × Text) → Text → List Text
values_in [] name = []
values_in (one ∷ all) name = if bytes_eq one.0 name then one.1 ∷ values_in all name else values_in all name

pub values_in-append : (a b : List (Text × Text)) (name : Text) → values_in (a ++ b) name ≡ values_in a name ++ values_in b name
values_in-append [] b name = refl
values_in-append (one ∷ a) b name = go (bytes_eq one.0 name) (values_in-append a b name)
  where
    go : (c : Bool) → values_in (a ++ b) name ≡ values_in a name ++ values_in b name
        → (if c then one.1 ∷ values_in (a ++ b) name else values_in (a ++ b) name) ≡ (if c then one.1 ∷ values_in a name else values_in a name) ++ values_in b name
    go true later = ap (λ (vs : List Text). one.1 ∷ vs) later
    go false later = later

-- the rows are those of these uses
abbrev pub AreOf : List Row → List (Text × Text) → Type 0
AreOf rows all = (id : Text) → row_in id rows ≡ row_for id (values_in all id)

pub free_row : (rows : List Row) (all : List (Text × Text)) (name : Text) → AreOf rows all → values_in all name ≡ [] → has_row name rows ≡ false
free_row rows all name are none = has_row_is name rows ∙ ap (λ (o : Option Row). is_some o) (are name ∙ ap (row_for name) none)

-- one more value for a name changes its row alone
abbrev with_value : Text → Text → Option Row → Option Row
with_value name v None = Some (row name (v ∷ []))
with_value name v (Some r) = Some (record r { values = r.values ++ v ∷ []; source = Some (stronger r.source CommandLine) })

row_in-with : (name v id : Text) (rows : List Row)
    → row_in id (with_values name (reading_by (rule_of name)) CommandLine (v ∷ []) rows)
    ≡ (if bytes_eq name id then with_value name v (row_in id rows) else row_in id rows)
row_in-with name v id [] = go (bytes_eq name id)
  where
    go : (b : Bool) → cond b (Some (row name (v ∷ []))) None ≡ (if b then Some (row name (v ∷ [])) else None)
    go true = refl
    go false = refl
row_in-with name v id (r ∷ rows) = go (bytes_eq r.id name) refl (row_in-with name v id rows)
  where
    how : Reading
    how = reading_by (rule_of name)

    new : Row
    new = record r { values = r.values ++ v ∷ []; source = Some (stronger r.source CommandLine) }

    here : (c d : Bool) → c ≡ d → cond c (Some new) (row_in id rows) ≡ (if d then with_value name v (cond c (Some r) (row_in id rows)) else cond c (Some r) (row_in id rows))
    here true true e = refl
    here false false e = refl
    here true false e = absurd (true≢false e)
    here false true e = absurd (true≢false (sym e))

    there : (c d : Bool) → (c ≡ true → d ≡ false)
        → row_in id (with_values name how CommandLine (v ∷ []) rows) ≡ (if d then with_value name v (row_in id rows) else row_in id rows)
        → cond c (Some r) (row_in id (with_values name how CommandLine (v ∷ []) rows))
        ≡ (if d then with_value name v (cond c (Some r) (row_in id rows)) else cond c (Some r) (row_in id rows))
    there true true apart later = absurd (true≢false (apart refl))
    there true false apart later = refl
    there false d apart later = later

    differ : bytes_eq r.id name ≡ false → bytes_eq r.id id ≡ true → bytes_eq name id ≡ false
    differ other same = sym (ap (λ (t : Text). bytes_eq name t) ((bytes_eq-Decides r.id id).0 same)) ∙ (swapped name r.id ∙ other)

    go : (b : Bool) → bytes_eq r.id name ≡ b
        → row_in id (with_values name how CommandLine (v ∷ []) rows) ≡ (if bytes_eq name id then with_value name v (row_in id rows) else row_in id rows)
        → row_in id (if b then more_values CommandLine (v ∷ []) r ++ rows else r ∷ with_values name how CommandLine (v ∷ []) rows)
        ≡ (if bytes_eq name id then with_value name v (row_in id (r ∷ rows)) else row_in id (r ∷ rows))
    go true e later = here (bytes_eq r.id id) (bytes_eq name id) (ap (λ (t : Text). bytes_eq t id) ((bytes_eq-Decides r.id name).0 e))
    go false e later = there (bytes_eq r.id id) (bytes_eq name id) (differ e) later

-- the values for a name with one more
more_for : (name v id : Text) (b : Bool) → bytes_eq name id ≡ b → (vs : List Text)
    → (if b then with_value name v (row_for id vs) else row_for id vs) ≡ row_for id (vs ++ (if b then v ∷ [] else []))
more_for name v id true e [] = ap (λ (t : Text). Some (row t (v ∷ []))) ((bytes_eq-Decides name id).0 e)
more_for name v id true e (x ∷ vs) = refl
more_for name v id false e vs = sym (ap (row_for id) (append-nil vs))

-- a use of a name adds its value
pub adds : (name v : Text) (rows : List Row) (all : List (Text × Text)) → AreOf rows all
    → AreOf (with_values name (reading_by (rule_of name)) CommandLine (v ∷ []) rows) (all ++ (name, v) ∷ [])
adds name v rows all are id =
    row_in-with name v id rows
    ∙ (ap (λ (o : Option Row). if bytes_eq name id then with_value name v o else o) (are id)
    ∙ (more_for name v id (bytes_eq name id) refl (values_in all id) ∙ sym (ap (row_for id) (values_in-append all ((name, v) ∷ []) id))))

-- values for a name without a row are a row of their own
pub with_absent : (id : Text) (how : Reading) (s : ValueSource) (values : List Text) (rows : List Row) → has_row id rows ≡ false
    → with_values id how s values rows ≡ rows ++ record { id = id; values = values; count = None; source = Some s; reading = how } ∷ []
with_absent id how s values [] free = refl
with_absent id how s values (r ∷ rows) free = go (bytes_eq r.id id) free (with_absent id how s values rows)
  where
    new : Row
    new = record { id = id; values = values; count = None; source = Some s; reading = how }

    go : (b : Bool) → (b || has_row id rows) ≡ false → (has_row id rows ≡ false → with_values id how s values rows ≡ rows ++ new ∷ [])
        → (if b then more_values s values r ++ rows else r ∷ with_values id how s values rows) ≡ r ∷ (rows ++ new ∷ [])
    go true h later = absurd (true≢false h)
    go false h later = ap (λ (t : List Row). r ∷ t) (later h)

without_absent : (id : Text) (rows : List Row) → has_row id rows ≡ false → without id rows ≡ rows
without_absent id [] free = refl
without_absent id (r ∷ rows) free = go (bytes_eq r.id id) free (without_absent id rows)
  where
    go : (b : Bool) → (b || has_row id rows) ≡ false → (has_row id rows ≡ false → without id rows ≡ rows) → (if b then rows else r ∷ without id rows) ≡ r ∷ rows
    go true h later = absurd (true≢false h)
    go false h later = ap (λ (t : List Row). r ∷ t) (later h)

-- the argument of this name takes these values for this one
pub record Fits (name : Text) (vs : List Text) (v : Text) : Type 0 where
  pub known : arg_by_id top.rules name ≡ Some (rule_of name)
  pub same : (rule_of name).id ≡ name
  pub range : range_kinds (unwrap_or_range (rule_of name).range).start_inclusive (most_values (rule_of name)) (length vs) ≡ []
  pub values : values_fault (rule_of name) (values_or_missing (rule_of name) vs) ≡ []
  pub is : values_or_missing (rule_of name) vs ≡ v ∷ []

-- behind these uses the argument is used once more with these values, which is one more value
pub record Takes (all : List (Text × Text)) (name : Text) (vs : List Text) (v : Text) : Type 0 where
  pub known : arg_by_id top.rules name ≡ Some (rule_of name)
  pub clean : (rows : List Row) → AreOf rows all → use_fault top.args_override_self (rule_of name) vs rows ≡ []
  pub grows : (rows : List Row) → AreOf rows all → used (rule_of name) vs rows ≡ with_values name (reading_by (rule_of name)) CommandLine (v ∷ []) rows

repeat_none : (again : Bool) (id : Text) (rows : List Row) → has_row id rows ≡ false → repeat_fault again id rows ≡ []
repeat_none again id rows free = ap (λ (b : Bool). if b && not again then kind.ArgumentConflict ∷ [] else []) free

action_clean : (action : ArgAction) (again : Bool) (a : Rule) (values : List Text) (rows : List Row) → is_single action ≡ true → has_row a.id rows ≡ false
    → values_fault a values ≡ [] → action_fault action again a values rows ≡ []
action_clean Set again a values rows one free f = ap₂ or_else (repeat_none again a.id rows free) f
action_clean SetTrue again a values rows one free f = ap₂ or_else (repeat_none again a.id rows free) f
action_clean action again a values rows one free f = absurd (true≢false (sym one))

-- an argument that takes one use takes it where there is none
pub takes_once : (all : List (Text × Text)) (name : Text) (vs : List Text) (v : Text) → is_single (action_of (rule_of name)) ≡ true → Fits name vs v
    → values_in all name ≡ [] → Takes all name vs v
takes_once all name vs v one fits none = record {
  known = fits.known;
  clean = λ rows are. ap₂ or_else fits.range (action_clean (action_of a) top.args_override_self a (values_or_missing a vs) rows one
      (ap (λ (t : Text). has_row t rows) fits.same ∙ free_row rows all name are none) fits.values);
  grows = λ rows are.
      single_use (action_of a) a.id (reading_by a) (values_or_missing a vs) rows one
      ∙ (ap₂ (λ (id : Text) (values : List Text). with_values id (reading_by a) CommandLine values (without id rows)) fits.same fits.is
      ∙ ap (λ (rs : List Row). with_values name (reading_by a) CommandLine (v ∷ []) rs) (without_absent name rows (free_row rows all name are none)));
}
  where
    a : Rule
    a = rule_of name

-- an argument that takes many uses takes one more
pub takes_more : (all : List (Text × Text)) (name : Text) (vs : List Text) (v : Text) → action_of (rule_of name) ≡ Append → Fits name vs v → Takes all name vs v
takes_more all name vs v many fits = record {
  known = fits.known;
  clean = λ rows are. ap₂ or_else fits.range
      (ap (λ (action : ArgAction). action_fault action top.args_override_self a (values_or_missing a vs) rows) many ∙ fits.values);
  grows = λ rows are.
      ap (λ (action : ArgAction). used_as action a.id (reading_by a) (values_or_missing a vs) rows) many
      ∙ ap₂ (λ (id : Text) (values : List Text). with_values id (reading_by a) CommandLine values rows) fits.same fits.is;
}
  where
    a : Rule
    a = rule_of name

-- these uses are found once what is pending is used, which is not refused
pub record Holds (h : Held) (all : List (Text × Text)) : Type 0 where
  pub rows : AreOf (settled top.rules h).rows all
  pub clean : settle_fault top.rules top.args_override_self h ≡ []

-- a word brings the walk from here to there, and is not refused
abbrev pub Turn : Walk → Text → Walk → Type 0
Turn w word there = (walked top.rules [] w word ≡ there) × (turn_fault top [] w word ≡ [])

module _ (name : Text) (vs : List Text) (v : Text) (all : List (Text × Text)) (t : Takes all name vs v) (h : Held) (holds : Holds h all) where
  grown : AreOf (used (rule_of name) vs (settled top.rules h).rows) (all ++ (name, v) ∷ [])
  grown id = ap (row_in id) (t.grows (settled top.rules h).rows holds.rows) ∙ adds name v (settled top.rules h).rows all holds.rows id

  use_clean : use_fault top.args_override_self (rule_of name) vs (settled top.rules h).rows ≡ []
  use_clean = t.clean (settled top.rules h).rows holds.rows

  pub react_clean : react_fault top.rules top.args_override_self (rule_of name) vs h ≡ []
  react_clean = ap₂ or_else holds.clean use_clean

  pub reacted_holds : Holds (reacted top.rules (rule_of name) vs h) (all ++ (name, v) ∷ [])
  reacted_holds = record { rows = grown; clean = refl }

  pub pending_holds : Holds (record (settled top.rules h) { pending = Some (name, vs) }) (all ++ (name, v) ∷ [])
  pending_holds = record {
    rows = λ id. ap (λ (o : Option Rule). row_in id (used_by_id o vs (settled top.rules h).rows)) t.known ∙ grown id;
    clean = ap (λ (o : Option Rule). option_map_or (λ a. use_fault top.args_override_self a vs (settled top.rules h).rows) o []) t.known ∙ use_clean;
  }
