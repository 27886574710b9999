-- The values of each name in a line depend on its options and on its words of no option alone.
use Rattle.std.proofs.Common.{◌≡◌, ◌≢◌, ◌∙◌, refl, sym, ap, ap₂, true, false, Bool, cond, List, [], ◌∷◌, ◌++◌, find, Option, Some, None, option_map, if◌then◌else◌}
use Rattle.std.specs.Str.{bytes_eq}
use Rattle.std.specs.List.{AllByRecursion}
use Rattle.std.proofs.lemmas.List.{append-nil}
use Rattle.std.proofs.lemmas.Slice.Eq.{bytes_eq-Decides}
use Rattle.clap.specs.Words.{Text}
use Rattle.command_line.specs.Items.{AreItems, IsEachOnce, Item, alone, as_they_are, joined, plain, spaced, uses, value_in, words_by_place}
use Rattle.command_line.proofs.AnyOrder.{values_in}
use Rattle.command_line.proofs.AnyWalk.{name_at}
use Rattle.command_line.proofs.AnyRows.{all_uses, options_away, placed}

-- a value or none, as a list
abbrev as_list : Option Text → List Text
as_list None = []
as_list (Some v) = v ∷ []

none_later : (later : List (Text × Text)) (first name : Text) → first ≡ name → AllByRecursion (λ other. first ≢ other.0) later → values_in later name ≡ []
none_later [] first name same differ = refl
none_later (one ∷ later) first name same differ = go (bytes_eq one.0 name) refl (none_later later first name same differ.1)
  where
    go : (b : Bool) → bytes_eq one.0 name ≡ b → values_in later name ≡ [] → (if b then one.1 ∷ values_in later name else values_in later name) ≡ []
    go true e rest = absurd (differ.0 (same ∙ sym ((bytes_eq-Decides one.0 name).0 e)))
    go false e rest = rest

-- a name that is used once has one value
one_value : (all : List (Text × Text)) (name : Text) → IsEachOnce all → values_in all name ≡ as_list (value_in all name)
one_value [] name once = refl
one_value (one ∷ all) name once = go (bytes_eq one.0 name) refl (one_value all name once.1)
  where
    go : (b : Bool) → bytes_eq one.0 name ≡ b → values_in all name ≡ as_list (value_in all name)
        → (if b then one.1 ∷ values_in all name else values_in all name) ≡ as_list (option_map (λ found. found.1) (cond b (Some one) (find (λ u. bytes_eq u.0 name) all)))
    go true e rest = ap (λ (vs : List Text). one.1 ∷ vs) (none_later all one.0 name ((bytes_eq-Decides one.0 name).0 e) once.0)
    go false e rest = rest

-- no option has a value for a place
no_place : (taken : Bool) (all : List (Text × Text)) → AllByRecursion (λ one. bytes_eq one.0 (name_at taken) ≡ false) all → values_in all (name_at taken) ≡ []
no_place taken [] away = refl
no_place taken (one ∷ all) away = ap (λ (b : Bool). if b then one.1 ∷ values_in all (name_at taken) else values_in all (name_at taken)) away.0 ∙ no_place taken all away.1

one_more : (b : Bool) (value : Text) (all first later : List Text) → all ≡ first ++ later
    → (if b then value ∷ all else all) ≡ (if b then value ∷ first else first) ++ later
one_more true value all first later e = ap (λ (vs : List Text). value ∷ vs) e
one_more false value all first later e = e

-- the options come first, and then the words by their places
in_order : (taken : Bool) (items : List Item) → AreItems items → (name : Text)
    → values_in (all_uses taken items) name ≡ values_in (uses items) name ++ values_in (placed taken (words_by_place items)) name
in_order taken [] are name = refl
in_order taken (spaced other value ∷ items) (is, p, are) name = one_more (bytes_eq other name) value _ _ _ (in_order taken items are name)
in_order taken (joined other value ∷ items) (is, are) name = one_more (bytes_eq other name) value _ _ _ (in_order taken items are name)
in_order taken (alone other ∷ items) (is, are) name = one_more (bytes_eq other name) _ _ _ _ (in_order taken items are name)
in_order taken (plain word ∷ items) (p, are) name = go (bytes_eq (name_at taken) name) refl (in_order true items are name)
  where
    rest : List Text
    rest = values_in (placed true (words_by_place items)) name

    go : (b : Bool) → bytes_eq (name_at taken) name ≡ b → values_in (all_uses true items) name ≡ values_in (uses items) name ++ rest
        → (if b then word ∷ values_in (all_uses true items) name else values_in (all_uses true items) name)
        ≡ values_in (uses items) name ++ (if b then word ∷ rest else rest)
    go true e later =
        let none = ap (values_in (uses items)) (sym ((bytes_eq-Decides (name_at taken) name).0 e)) ∙ no_place taken (uses items) (options_away taken items are) in
        ap (λ (vs : List Text). word ∷ vs) (later ∙ ap (λ (vs : List Text). vs ++ rest) none)
        ∙ sym (ap (λ (vs : List Text). vs ++ word ∷ rest) none)
    go false e later = later
in_order taken (as_they_are words ∷ []) none name = ap (λ (ws : List Text). values_in (placed taken ws) name) (sym (append-nil words))
in_order taken (as_they_are words ∷ (item ∷ items)) none name = absurd (cc)

-- two lines that have the same values for each option, and the same words of none
pub same_uses : (items others : List Item) → AreItems items → AreItems others → IsEachOnce (uses items) → IsEachOnce (uses others)
    → words_by_place items ≡ words_by_place others → ((name : Text) → value_in (uses items) name ≡ value_in (uses others) name)
    → (name : Text) → values_in (all_uses false items) name ≡ values_in (all_uses false others) name
same_uses items others are other_are once other_once words same name =
    in_order false items are name
    ∙ (ap₂ (λ (vs : List Text) (ws : List Text). vs ++ values_in (placed false ws) name)
    (one_value (uses items) name once ∙ (ap as_list (same name) ∙ sym (one_value (uses others) name other_once))) words
    ∙ sym (in_order false others other_are name))
