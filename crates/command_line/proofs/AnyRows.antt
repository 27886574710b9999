-- What is found in options with their values, flags and plain words, each option of which is used once.
use Rattle.std.proofs.Common.{◌≡◌, ◌≢◌, ◌∙◌, refl, sym, ap, ap₂, subst, ℕ, inl, inr, true, false, Bool, List, [], ◌∷◌, ◌++◌, codes, IfSome, Option, Some, if◌then◌else◌}
use Rattle.std.specs.Str.{bytes_eq}
use Rattle.std.specs.List.{AllByRecursion}
use Rattle.std.proofs.lemmas.Slice.Eq.{bytes_eq-Decides}
use Rattle.std.proofs.lemmas.List.{append_assoc, append-nil}
use Rattle.clap.specs.Words.{Kinds, Rule, Text}
use Rattle.clap.specs.Kinds.{or_else}
use Rattle.clap.specs.Walk.{Held, Walk, action_of, idle, nothing_held}
use Rattle.clap.specs.Faults.{walk_fault}
use Rattle.clap.specs.declared.builder.action.ArgAction.{ArgAction}
use Rattle.clap.specs.declared.builder.action.ArgAction.TheVariants.{Set, SetTrue, Append}
use Rattle.command_line.specs.Options.{options, desq}
use Rattle.command_line.specs.Items.{AreItems, IsEachOnce, IsNameIn, Item, alone, as_they_are, joined, plain, spaced, uses, words_of}
use Rattle.command_line.proofs.PlainCommand.{top, walk_over}
use Rattle.command_line.proofs.PlainWordLemmas.{between}
use Rattle.command_line.proofs.Walking.{is_single}
use Rattle.command_line.proofs.AnyOrder.{Fits, Holds, Takes, Turn, pending_holds, reacted_holds, rule_of, swapped, takes_more, takes_once, values_in, values_in-append}
use Rattle.command_line.proofs.AnyWalk.{IsFlag, IsNamed, IsPlace, IsValue, behind_turn, dashes_turn, flag_turn, joined_turn, name_at, name_turn, place_turn, position_at, read_word, reading, rests, value_turn}
use Rattle.command_line.proofs.RepeatedOptions.{stood}

-- what holds of each option of a kind holds of a name of that kind
of_each : (rules : List Rule) (action : ArgAction) (P : Text → Type 0) → AllByRecursion (λ rule. IfSome rule.long (λ name. rule.action ≡ Some action → P name)) rules
    → (name : Text) → IsNameIn rules action name → P name
of_each [] action P all name is = absurd is
of_each (rule ∷ rules) action P all name (inl (long, acts)) = subst (λ (o : Option Text). IfSome o (λ n. rule.action ≡ Some action → P n)) long all.0 acts
of_each (rule ∷ rules) action P all name (inr is) = of_each rules action P all.1 name is

set_not_true : {P : Type 0} → Some Set ≡ Some SetTrue → P
set_not_true e = absurd (cc)

true_not_set : {P : Type 0} → Some SetTrue ≡ Some Set → P
true_not_set e = absurd (cc)

support : IsValue (codes "support")
unfolding options desq
support = record {
  called = record { named = refl; apart = refl; spelled = refl; one = refl; no_expression = refl; no_file = refl };
  takes = refl;
  joins = λ value. (refl, refl);
  last = λ value. refl;
  fits = λ value. record { known = refl; same = refl; range = refl; values = refl; is = refl };
}

hierarchy : IsValue (codes "hierarchy")
unfolding options desq
hierarchy = record {
  called = record { named = refl; apart = refl; spelled = refl; one = refl; no_expression = refl; no_file = refl };
  takes = refl;
  joins = λ value. (refl, refl);
  last = λ value. refl;
  fits = λ value. record { known = refl; same = refl; range = refl; values = refl; is = refl };
}

weighted : IsFlag (codes "weighted")
unfolding options desq
weighted = record {
  called = record { named = refl; apart = refl; spelled = refl; one = refl; no_expression = refl; no_file = refl };
  takes = refl;
  fits = record { known = refl; same = refl; range = refl; values = refl; is = refl };
}

engine : IsValue (codes "engine")
unfolding options desq
engine = record {
  called = record { named = refl; apart = refl; spelled = refl; one = refl; no_expression = refl; no_file = refl };
  takes = refl;
  joins = λ value. (refl, refl);
  last = λ value. refl;
  fits = λ value. record { known = refl; same = refl; range = refl; values = refl; is = refl };
}

workers : IsValue (codes "workers")
unfolding options desq
workers = record {
  called = record { named = refl; apart = refl; spelled = refl; one = refl; no_expression = refl; no_file = refl };
  takes = refl;
  joins = λ value. (refl, refl);
  last = λ value. refl;
  fits = λ value. record { known = refl; same = refl; range = refl; values = refl; is = refl };
}

simulate : IsValue (codes "simulate")
unfolding options desq
simulate = record {
  called = record { named = refl; apart = refl; spelled = refl; one = refl; no_expression = refl; no_file = refl };
  takes = refl;
  joins = λ value. (refl, refl);
  last = λ value. refl;
  fits = λ value. record { known = refl; same = refl; range = refl; values = refl; is = refl };
}

stats : IsFlag (codes "stats")
unfolding options desq
stats = record {
  called = record { named = refl; apart = refl; spelled = refl; one = refl; no_expression = refl; no_file = refl };
  takes = refl;
  fits = record { known = refl; same = refl; range = refl; values = refl; is = refl };
}

max_gap : IsValue (codes "max-gap")
unfolding options desq
max_gap = record {
  called = record { named = refl; apart = refl; spelled = refl; one = refl; no_expression = refl; no_file = refl };
  takes = refl;
  joins = λ value. (refl, refl);
  last = λ value. refl;
  fits = λ value. record { known = refl; same = refl; range = refl; values = refl; is = refl };
}

min_length : IsValue (codes "min-length")
unfolding options desq
min_length = record {
  called = record { named = refl; apart = refl; spelled = refl; one = refl; no_expression = refl; no_file = refl };
  takes = refl;
  joins = λ value. (refl, refl);
  last = λ value. refl;
  fits = λ value. record { known = refl; same = refl; range = refl; values = refl; is = refl };
}

max_length : IsValue (codes "max-length")
unfolding options desq
max_length = record {
  called = record { named = refl; apart = refl; spelled = refl; one = refl; no_expression = refl; no_file = refl };
  takes = refl;
  joins = λ value. (refl, refl);
  last = λ value. refl;
  fits = λ value. record { known = refl; same = refl; range = refl; values = refl; is = refl };
}

generalize : IsFlag (codes "generalize")
unfolding options desq
generalize = record {
  called = record { named = refl; apart = refl; spelled = refl; one = refl; no_expression = refl; no_file = refl };
  takes = refl;
  fits = record { known = refl; same = refl; range = refl; values = refl; is = refl };
}

generated : IsValue (codes "generated")
unfolding options desq
generated = record {
  called = record { named = refl; apart = refl; spelled = refl; one = refl; no_expression = refl; no_file = refl };
  takes = refl;
  joins = λ value. (refl, refl);
  last = λ value. refl;
  fits = λ value. record { known = refl; same = refl; range = refl; values = refl; is = refl };
}

split : IsValue (codes "split")
unfolding options desq
split = record {
  called = record { named = refl; apart = refl; spelled = refl; one = refl; no_expression = refl; no_file = refl };
  takes = refl;
  joins = λ value. (refl, refl);
  last = λ value. refl;
  fits = λ value. record { known = refl; same = refl; range = refl; values = refl; is = refl };
}

merge : IsFlag (codes "merge")
unfolding options desq
merge = record {
  called = record { named = refl; apart = refl; spelled = refl; one = refl; no_expression = refl; no_file = refl };
  takes = refl;
  fits = record { known = refl; same = refl; range = refl; values = refl; is = refl };
}

proof : IsFlag (codes "proof")
unfolding options desq
proof = record {
  called = record { named = refl; apart = refl; spelled = refl; one = refl; no_expression = refl; no_file = refl };
  takes = refl;
  fits = record { known = refl; same = refl; range = refl; values = refl; is = refl };
}

check : IsValue (codes "check")
unfolding options desq
check = record {
  called = record { named = refl; apart = refl; spelled = refl; one = refl; no_expression = refl; no_file = refl };
  takes = refl;
  joins = λ value. (refl, refl);
  last = λ value. refl;
  fits = λ value. record { known = refl; same = refl; range = refl; values = refl; is = refl };
}

each_value : AllByRecursion (λ rule. IfSome rule.long (λ name. rule.action ≡ Some Set → IsValue name)) options
unfolding options
each_value = (λ e. support, (λ e. hierarchy, (λ e. true_not_set e, (λ e. engine, (λ e. workers, (λ e. simulate, (λ e. true_not_set e, (λ e. max_gap, (λ e. min_length, (λ e. max_length, (λ e. true_not_set e, (λ e. generated, (λ e. split, (λ e. true_not_set e, (λ e. true_not_set e, (λ e. check, (tt, (tt, tt))))))))))))))))))

each_flag : AllByRecursion (λ rule. IfSome rule.long (λ name. rule.action ≡ Some SetTrue → IsFlag name)) options
unfolding options
each_flag = (λ e. set_not_true e, (λ e. set_not_true e, (λ e. weighted, (λ e. set_not_true e, (λ e. set_not_true e, (λ e. set_not_true e, (λ e. stats, (λ e. set_not_true e, (λ e. set_not_true e, (λ e. set_not_true e, (λ e. generalize, (λ e. set_not_true e, (λ e. set_not_true e, (λ e. merge, (λ e. proof, (λ e. set_not_true e, (tt, (tt, tt))))))))))))))))))

value_option : (name : Text) → IsNameIn options Set name → IsValue name
value_option = of_each options Set IsValue each_value

flag_option : (name : Text) → IsNameIn options SetTrue name → IsFlag name
flag_option = of_each options SetTrue IsFlag each_flag

first_place : IsPlace false
unfolding options desq
first_place = record { at = refl; several = refl; waits = refl; after = refl; trailing = refl; same = refl }

later_place : IsPlace true
unfolding options desq
later_place = record { at = refl; several = refl; waits = refl; after = refl; trailing = refl; same = refl }

place : (taken : Bool) → IsPlace taken
place false = first_place
place true = later_place

expression_fits : (word : Text) → Fits (codes "expression") (word ∷ []) word
unfolding options desq
expression_fits word = record { known = refl; same = refl; range = refl; values = refl; is = refl }

file_fits : (word : Text) → Fits (codes "file") (word ∷ []) word
unfolding options desq
file_fits word = record { known = refl; same = refl; range = refl; values = refl; is = refl }

one_expression : is_single (action_of (rule_of (codes "expression"))) ≡ true
unfolding options desq
one_expression = refl

many_files : action_of (rule_of (codes "file")) ≡ Append
unfolding options desq
many_files = refl

-- where the first place is not taken there is no expression
abbrev IsFree : Bool → List (Text × Text) → Type 0
IsFree false all = values_in all (codes "expression") ≡ []
IsFree true all = Unit {0}

place_takes : (all : List (Text × Text)) (taken : Bool) (word : Text) → IsFree taken all → Takes all (name_at taken) (word ∷ []) word
place_takes all false word free = takes_once all (codes "expression") (word ∷ []) word one_expression (expression_fits word) free
place_takes all true word free = takes_more all (codes "file") (word ∷ []) word many_files (file_fits word)

-- what is used in words of no option
abbrev pub placed : Bool → List Text → List (Text × Text)
placed taken [] = []
placed taken (word ∷ words) = (name_at taken, word) ∷ placed true words

-- what is used in the items, in order
abbrev pub all_uses : Bool → List Item → List (Text × Text)
all_uses taken [] = []
all_uses taken (spaced name value ∷ items) = (name, value) ∷ all_uses taken items
all_uses taken (joined name value ∷ items) = (name, value) ∷ all_uses taken items
all_uses taken (alone name ∷ items) = (name, codes "true") ∷ all_uses taken items
all_uses taken (plain word ∷ items) = (name_at taken, word) ∷ all_uses true items
all_uses taken (as_they_are words ∷ items) = placed taken words

named_away : (taken : Bool) (name : Text) → IsNamed name → bytes_eq name (name_at taken) ≡ false
named_away false name x = x.no_expression
named_away true name x = x.no_file

-- no option is named as a place
pub options_away : (taken : Bool) (items : List Item) → AreItems items → AllByRecursion (λ one. bytes_eq one.0 (name_at taken) ≡ false) (uses items)
options_away taken [] are = tt
options_away taken (spaced name value ∷ items) (is, p, are) = (named_away taken name (value_option name is).called, options_away taken items are)
options_away taken (joined name value ∷ items) (is, are) = (named_away taken name (value_option name is).called, options_away taken items are)
options_away taken (alone name ∷ items) (is, are) = (named_away taken name (flag_option name is).called, options_away taken items are)
options_away taken (plain word ∷ items) (p, are) = options_away taken items are
options_away taken (as_they_are words ∷ []) none = tt
options_away taken (as_they_are words ∷ (item ∷ items)) none = absurd (cc)

-- none of the names was used
abbrev AreAway : List (Text × Text) → List (Text × Text) → Type 0
AreAway all later = AllByRecursion (λ one. values_in all one.0 ≡ []) later

-- a use of another name leaves the values of a name
other_use : (all : List (Text × Text)) (name value other : Text) → bytes_eq name other ≡ false → values_in all other ≡ [] → values_in (all ++ (name, value) ∷ []) other ≡ []
other_use all name value other differ none =
    values_in-append all ((name, value) ∷ []) other ∙ ap₂ (λ (vs : List Text) (b : Bool). vs ++ (if b then value ∷ [] else [])) none differ

not_same : (a b : Text) → a ≢ b → bytes_eq a b ≡ false
not_same a b differ = go (bytes_eq a b) refl
  where
    go : (c : Bool) → bytes_eq a b ≡ c → c ≡ false
    go true e = absurd (differ ((bytes_eq-Decides a b).0 e))
    go false e = refl

away_more : (name value : Text) (all later : List (Text × Text)) → AllByRecursion (λ other. name ≢ other.0) later → AreAway all later
    → AreAway (all ++ (name, value) ∷ []) later
away_more name value all [] differ away = tt
away_more name value all (one ∷ later) differ away =
    (other_use all name value one.0 (not_same name one.0 differ.0) away.0, away_more name value all later differ.1 away.1)

away_placed : (taken : Bool) (word : Text) (all later : List (Text × Text)) → AllByRecursion (λ one. bytes_eq one.0 (name_at taken) ≡ false) later → AreAway all later
    → AreAway (all ++ (name_at taken, word) ∷ []) later
away_placed taken word all [] differ away = tt
away_placed taken word all (one ∷ later) differ away =
    (other_use all (name_at taken) word one.0 (swapped (name_at taken) one.0 ∙ differ.0) away.0, away_placed taken word all later differ.1 away.1)

free_more : (taken : Bool) (name value : Text) (all : List (Text × Text)) → IsNamed name → IsFree taken all → IsFree taken (all ++ (name, value) ∷ [])
free_more false name value all x free = other_use all name value (codes "expression") x.no_expression free
free_more true name value all x free = tt

-- the walk over the words is not refused, and these uses are found in them
abbrev pub Goes : Walk → List Text → List (Text × Text) → Type 0
Goes w words all = (h : Held) × (b : Bool) × (position : ℕ) × (t : Bool) × (walk_over w words ≡ stood h (rests b) position t)
    × (walk_fault top [] w words ≡ []) × Holds h all

one_turn : (w there : Walk) (word : Text) (words : List Text) (all : List (Text × Text)) → Turn w word there → Goes there words all → Goes w (word ∷ words) all
unfolding walk_fault
one_turn w there word words all turn (h, b, position, t, ends, clean, holds) = (
  h,
  b,
  position,
  t,
  ap (λ (x : Walk). walk_over x words) turn.0 ∙ ends,
  ap₂ (λ (k : Kinds) (x : Walk). or_else k (walk_fault top [] x words)) turn.1 turn.0 ∙ clean,
  holds,
)

-- behind `--` each word goes to its place
goes_behind : (taken : Bool) (words : List Text) (h : Held) (b : Bool) (all : List (Text × Text)) → IsFree taken all → Holds h all
    → Goes (stood h (rests b) (position_at taken) true) words (all ++ placed taken words)
unfolding walk_fault
goes_behind taken [] h b all free holds = (h, b, position_at taken, true, refl, refl, subst (Holds h) (sym (append-nil all)) holds)
goes_behind taken (word ∷ words) h b all free holds =
    let t = place_takes all taken word free in
    let g = read_word h b all holds taken (place taken) word in
    let one : List (Text × Text) = (name_at taken, word) ∷ [] in
    let later = goes_behind true words g taken (all ++ one) tt (pending_holds (name_at taken) (word ∷ []) word all t h holds) in
    subst (Goes (stood h (rests b) (position_at taken) true) (word ∷ words)) (append_assoc all one (placed true words))
    (one_turn (stood h (rests b) (position_at taken) true) _ word words _ (behind_turn h b all holds taken (place taken) word) later)

goes : (items : List Item) (taken : Bool) (h : Held) (b : Bool) (all : List (Text × Text)) → AreItems items → AreAway all (uses items) → IsEachOnce (uses items)
    → IsFree taken all → Holds h all → Goes (between h (rests b) (position_at taken)) (words_of items) (all ++ all_uses taken items)
unfolding walk_fault
goes [] taken h b all are away once free holds = (h, b, position_at taken, false, refl, refl, subst (Holds h) (sym (append-nil all)) holds)
goes (spaced name value ∷ items) taken h b all (is, p, are) away once free holds =
    let x = value_option name is in
    let t = takes_once all name (value ∷ []) value x.called.one (x.fits value) away.0 in
    let g = reading h b (position_at taken) all holds name (value ∷ []) in
    let one : List (Text × Text) = (name, value) ∷ [] in
    let later = goes items taken g false (all ++ one) are (away_more name value all (uses items) once.0 away.1) once.1
    (free_more taken name value all x.called free) (pending_holds name (value ∷ []) value all t h holds) in
    subst (Goes (between h (rests b) (position_at taken)) (words_of (spaced name value ∷ items))) (append_assoc all one (all_uses taken items))
    (one_turn (between h (rests b) (position_at taken)) _ (codes "--" ++ name) (value ∷ words_of items) _ (name_turn h b (position_at taken) all holds name value x)
    (one_turn _ (between g idle (position_at taken)) value (words_of items) _ (value_turn h b (position_at taken) all holds name value x p) later))
goes (joined name value ∷ items) taken h b all (is, are) away once free holds =
    let x = value_option name is in
    let t = takes_once all name (value ∷ []) value x.called.one (x.fits value) away.0 in
    let one : List (Text × Text) = (name, value) ∷ [] in
    let later = goes items taken _ false (all ++ one) are (away_more name value all (uses items) once.0 away.1) once.1
    (free_more taken name value all x.called free) (reacted_holds name (value ∷ []) value all t h holds) in
    subst (Goes (between h (rests b) (position_at taken)) (words_of (joined name value ∷ items))) (append_assoc all one (all_uses taken items))
    (one_turn (between h (rests b) (position_at taken)) _ _ (words_of items) _ (joined_turn h b (position_at taken) all holds name value x t) later)
goes (alone name ∷ items) taken h b all (is, are) away once free holds =
    let x = flag_option name is in
    let t = takes_once all name [] (codes "true") x.called.one x.fits away.0 in
    let one : List (Text × Text) = (name, codes "true") ∷ [] in
    let later = goes items taken _ false (all ++ one) are (away_more name (codes "true") all (uses items) once.0 away.1) once.1
    (free_more taken name (codes "true") all x.called free) (reacted_holds name [] (codes "true") all t h holds) in
    subst (Goes (between h (rests b) (position_at taken)) (words_of (alone name ∷ items))) (append_assoc all one (all_uses taken items))
    (one_turn (between h (rests b) (position_at taken)) _ _ (words_of items) _ (flag_turn h b (position_at taken) all holds name x t) later)
goes (plain word ∷ items) taken h b all (p, are) away once free holds =
    let t = place_takes all taken word free in
    let g = read_word h b all holds taken (place taken) word in
    let one : List (Text × Text) = (name_at taken, word) ∷ [] in
    let later = goes items true g taken (all ++ one) are (away_placed taken word all (uses items) (options_away taken items are) away) once tt
    (pending_holds (name_at taken) (word ∷ []) word all t h holds) in
    subst (Goes (between h (rests b) (position_at taken)) (words_of (plain word ∷ items))) (append_assoc all one (all_uses true items))
    (one_turn (between h (rests b) (position_at taken)) _ word (words_of items) _ (place_turn h b all holds taken (place taken) word p) later)
goes (as_they_are words ∷ []) taken h b all none away once free holds =
    one_turn (between h (rests b) (position_at taken)) (stood h (rests b) (position_at taken) true) (codes "--") (words ++ []) _
    (dashes_turn h b (position_at taken) all holds)
    (subst (λ (ws : List Text). Goes (stood h (rests b) (position_at taken) true) ws (all ++ placed taken words)) (sym (append-nil words)) (goes_behind taken words h b all free holds))
goes (as_they_are words ∷ (item ∷ items)) taken h b all none away once free holds = absurd (cc)

all_away : (later : List (Text × Text)) → AreAway [] later
all_away [] = tt
all_away (one ∷ later) = (refl, all_away later)

-- the words of a whole line
pub goes_over : (items : List Item) → AreItems items → IsEachOnce (uses items) → Goes (between nothing_held idle 1) (words_of items) (all_uses false items)
goes_over items are once =
    goes items false nothing_held false [] are (all_away (uses items)) once refl (record { rows = λ id. refl; clean = refl })
