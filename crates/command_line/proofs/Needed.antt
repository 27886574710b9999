-- A parse of a command with arguments that were added in turn gives each needed argument a value.
use Rattle.std.proofs.Common.{◌≡◌, ◌∙◌, ◌<◌, ◌&&◌, ◌||◌, ℕ, zero, suc, arith, inl, inr, refl, sym, ap, subst, true, false, true≢false, not, Bool, List, [], ◌∷◌, map, length, codes, is_some, option_map, Option, Some, None}
use Rattle.std.specs.Option.{IsSome}
use Rattle.std.specs.Str.{bytes_eq}
use Rattle.std.specs.List.{All, AllByRecursion, list_all, list_any, slice_index_or}
use Rattle.std.proofs.lemmas.Slice.Eq.{bytes_eq-Decides}
use Rattle.clap.specs.Built.{FitsChain, HasDistinctIds, TakesValue}
use Rattle.clap.specs.Facts.{args_of, groups_of}
use Rattle.clap.specs.Words.{AddsArg, AddsInTurn, IsParsedFrom, Row, Rule, Text, first_of, found_of, rows_of, rule_of}
use Rattle.clap.specs.Walk.{is_empty, is_free_arg, is_simple_arg}
use Rattle.clap.specs.declared.builder.action.ArgAction.{ArgAction}
use Rattle.clap.specs.declared.builder.action.ArgAction.TheVariants.{Set}
use Rattle.clap.specs.declared.builder.arg.Arg.{Arg}
use Rattle.clap.specs.declared.builder.command.Command.{Command}
use Rattle.clap.specs.declared.builder.command.Command.TheViews.{out-Command}
use Rattle.clap.specs.declared.parser.matches.ArgMatches.{ArgMatches}
use Rattle.clap.proofs.CallerLemmas.{required_in_chain}
use Rattle.clap.proofs.WalkLemmas.{both, first_value-rows}
use Rattle.clap.proofs.SimpleLemmas.{is_false, is_nil}
use Rattle.command_line.specs.Arguments.{HasNeeded}
use Rattle.command_line.specs.Options.{options}
use Rattle.command_line.proofs.Adding.{local_argument}

-- what the lemmas below ask of a rule
abbrev fits : Rule → Bool
fits r = r.is_simple && (r.is_free && (not (bytes_eq r.id []) && (not (bytes_eq r.id (codes "help")) && not (bytes_eq r.id (codes "version")))))

same_text : (a b : Text) → a ≡ b → bytes_eq a b ≡ true
same_text a b e = (bytes_eq-Decides a b).1 e

differs : (a b : Text) → not (bytes_eq a b) ≡ true → a ≡ b → ⊥
differs a b e same = true≢false (sym (same_text a b same) ∙ is_false _ e)

fits_chain : (a : Arg) → fits (rule_of a) ≡ true → FitsChain a
fits_chain a e =
    let p1 = both (is_simple_arg a) _ e in
    let p2 = both (is_free_arg a) _ p1.1 in
    let p3 = both (not (bytes_eq a.id.now [])) _ p2.1 in
    let p4 = both (not (bytes_eq a.id.now (codes "help"))) _ p3.1 in
    let s1 = both (is_empty a.overrides.items) _ p1.0 in
    let s2 = both (is_empty a.default_vals_ifs.items) _ s1.1 in
    let s3 = both (is_empty a.groups.items) _ s2.1 in
    let f1 = both (not a.exclusive) _ p2.0 in
    let f2 = both (is_empty a.conflicts.items) _ f1.1 in (
      (is_false a.exclusive f1.0, is_nil a.conflicts.items f2.0, is_nil a.overrides.items s1.0, is_nil a.groups.items s3.0),
      local_argument a p1.0,
      differs a.id.now [] p3.0,
      (λ auto. elim auto [ inl h ↦ differs a.id.now (codes "help") p4.0 h | inr h ↦ differs a.id.now (codes "version") p4.1 h ]),
    )

all_fit : (xs : List Arg) → list_all fits (map rule_of xs) ≡ true → All FitsChain xs
all_fit [] e k d lt = absurd (omega arith)
all_fit (x ∷ xs) e zero d lt = fits_chain x (both (fits (rule_of x)) _ e).0
all_fit (x ∷ xs) e (suc k) d lt = all_fit xs (both (fits (rule_of x)) _ e).1 k d (omega arith)

-- no two rules have one id
abbrev are_distinct : List Rule → Bool
are_distinct [] = true
are_distinct (r ∷ rs) = not (list_any (λ x. bytes_eq x.id r.id) rs) && are_distinct rs

not_among : (id : Text) (xs : List Arg) → list_any (λ x. bytes_eq x.id id) (map rule_of xs) ≡ false
    → (k : ℕ) (d : Arg) → k < length xs → (slice_index_or xs k d).id.now ≡ id → ⊥
not_among id [] e k d lt same = absurd (omega arith)
not_among id (x ∷ xs) e zero d lt same =
    let hit : list_any (λ y. bytes_eq y.id id) (map rule_of (x ∷ xs)) ≡ true = rw (same_text x.id.now id same) refl in
    true≢false (sym hit ∙ e)
not_among id (x ∷ xs) e (suc k) d lt same = not_among id xs (rest (bytes_eq x.id.now id) _ e) k d (omega arith) same
  where
    rest : (a b : Bool) → (a || b) ≡ false → b ≡ false
    rest true b h = absurd (true≢false h)
    rest false b h = h

distinct_ids : (xs : List Arg) → are_distinct (map rule_of xs) ≡ true → HasDistinctIds xs
distinct_ids [] e j k d g lj lk same = absurd (omega arith)
distinct_ids (x ∷ xs) e zero zero d g lj lk same = refl
distinct_ids (x ∷ xs) e zero (suc k) d g lj lk same =
    let fresh = is_false _ (both (not (list_any (λ (y : Rule). bytes_eq y.id x.id.now) (map rule_of xs))) _ e).0 in
    absurd (not_among x.id.now xs fresh k d (omega arith) (sym ((bytes_eq-Decides _ _).0 same)))
distinct_ids (x ∷ xs) e (suc j) zero d g lj lk same =
    let fresh = is_false _ (both (not (list_any (λ (y : Rule). bytes_eq y.id x.id.now) (map rule_of xs))) _ e).0 in
    absurd (not_among x.id.now xs fresh j g (omega arith) ((bytes_eq-Decides _ _).0 same))
distinct_ids (x ∷ xs) e (suc j) (suc k) d g lj lk same =
    ap suc (distinct_ids xs (both (not (list_any (λ (y : Rule). bytes_eq y.id x.id.now) (map rule_of xs))) _ e).1 j k d g (omega arith) (omega arith) same)

abbrev is_set : Option ArgAction → Bool
is_set (Some Set) = true
is_set _ = false

set_of : (o : Option ArgAction) → is_set o ≡ true → o ≡ Some Set
set_of (Some Set) e = refl
set_of (Some other) e = absurd (true≢false (sym e))
set_of None e = absurd (true≢false (sym e))

none_of : {X : Type 0} (o : Option X) → not (is_some o) ≡ true → o ≡ None
none_of None e = refl
none_of (Some x) e = absurd (true≢false (sym e))

-- a rule whose argument takes one value, where it is required
abbrev takes_one : Rule → Bool
takes_one r = not r.required || (is_set r.action && not (is_some r.range))

after_not : (a b : Bool) → (not a || b) ≡ true → a ≡ true → b ≡ true
after_not true b e t = e
after_not false b e t = absurd (true≢false (sym t))

takes_value : (a : Arg) → fits (rule_of a) ≡ true → takes_one (rule_of a) ≡ true → a.required ≡ true → TakesValue a
takes_value a e one required =
    let p1 = both (is_simple_arg a) _ e in
    let s1 = both (is_empty a.overrides.items) _ p1.0 in
    let s2 = both (is_empty a.default_vals_ifs.items) _ s1.1 in
    let s3 = both (is_empty a.groups.items) _ s2.1 in
    let s4 = both (not (is_some a.val_delim)) _ s3.1 in
    let q = both (is_set a.action) _ (after_not a.required _ one required) in
    let range : a.num_vals ≡ None = none_of a.num_vals q.1 in
    (required, set_of a.action q.0, none_of a.val_delim s4.0, rw range (omega arith))

list_all-at : (p : Rule → Bool) (xs : List Arg) → list_all p (map rule_of xs) ≡ true → (k : ℕ) (d : Arg) → k < length xs → p (rule_of (slice_index_or xs k d)) ≡ true
list_all-at p [] e k d lt = absurd (omega arith)
list_all-at p (x ∷ xs) e zero d lt = (both (p (rule_of x)) _ e).0
list_all-at p (x ∷ xs) e (suc k) d lt = list_all-at p xs (both (p (rule_of x)) _ e).1 k d (omega arith)

each_rule : (P : Rule → Type 0) (xs : List Arg) → ((k : ℕ) (d : Arg) → k < length xs → P (rule_of (slice_index_or xs k d))) → AllByRecursion P (map rule_of xs)
each_rule P [] h = tt
each_rule P (x ∷ xs) h = (h 0 x (omega arith), each_rule P xs (λ k d lt. h (suc k) d (omega arith)))

options_fit : list_all fits options ≡ true
unfolding options
options_fit = refl

options_are_distinct : are_distinct options ≡ true
unfolding options
options_are_distinct = refl

options_take_one : list_all takes_one options ≡ true
unfolding options
options_take_one = refl

pub needed_given : (start : Command) (xs : List Arg) (cmd : Command) (m : ArgMatches) → AddsInTurn AddsArg start xs cmd
    → args_of start ≡ [] → groups_of start ≡ [] → (out-Command start).has_globals ≡ false → (out-Command start).subcommand_negates_reqs ≡ false
    → map rule_of xs ≡ options → IsParsedFrom cmd m → HasNeeded (rows_of (found_of m))
needed_given start xs cmd m chain args groups globals negates rules parsed =
    let P : Rule → Type 0 = λ rule. rule.required ≡ true → is_some (first_of rule.id (rows_of (found_of m))) ≡ true in
    let fit : list_all fits (map rule_of xs) ≡ true = ap (list_all fits) rules ∙ options_fit in
    let one : list_all takes_one (map rule_of xs) ≡ true = ap (list_all takes_one) rules ∙ options_take_one in
    let distinct : are_distinct (map rule_of xs) ≡ true = ap are_distinct rules ∙ options_are_distinct in
    subst (λ (rs : List Rule). AllByRecursion P rs) rules (each_rule P xs (λ k d lt required.
    sym (ap is_some (first_value-rows (found_of m) (slice_index_or xs k d).id.now))
    ∙ required_in_chain start cmd xs k d m chain args groups globals negates (all_fit xs fit) (distinct_ids xs distinct) lt
    (takes_value (slice_index_or xs k d) (list_all-at fits xs fit k d lt) (list_all-at takes_one xs one k d lt) required) parsed))

-- the value of a needed argument
pub needed_value : (found : List Row) (rs : List Rule) (id : Text) → AllByRecursion (λ (rule : Rule). rule.required ≡ true → is_some (first_of rule.id found) ≡ true) rs
    → list_any (λ r. r.required && bytes_eq r.id id) rs ≡ true → is_some (first_of id found) ≡ true
needed_value found [] id all e = absurd (true≢false (sym e))
needed_value found (r ∷ rs) id all e = go (r.required && bytes_eq r.id id) refl (needed_value found rs id all.1) e
  where
    go : (b : Bool) → (r.required && bytes_eq r.id id) ≡ b → (list_any (λ x. x.required && bytes_eq x.id id) rs ≡ true → is_some (first_of id found) ≡ true)
        → (b || list_any (λ x. x.required && bytes_eq x.id id) rs) ≡ true → is_some (first_of id found) ≡ true
    go true hit others h =
        let p = both r.required (bytes_eq r.id id) hit in
        subst (λ (t : Text). is_some (first_of t found) ≡ true) ((bytes_eq-Decides r.id id).0 p.1) (all.0 p.0)
    go false hit others h = others h

pub shown : {X : Type 0} (f : X → Text) (o : Option X) (v : Option Text) → option_map f o ≡ v → is_some v ≡ true → IsSome o
shown f None v same has = absurd (true≢false (sym (ap is_some same ∙ has)))
shown f (Some x) v same has = refl

pub needed_expression : (found : List Row) → HasNeeded found → is_some (first_of (codes "expression") found) ≡ true
unfolding options
needed_expression found all = needed_value found options (codes "expression") all refl
