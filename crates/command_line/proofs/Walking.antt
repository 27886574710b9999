-- What a walk over words in front of `--` keeps, where no argument has a short name.
use Rattle.std.proofs.Common.{◌≡◌, ◌∙◌, ◌⊎◌, ◌&&◌, refl, sym, ap, subst, ℕ, zero, suc, inl, inr, true, false, not, Bool, cond, List, [], ◌∷◌, ◌++◌, fold, find, Option, Some, None, chars, slice_get, drop, length, if◌then◌else◌, encode_utf8}
use Rattle.std.specs.Str.{bytes_eq}
use Rattle.std.specs.List.{AllByRecursion, list_all}
use Rattle.std.proofs.lemmas.Option.{none-some, same_Some}
use Rattle.clap.specs.Words.{Kinds, Rule, Shape, Text}
use Rattle.clap.specs.Kinds.{or_else}
use Rattle.clap.specs.Lexer.{long_of, short_of}
use Rattle.clap.specs.Walk.{Held, Outcome, Step, Waiting, Walk, action_of, after_flag, after_step, arg_by_id, arg_by_index, arg_by_long, arg_by_short, bundle_met, bundle_step, flag_met, idle, is_multiple, is_pending, long_met, long_or_other, next, next_position, option, option_met, option_word, plain, plain_word, positional, positional_held, pushed, refused, settled, short_or_plain, short_word, subcommand, takes_several, takes_values, to_positional, trailing, used, value, walked, word_met}
use Rattle.clap.specs.Faults.{turn_fault, walk_fault}
use Rattle.clap.specs.declared.builder.action.ArgAction.{ArgAction}
use Rattle.clap.specs.declared.builder.action.ArgAction.TheVariants.{Set, SetTrue, Append}
use Rattle.clap.proofs.WalkLemmas.{both}
use Rattle.clap.proofs.SimpleLemmas.{is_false}
use Rattle.command_line.proofs.PlainWordLemmas.{between, no_subcommand}

-- the words `--`
abbrev pub dashes : Text
dashes = 45 ∷ 45 ∷ []

pub or_else-nil : (a b : Kinds) → or_else a b ≡ [] → (a ≡ []) × (b ≡ [])
or_else-nil [] b e = (refl, e)
or_else-nil (k ∷ ks) b e = absurd (cc)

-- what is found has what each has
pub found_has : (p q : Rule → Bool) (c : List Rule) (a : Rule) → list_all q c ≡ true → find p c ≡ Some a → q a ≡ true
found_has p q [] a all e = absurd (none-some a e)
found_has p q (x ∷ xs) a all e = go (p x) (found_has p q xs a (both (q x) _ all).1) e
  where
    go : (b : Bool) → (find p xs ≡ Some a → q a ≡ true) → cond b (Some x) (find p xs) ≡ Some a → q a ≡ true
    go true later h = subst (λ (r : Rule). q r ≡ true) (same_Some x a h) (both (q x) _ all).0
    go false later h = later h

-- the argument takes one use, and no more
abbrev pub is_single : ArgAction → Bool
is_single Set = true
is_single SetTrue = true
is_single _ = false

-- a use of the argument leaves what was found of others, and is found
abbrev pub is_kept : ArgAction → Bool
is_kept Append = true
is_kept action = is_single action

pub single-kept : (action : ArgAction) → is_single action ≡ true → is_kept action ≡ true
single-kept Append e = refl
single-kept Set e = refl
single-kept SetTrue e = refl
single-kept action e = e

-- the arguments of a command as this one: none has a short name or reads what follows it as it is, and each
-- use, of one value at the most, is found
pub record AreSingle (c : List Rule) : Type 0 where
  pub shorts : (x : ℕ) → arg_by_short c x ≡ None
  pub trailing : list_all (λ r. not r.trailing_var_arg) c ≡ true
  pub kept : list_all (λ r. is_kept (action_of r)) c ≡ true
  pub several : list_all (λ r. not (takes_several r)) c ≡ true

-- what the steps of a walk keep
pub record Lasts (c : List Rule) (Q : Held → Type 0) : Type 0 where
  pub skips : (h : Held) → Q h → Q (record h { skip = 0 })
  pub settles : (h : Held) → Q h → Q (settled c h)
  pub begins : (id : Text) (h : Held) → Q h → Q (record (settled c h) { pending = Some (id, []) })
  pub uses : (a : Rule) (values : List Text) (h : Held) → is_kept (action_of a) ≡ true → Q h → Q (record h { rows = used a values h.rows })
  pub pushes : (id word : Text) (h : Held) → Q h → Q (pushed id word h)

-- neither `--` nor a subcommand
abbrev pub GoesOn : Step → Type 0
GoesOn (next waiting) = Unit {0}
GoesOn value = Unit {0}
GoesOn (trailing position) = ⊥
GoesOn (subcommand name) = ⊥

abbrev pub flag_or_option : List Rule → Rule → Held → Bool → Option Text → Held × Outcome
flag_or_option c a h b v = if b then option_met c a v h else flag_met c a v h

module _ (c : List Rule) (single : AreSingle c) where
  bundle_none : (k : ℕ) (flags : Text) (skip : ℕ) (h : Held) → (bundle_met c k flags skip plain h ≡ (h, plain)) ⊎ (bundle_met c k flags skip plain h ≡ (h, refused))
  unfolding bundle_met
  bundle_none zero flags skip h = inl refl
  bundle_none (suc k) flags skip h = go (bundle_none k) (slice_get (chars flags) 0) skip
    where
      go : ((rest : Text) (n : ℕ) (g : Held) → (bundle_met c k rest n plain g ≡ (g, plain)) ⊎ (bundle_met c k rest n plain g ≡ (g, refused)))
          → (o : Option ℕ) (n : ℕ) → (bundle_step c o flags n plain h (bundle_met c k) ≡ (h, plain)) ⊎ (bundle_step c o flags n plain h (bundle_met c k) ≡ (h, refused))
      go later None n = inl refl
      go later (Some x) zero = inr (rw (single.shorts x) refl)
      go later (Some x) (suc n) = later (drop (length (encode_utf8 x)) flags) n h

  -- a word with one dash in front is read as a plain word, or refused
  pub short_is : (waiting : Waiting) (word flags : Text) (h : Held) → short_word c waiting word flags h ≡ plain_word c waiting word (record h { skip = 0 })
  short_is waiting word flags h = elim (bundle_none (length flags) flags h.skip (record h { skip = 0 })) [
    | inl e ↦ ap (λ (p : Held × Outcome). after_flag c waiting word p.0 p.1) e
    | inr e ↦ ap (λ (p : Held × Outcome). after_flag c waiting word p.0 p.1) e
  ]

  module _ (Q : Held → Type 0) (lasts : Lasts c Q) where
    abbrev Kept : Held × Step → Type 0
    Kept p = Q p.0 × GoesOn p.1

    plain_kept : (waiting : Waiting) (word : Text) (h : Held) → Q h → Kept (plain_word c waiting word h)
    plain_kept idle word h q = (q, tt)
    plain_kept positional word h q = (q, tt)
    plain_kept (option id) word h q = go (arg_by_id c id)
      where
        go : (o : Option Rule) → Kept ((option_word o id word h).0, next (option_word o id word h).1)
        go None = (q, tt)
        go (Some a) = (lasts.pushes id word h q, tt)

    long_kept : (waiting : Waiting) (word name : Text) (v : Option Text) (h : Held) → Q h
        → Kept (after_flag c waiting word (long_met c (arg_by_long c name) v h).0 (long_met c (arg_by_long c name) v h).1)
    long_kept waiting word name v h q = go (arg_by_long c name) refl
      where
        go : (o : Option Rule) → arg_by_long c name ≡ o → Kept (after_flag c waiting word (long_met c o v h).0 (long_met c o v h).1)
        go None e = plain_kept waiting word h q
        go (Some a) e = take (takes_values a) v
          where
            is : is_kept (action_of a) ≡ true
            is = found_has _ (λ r. is_kept (action_of r)) c a single.kept e

            take : (b : Bool) (w : Option Text) → Kept (after_flag c waiting word (flag_or_option c a h b w).0 (flag_or_option c a h b w).1)
            take true (Some x) = (lasts.uses a (x ∷ []) (settled c h) is (lasts.settles h q), tt)
            take true None = (lasts.begins a.id h q, tt)
            take false (Some x) = plain_kept waiting word h q
            take false None = (lasts.uses a [] (settled c h) is (lasts.settles h q), tt)

    short_kept : (waiting : Waiting) (word : Text) (o : Option Text) (h : Held) → Q h → Kept (short_or_plain c waiting word o h)
    short_kept waiting word None h q = plain_kept waiting word h q
    short_kept waiting word (Some flags) h q = subst Kept (sym (short_is waiting word flags h)) (plain_kept waiting word (record h { skip = 0 }) (lasts.skips h q))

    word_kept : (waiting : Waiting) (position : ℕ) (word : Text) (h : Held) → bytes_eq word dashes ≡ false → Q h → Kept (word_met c [] false waiting position word h)
    word_kept waiting position word h free q = rw (no_subcommand waiting word) (rw free (go (long_of word)))
      where
        go : (o : Option (Text × Option Text)) → Kept (long_or_other c waiting word o h)
        go None = short_kept waiting word (short_of word) h q
        go (Some p) = long_kept waiting word p.0 p.1 h q

    pub positional_kept : (a : Rule) (word : Text) (h : Held) → Q h → Q (positional_held c a word h)
    positional_kept a word h q = lasts.pushes a.id word _ (go (is_pending a h.pending && takes_several a))
      where
        go : (b : Bool) → Q (if b then h else settled c h)
        go true = q
        go false = lasts.settles h q

    -- the walk stands between two words in front of `--`, and Q holds
    abbrev pub Stands : Walk → Type 0
    Stands w = (h : Held) × (waiting : Waiting) × (position : ℕ) × (w ≡ between h waiting position) × Q h

    step_kept : (word : Text) (held h : Held) (waiting : Waiting) (position : ℕ) (s : Step) → GoesOn s → Q h → Stands (after_step c word (between held waiting position) h s)
    step_kept word held h waiting position (next after) goes q = (h, after, position, refl, q)
    step_kept word held h waiting position (trailing p) goes q = absurd goes
    step_kept word held h waiting position (subcommand name) goes q = absurd goes
    step_kept word held h waiting position value goes q = go (arg_by_index c position) refl
      where
        go : (o : Option Rule) → arg_by_index c position ≡ o → Stands (to_positional c o word (between held waiting position) h)
        go None e = (h, waiting, position, refl, q)
        go (Some a) e =
            let off : a.trailing_var_arg ≡ false = is_false _ (found_has _ (λ r. not r.trailing_var_arg) c a single.trailing e) in (
              positional_held c a word h,
              (if is_multiple a then positional else idle),
              next_position a position,
              ap (λ (b : Bool). record (between (positional_held c a word h) (if is_multiple a then positional else idle) (next_position a position)) { is_trailing = b }) off,
              positional_kept a word h q,
            )

    pub turn_kept : (word : Text) (h : Held) (waiting : Waiting) (position : ℕ) → bytes_eq word dashes ≡ false → Q h → Stands (walked c [] (between h waiting position) word)
    unfolding walked
    turn_kept word h waiting position free q =
        let met = word_kept waiting position word h free q in
        step_kept word h (word_met c [] false waiting position word h).0 waiting position (word_met c [] false waiting position word h).1 met.1 met.0

-- none of the words is `--`
abbrev pub NoDashes : List Text → Type 0
NoDashes = AllByRecursion (λ word. bytes_eq word dashes ≡ false)

-- where a walk that is not refused stands behind words without `--`
module _ (s : Shape) (single : AreSingle s.rules) (Q : Held → Type 0) (lasts : Lasts s.rules Q) where
  -- the walk goes on from here over the rest, and is not refused
  abbrev pub GoesFrom : Walk → List Text → Type 0
  GoesFrom end rest = (h : Held) × (waiting : Waiting) × (position : ℕ) × Q h
      × (walk_fault s [] (between h waiting position) rest ≡ []) × (fold (walked s.rules []) (between h waiting position) rest ≡ end)

  pub goes_from : (before rest : List Text) → NoDashes before → (h : Held) (waiting : Waiting) (position : ℕ) → Q h
      → walk_fault s [] (between h waiting position) (before ++ rest) ≡ []
      → GoesFrom (fold (walked s.rules []) (between h waiting position) (before ++ rest)) rest
  unfolding walk_fault
  goes_from [] rest free h waiting position q clean = (h, waiting, position, q, clean, refl)
  goes_from (word ∷ before) rest free h waiting position q clean =
      let after = turn_kept s.rules single Q lasts word h waiting position free.0 q in
      let split = or_else-nil (turn_fault s [] (between h waiting position) word) _ clean in
      let next_clean = subst (λ (w : Walk). walk_fault s [] w (before ++ rest) ≡ []) after.3 split.1 in
      let more = goes_from before rest free.1 after.0 after.1 after.2 after.4 next_clean in (
        more.0,
        more.1,
        more.2,
        more.3,
        more.4,
        more.5 ∙ ap (λ (w : Walk). fold (walked s.rules []) w (before ++ rest)) (sym after.3),
      )
