-- Words in which one option stands twice in front of `--` are refused.
use Rattle.std.proofs.Common.{◌≡◌, ◌∙◌, ◌⊎◌, ◌||◌, refl, sym, ap, subst, ℕ, inl, inr, true, false, true≢false, not, Bool, List, [], ◌∷◌, ◌++◌, fold, Option, Some, None, is_some, if◌then◌else◌}
use Rattle.std.specs.Str.{bytes_eq}
use Rattle.std.specs.Option.{option_map_or}
use Rattle.std.proofs.lemmas.Slice.Eq.{bytes_eq-Decides}
use Rattle.std.proofs.lemmas.Bool.{or_right, and_right}
use Rattle.clap.specs.Words.{Kinds, Row, Rule, Shape, Text}
use Rattle.clap.specs.Lexer.{long_of, short_of}
use Rattle.clap.specs.Walk.{Held, Step, Waiting, Walk, action_of, after_flag, after_step, arg_by_id, arg_by_index, arg_by_long, has_row, idle, is_pending, long_met, long_or_other, more_values, next, nothing_held, option, option_word, plain_word, positional, pushed, reading_by, settled, settled_rows, short_or_plain, started, subcommand, subcommand_or_other, takes_several, takes_values, trailing, used, used_as, used_by_id, value, values_or_missing, walked, with_values, without, word_met}
use Rattle.clap.specs.Faults.{action_fault, flag_word_fault, long_fault, option_fault, other_fault, positional_fault, react_fault, repeat_fault, settle_fault, step_fault, stray_fault, turn_fault, use_fault, walk_fault, word_fault}
use Rattle.clap.specs.declared.builder.action.ArgAction.{ArgAction}
use Rattle.clap.specs.declared.builder.action.ArgAction.TheVariants.{Set, SetTrue, Append}
use Rattle.clap.specs.declared.builder.value_parser.Reading.{Reading}
use Rattle.clap.specs.declared.error.kind.ErrorKind.{ErrorKind}
use Rattle.clap.specs.declared.error.kind.ErrorKind.TheVariants as kind
use Rattle.clap.specs.declared.parser.matches.ValueSource.{ValueSource}
use Rattle.clap.specs.declared.parser.matches.ValueSource.TheVariants.{CommandLine}
use Rattle.clap.proofs.SimpleLemmas.{is_false}
use Rattle.command_line.proofs.PlainWordLemmas.{between, no_subcommand}
use Rattle.command_line.proofs.Walking.{AreSingle, Lasts, NoDashes, dashes, flag_or_option, found_has, goes_from, is_kept, is_single, or_else-nil, short_is, single-kept}

nonempty : (k : ErrorKind) (ks : Kinds) → k ∷ ks ≡ [] → ⊥
nonempty k ks e = cc

same_id : (id : Text) → bytes_eq id id ≡ true
same_id id = (bytes_eq-Decides id id).1 refl

or_map : (a b d : Bool) → (b ≡ true → d ≡ true) → (a || b) ≡ true → (a || d) ≡ true
or_map true b d f h = refl
or_map false b d f h = f h

or_rest : (a b : Bool) → a ≡ false → (a || b) ≡ true → b ≡ true
or_rest true b off h = absurd (true≢false off)
or_rest false b off h = h

-- rows with a value more have its row
has_added : (id : Text) (how : Reading) (s : ValueSource) (values : List Text) (rows : List Row) → has_row id (with_values id how s values rows) ≡ true
has_added id how s values [] = rw (same_id id) refl
has_added id how s values (r ∷ rows) = go (bytes_eq r.id id) refl (has_added id how s values rows)
  where
    go : (b : Bool) → bytes_eq r.id id ≡ b → has_row id (with_values id how s values rows) ≡ true
        → has_row id (if b then more_values s values r ++ rows else r ∷ with_values id how s values rows) ≡ true
    go true e later = rw e refl
    go false e later = or_right (bytes_eq r.id id) _ later

-- and keep those that they have
has_with : (id other : Text) (how : Reading) (s : ValueSource) (values : List Text) (rows : List Row) → has_row id rows ≡ true
    → has_row id (with_values other how s values rows) ≡ true
has_with id other how s values [] h = absurd (true≢false (sym h))
has_with id other how s values (r ∷ rows) h = go (bytes_eq r.id other) (has_with id other how s values rows) h
  where
    go : (b : Bool) → (has_row id rows ≡ true → has_row id (with_values other how s values rows) ≡ true) → has_row id (r ∷ rows) ≡ true
        → has_row id (if b then more_values s values r ++ rows else r ∷ with_values other how s values rows) ≡ true
    go true later has = has
    go false later has = or_map (bytes_eq r.id id) _ _ later has

has_without : (id other : Text) (rows : List Row) → bytes_eq other id ≡ false → has_row id rows ≡ true → has_row id (without other rows) ≡ true
has_without id other [] differ h = h
has_without id other (r ∷ rows) differ h = go (bytes_eq r.id other) refl (has_without id other rows differ) h
  where
    go : (b : Bool) → bytes_eq r.id other ≡ b → (has_row id rows ≡ true → has_row id (without other rows) ≡ true) → has_row id (r ∷ rows) ≡ true
        → has_row id (if b then rows else r ∷ without other rows) ≡ true
    go true e later has = or_rest (bytes_eq r.id id) _ (ap (λ (t : Text). bytes_eq t id) ((bytes_eq-Decides r.id other).0 e) ∙ differ) has
    go false e later has = or_map (bytes_eq r.id id) _ _ later has

pub single_use : (action : ArgAction) (id : Text) (how : Reading) (values : List Text) (rows : List Row) → is_single action ≡ true
    → used_as action id how values rows ≡ with_values id how CommandLine values (without id rows)
single_use Set id how values rows e = refl
single_use SetTrue id how values rows e = refl
single_use action id how values rows e = absurd (true≢false (sym e))

-- a use of an argument is one more row, or one more value of its row
kept_use : (action : ArgAction) (id : Text) (how : Reading) (values : List Text) (rows : List Row) → is_kept action ≡ true
    → (used_as action id how values rows ≡ with_values id how CommandLine values (without id rows)) ⊎ (used_as action id how values rows ≡ with_values id how CommandLine values rows)
kept_use Set id how values rows e = inl refl
kept_use SetTrue id how values rows e = inl refl
kept_use Append id how values rows e = inr refl
kept_use action id how values rows e = absurd (true≢false (sym e))

-- a use of an argument gives it a row
has_own : (a : Rule) (values : List Text) (rows : List Row) → is_kept (action_of a) ≡ true → has_row a.id (used a values rows) ≡ true
has_own a values rows e =
    let given = values_or_missing a values in
    let how = reading_by a in
    elim (kept_use (action_of a) a.id how given rows e) [
      | inl is ↦ subst (λ (rs : List Row). has_row a.id rs ≡ true) (sym is) (has_added a.id how CommandLine given (without a.id rows))
      | inr is ↦ subst (λ (rs : List Row). has_row a.id rs ≡ true) (sym is) (has_added a.id how CommandLine given rows)
    ]

has_other : (a : Rule) (values : List Text) (rows : List Row) (id : Text) → is_kept (action_of a) ≡ true → has_row id rows ≡ true → has_row id (used a values rows) ≡ true
has_other a values rows id e has = go (bytes_eq a.id id) refl
  where
    given : List Text
    given = values_or_missing a values

    go : (b : Bool) → bytes_eq a.id id ≡ b → has_row id (used a values rows) ≡ true
    go true same = subst (λ (t : Text). has_row t (used a values rows) ≡ true) ((bytes_eq-Decides a.id id).0 same) (has_own a values rows e)
    go false differ = elim (kept_use (action_of a) a.id (reading_by a) given rows e) [
      | inl is ↦
          subst (λ (rs : List Row). has_row id rs ≡ true) (sym is) (has_with id a.id (reading_by a) CommandLine given (without a.id rows) (has_without id a.id rows differ has))
      | inr is ↦ subst (λ (rs : List Row). has_row id rs ≡ true) (sym is) (has_with id a.id (reading_by a) CommandLine given rows has)
    ]

-- where the walk stands, in front of `--` or behind it
abbrev pub stood : Held → Waiting → ℕ → Bool → Walk
stood held waiting position is_trailing = record { held = held; waiting = waiting; position = position; is_trailing = is_trailing; stopped = None }

abbrev NoSubcommand : Step → Type 0
NoSubcommand (subcommand name) = ⊥
NoSubcommand _ = Unit {0}

repeated : (again : Bool) (id : Text) (rows : List Row) → again ≡ false → has_row id rows ≡ true → repeat_fault again id rows ≡ [] → ⊥
repeated true id rows strict has f = absurd (true≢false strict)
repeated false id rows strict has f =
    let hit : repeat_fault false id rows ≡ kind.ArgumentConflict ∷ [] = rw has refl in nonempty kind.ArgumentConflict [] (sym hit ∙ f)

action_refused : (action : ArgAction) (again : Bool) (a : Rule) (values : List Text) (rows : List Row) → is_single action ≡ true → again ≡ false
    → has_row a.id rows ≡ true → action_fault action again a values rows ≡ [] → ⊥
action_refused Set again a values rows e strict has f = repeated again a.id rows strict has (or_else-nil (repeat_fault again a.id rows) _ f).0
action_refused SetTrue again a values rows e strict has f = repeated again a.id rows strict has (or_else-nil (repeat_fault again a.id rows) _ f).0
action_refused action again a values rows e strict has f = absurd (true≢false (sym e))

module _ (s : Shape) (single : AreSingle s.rules) (strict : s.args_override_self ≡ false) (rule : Rule) (one : is_single (action_of rule) ≡ true)
    (known : arg_by_id s.rules rule.id ≡ Some rule) where
  kept : is_kept (action_of rule) ≡ true
  kept = single-kept (action_of rule) one

  -- a use that follows another is refused
  use_refused : (values : List Text) (rows : List Row) → has_row rule.id rows ≡ true → use_fault s.args_override_self rule values rows ≡ [] → ⊥
  use_refused values rows has f = action_refused (action_of rule) s.args_override_self rule (values_or_missing rule values) rows one strict has (or_else-nil _ _ f).1

  -- the option was used, or is being read
  abbrev IsUsed : Held → Type 0
  IsUsed h = (has_row rule.id h.rows ≡ true) ⊎ ((values : List Text) × (h.pending ≡ Some (rule.id, values)))

  settled_kept : (pending : Option (Text × List Text)) (rows : List Row) → has_row rule.id rows ≡ true → has_row rule.id (settled_rows s.rules pending rows) ≡ true
  settled_kept None rows has = has
  settled_kept (Some p) rows has = go (arg_by_id s.rules p.0) refl
    where
      go : (o : Option Rule) → arg_by_id s.rules p.0 ≡ o → has_row rule.id (used_by_id o p.1 rows) ≡ true
      go None e = has
      go (Some a) e = has_other a p.1 rows rule.id (found_has _ (λ r. is_kept (action_of r)) s.rules a single.kept e) has

  settled_has : (h : Held) → IsUsed h → has_row rule.id (settled s.rules h).rows ≡ true
  settled_has h (inl has) = settled_kept h.pending h.rows has
  settled_has h (inr (values, e)) =
      subst (λ (p : Option (Text × List Text)). has_row rule.id (settled_rows s.rules p h.rows) ≡ true) (sym e)
      (subst (λ (o : Option Rule). has_row rule.id (used_by_id o values h.rows) ≡ true) (sym known) (has_own rule values h.rows kept))

  pushed_is : (id word : Text) (h : Held) (values : List Text) → h.pending ≡ Some (rule.id, values) → (pushed id word h).pending ≡ Some (rule.id, values ++ word ∷ [])
  pushed_is id word h values e = ap (λ (p : Option (Text × List Text)). Some ((started id p).0, (started id p).1 ++ word ∷ [])) e

  used_used : (a : Rule) (values : List Text) (h : Held) → is_kept (action_of a) ≡ true → IsUsed h → IsUsed (record h { rows = used a values h.rows })
  used_used a values h e (inl has) = inl (has_other a values h.rows rule.id e has)
  used_used a values h e (inr pending) = inr pending

  used_pushed : (id word : Text) (h : Held) → IsUsed h → IsUsed (pushed id word h)
  used_pushed id word h (inl has) = inl has
  used_pushed id word h (inr (values, e)) = inr (values ++ word ∷ [], pushed_is id word h values e)

  used_lasts : Lasts s.rules IsUsed
  used_lasts = record {
    skips = λ h q. q;
    settles = λ h q. inl (settled_has h q);
    begins = λ id h q. inl (settled_has h q);
    uses = used_used;
    pushes = used_pushed;
  }

  -- the option was used, and is being read again
  abbrev IsTwice : Held → Type 0
  IsTwice h = (has_row rule.id h.rows ≡ true) × (values : List Text) × (h.pending ≡ Some (rule.id, values))

  settle_refused : (h : Held) → IsTwice h → settle_fault s.rules s.args_override_self h ≡ [] → ⊥
  settle_refused h (has, values, e) f =
      let first = ap (λ (p : Option (Text × List Text)). option_map_or (λ q. option_map_or (λ a. use_fault s.args_override_self a q.1 h.rows) (arg_by_id s.rules q.0) []) p []) e in
      let second = ap (λ (o : Option Rule). option_map_or (λ a. use_fault s.args_override_self a values h.rows) o []) known in
      use_refused values h.rows has (sym second ∙ sym first ∙ f)

  abbrev HoldsTwice : Held × Step → Type 0
  HoldsTwice p = IsTwice p.0 × NoSubcommand p.1

  plain_twice : (waiting : Waiting) (word : Text) (h : Held) → IsTwice h → HoldsTwice (plain_word s.rules waiting word h)
  plain_twice idle word h q = (q, tt)
  plain_twice positional word h q = (q, tt)
  plain_twice (option id) word h q = go (arg_by_id s.rules id)
    where
      go : (o : Option Rule) → HoldsTwice ((option_word o id word h).0, next (option_word o id word h).1)
      go None = (q, tt)
      go (Some a) = ((q.0, q.1 ++ word ∷ [], pushed_is id word h q.1 q.2), tt)

  long_refused : (o : Option Rule) (v : Option Text) (h : Held) → IsTwice h → long_fault s.rules s.args_override_self o v h ≡ [] → ⊥
  long_refused None v h q f = nonempty kind.UnknownArgument [] f
  long_refused (Some a) v h q f = go (takes_values a) v f
    where
      go : (b : Bool) (w : Option Text) → (if b then option_fault s.rules s.args_override_self a w h
          else (if is_some w then kind.TooManyValues ∷ [] else react_fault s.rules s.args_override_self a [] h)) ≡ [] → ⊥
      go true (Some x) g = settle_refused h q (or_else-nil (settle_fault s.rules s.args_override_self h) _ g).0
      go true None g = settle_refused h q g
      go false (Some x) g = nonempty kind.TooManyValues [] g
      go false None g = settle_refused h q (or_else-nil (settle_fault s.rules s.args_override_self h) _ g).0

  met_twice : (b : Bool) (waiting : Waiting) (position : ℕ) (word : Text) (h : Held) → IsTwice h → word_fault s [] b waiting word h ≡ []
      → HoldsTwice (word_met s.rules [] b waiting position word h)
  met_twice true waiting position word h q f = (q, tt)
  met_twice false waiting position word h q f =
      rw (no_subcommand waiting word) (go (bytes_eq word dashes) (sym (ap (λ (o : Option Text). other_fault s o word h) (no_subcommand waiting word)) ∙ f))
    where
      short : (o : Option Text) → HoldsTwice (short_or_plain s.rules waiting word o h)
      short None = plain_twice waiting word h q
      short (Some flags) = subst HoldsTwice (sym (short_is s.rules single waiting word flags h)) (plain_twice waiting word (record h { skip = 0 }) q)

      long : (o : Option (Text × Option Text)) → flag_word_fault s.rules s.args_override_self o word h ≡ [] → HoldsTwice (long_or_other s.rules waiting word o h)
      long (Some p) g = absurd (long_refused (arg_by_long s.rules p.0) p.1 h q g)
      long None g = short (short_of word)

      go : (d : Bool) → (if d then [] else flag_word_fault s.rules s.args_override_self (long_of word) word h) ≡ []
          → HoldsTwice (if d then (h, trailing position) else long_or_other s.rules waiting word (long_of word) h)
      go true g = (q, tt)
      go false g = long (long_of word) g

  value_refused : (position : ℕ) (h : Held) → IsTwice h → step_fault s position h value ≡ [] → ⊥
  value_refused position h q f = go (arg_by_index s.rules position) refl f
    where
      stray : (b : Bool) → (if b then kind.UnknownArgument ∷ [] else kind.UnknownArgument ∷ kind.InvalidSubcommand ∷ []) ≡ [] → ⊥
      stray true g = nonempty kind.UnknownArgument [] g
      stray false g = nonempty kind.UnknownArgument (kind.InvalidSubcommand ∷ []) g

      go : (o : Option Rule) → arg_by_index s.rules position ≡ o → option_map_or (λ a. positional_fault s.rules s.args_override_self a h) o (stray_fault s) ≡ [] → ⊥
      go None e g = stray s.is_leaf g
      go (Some a) e g =
          let off = and_right (is_pending a h.pending) (takes_several a) (is_false _ (found_has _ (λ r. not (takes_several r)) s.rules a single.several e)) in
          settle_refused h q (subst (λ (b : Bool). (if b then [] else settle_fault s.rules s.args_override_self h) ≡ []) off g)

  abbrev StandsTwice : Walk → Type 0
  StandsTwice w = (h : Held) × (waiting : Waiting) × (position : ℕ) × (b : Bool) × (w ≡ stood h waiting position b) × IsTwice h

  step_twice : (word : Text) (held h : Held) (waiting : Waiting) (position : ℕ) (b : Bool) (step : Step) → NoSubcommand step → IsTwice h → step_fault s position h step ≡ []
      → StandsTwice (after_step s.rules word (stood held waiting position b) h step)
  step_twice word held h waiting position b (next after) goes q f = (h, after, position, b, refl, q)
  step_twice word held h waiting position b (trailing p) goes q f = (h, waiting, p, true, refl, q)
  step_twice word held h waiting position b (subcommand name) goes q f = absurd goes
  step_twice word held h waiting position b value goes q f = absurd (value_refused position h q f)

  twice_turn : (word : Text) (h : Held) (waiting : Waiting) (position : ℕ) (b : Bool) → IsTwice h → turn_fault s [] (stood h waiting position b) word ≡ []
      → StandsTwice (walked s.rules [] (stood h waiting position b) word)
  unfolding walked
  twice_turn word h waiting position b q f =
      let split = or_else-nil (word_fault s [] b waiting word h) _ f in
      let met = met_twice b waiting position word h q split.0 in
      step_twice word h (word_met s.rules [] b waiting position word h).0 waiting position b (word_met s.rules [] b waiting position word h).1 met.1 met.0 split.1

  stays_twice : (words : List Text) (h : Held) (waiting : Waiting) (position : ℕ) (b : Bool) → IsTwice h → walk_fault s [] (stood h waiting position b) words ≡ []
      → IsTwice (fold (walked s.rules []) (stood h waiting position b) words).held
  unfolding walk_fault
  stays_twice [] h waiting position b q f = q
  stays_twice (word ∷ words) h waiting position b q f =
      let split = or_else-nil (turn_fault s [] (stood h waiting position b) word) _ f in
      let after = twice_turn word h waiting position b q split.0 in
      let clean = subst (λ (w : Walk). walk_fault s [] w words ≡ []) after.4 split.1 in
      subst (λ (w : Walk). IsTwice (fold (walked s.rules []) w words).held) (sym after.4) (stays_twice words after.0 after.1 after.2 after.3 after.5 clean)

  -- what a use of the option comes to, and what then holds
  abbrev GoesTo : (Held → Type 0) → Held × Step → Type 0
  GoesTo Q p = (after : Waiting) × (p.1 ≡ next after) × Q p.0

  module _ (word name : Text) (v : Option Text) (spelled : long_of word ≡ Some (name, v)) (apart : bytes_eq word dashes ≡ false)
      (named : arg_by_long s.rules name ≡ Some rule) where
    -- the held words and the step after the option
    abbrev pub met : Waiting → Held → Held × Step
    met waiting h = after_flag s.rules waiting word (long_met s.rules (Some rule) v h).0 (long_met s.rules (Some rule) v h).1

    pub met_is : (waiting : Waiting) (position : ℕ) (h : Held) → word_met s.rules [] false waiting position word h ≡ met waiting h
    met_is waiting position h =
        ap (λ (o : Option Text). subcommand_or_other s.rules o waiting position word h) (no_subcommand waiting word)
        ∙ rw apart (ap (λ (o : Option (Text × Option Text)). long_or_other s.rules waiting word o h) spelled
        ∙ ap (λ (o : Option Rule). after_flag s.rules waiting word (long_met s.rules o v h).0 (long_met s.rules o v h).1) named)

    pub fault_is : (waiting : Waiting) (h : Held) → word_fault s [] false waiting word h ≡ long_fault s.rules s.args_override_self (Some rule) v h
    fault_is waiting h =
        ap (λ (o : Option Text). other_fault s o word h) (no_subcommand waiting word)
        ∙ rw apart (ap (λ (o : Option (Text × Option Text)). flag_word_fault s.rules s.args_override_self o word h) spelled
        ∙ ap (λ (o : Option Rule). long_fault s.rules s.args_override_self o v h) named)

    met_used : (waiting : Waiting) (h : Held) → long_fault s.rules s.args_override_self (Some rule) v h ≡ [] → GoesTo IsUsed (met waiting h)
    met_used waiting h f = go (takes_values rule) v f
      where
        go : (b : Bool) (w : Option Text) → (if b then option_fault s.rules s.args_override_self rule w h
            else (if is_some w then kind.TooManyValues ∷ [] else react_fault s.rules s.args_override_self rule [] h)) ≡ []
            → GoesTo IsUsed (after_flag s.rules waiting word (flag_or_option s.rules rule h b w).0 (flag_or_option s.rules rule h b w).1)
        go true (Some x) g = (idle, refl, inl (has_own rule (x ∷ []) (settled s.rules h).rows kept))
        go true None g = (option rule.id, refl, inr ([], refl))
        go false (Some x) g = absurd (nonempty kind.TooManyValues [] g)
        go false None g = (idle, refl, inl (has_own rule [] (settled s.rules h).rows kept))

    met_again : (waiting : Waiting) (h : Held) → IsUsed h → long_fault s.rules s.args_override_self (Some rule) v h ≡ [] → GoesTo IsTwice (met waiting h)
    met_again waiting h q f = go (takes_values rule) v f
      where
        go : (b : Bool) (w : Option Text) → (if b then option_fault s.rules s.args_override_self rule w h
            else (if is_some w then kind.TooManyValues ∷ [] else react_fault s.rules s.args_override_self rule [] h)) ≡ []
            → GoesTo IsTwice (after_flag s.rules waiting word (flag_or_option s.rules rule h b w).0 (flag_or_option s.rules rule h b w).1)
        go true (Some x) g = absurd (use_refused (x ∷ []) (settled s.rules h).rows (settled_has h q) (or_else-nil (settle_fault s.rules s.args_override_self h) _ g).1)
        go true None g = (option rule.id, refl, (settled_has h q, [], refl))
        go false (Some x) g = absurd (nonempty kind.TooManyValues [] g)
        go false None g = absurd (use_refused [] (settled s.rules h).rows (settled_has h q) (or_else-nil (settle_fault s.rules s.args_override_self h) _ g).1)

    -- where the walk stands after the option
    abbrev pub Reaches : (Held → Type 0) → Walk → Type 0
    Reaches Q w = (h : Held) × (waiting : Waiting) × (position : ℕ) × (w ≡ between h waiting position) × Q h

    reaches : (Q : Held → Type 0) (h : Held) (waiting : Waiting) (position : ℕ) → GoesTo Q (met waiting h) → Reaches Q (walked s.rules [] (between h waiting position) word)
    unfolding walked
    reaches Q h waiting position (after, step, q) = (
      (met waiting h).0,
      after,
      position,
      ap (λ (p : Held × Step). after_step s.rules word (between h waiting position) p.0 p.1) (met_is waiting position h)
          ∙ ap (λ (t : Step). after_step s.rules word (between h waiting position) (met waiting h).0 t) step,
      q,
    )

    taken_word : (h : Held) (waiting : Waiting) (position : ℕ) → turn_fault s [] (between h waiting position) word ≡ [] → long_fault s.rules s.args_override_self (Some rule) v h ≡ []
    taken_word h waiting position f = sym (fault_is waiting h) ∙ (or_else-nil (word_fault s [] false waiting word h) _ f).0

    pub first_use : (h : Held) (waiting : Waiting) (position : ℕ) → turn_fault s [] (between h waiting position) word ≡ []
        → Reaches IsUsed (walked s.rules [] (between h waiting position) word)
    first_use h waiting position f = reaches IsUsed h waiting position (met_used waiting h (taken_word h waiting position f))

    pub second_use : (h : Held) (waiting : Waiting) (position : ℕ) → IsUsed h → turn_fault s [] (between h waiting position) word ≡ []
        → Reaches IsTwice (walked s.rules [] (between h waiting position) word)
    second_use h waiting position q f = reaches IsTwice h waiting position (met_again waiting h q (taken_word h waiting position f))

  any_lasts : Lasts s.rules (λ h. Unit {0})
  any_lasts = record {
    skips = λ h q. tt;
    settles = λ h q. tt;
    begins = λ id h q. tt;
    uses = λ a values h e q. tt;
    pushes = λ id word h q. tt;
  }

  -- the option's words
  abbrev pub IsUseWord : Text → Type 0
  IsUseWord word = (name : Text) × (v : Option Text) × (long_of word ≡ Some (name, v)) × (bytes_eq word dashes ≡ false) × (arg_by_long s.rules name ≡ Some rule)

  abbrev walk_over : Walk → List Text → Walk
  walk_over = fold (walked s.rules [])

  abbrev start : Walk
  start = between nothing_held idle 1

  pub twice_refused : (before middle behind : List Text) (first second : Text) → IsUseWord first → IsUseWord second
      → NoDashes before → NoDashes middle
      → walk_fault s [] start (before ++ first ∷ (middle ++ second ∷ behind)) ≡ []
      → settle_fault s.rules s.args_override_self (walk_over start (before ++ first ∷ (middle ++ second ∷ behind))).held ≡ [] → ⊥
  unfolding walk_fault
  twice_refused before middle behind first second (n1, v1, spelled1, apart1, named1) (n2, v2, spelled2, apart2, named2) free1 free2 clean settles =
      let rest = middle ++ second ∷ behind in
      let there = goes_from s single (λ h. Unit {0}) any_lasts before (first ∷ rest) free1 nothing_held idle 1 tt clean in
      let turn = or_else-nil (turn_fault s [] (between there.0 there.1 there.2) first) _ there.4 in
      let used_once = first_use first n1 v1 spelled1 apart1 named1 there.0 there.1 there.2 turn.0 in
      let clean2 = subst (λ (w : Walk). walk_fault s [] w rest ≡ []) used_once.3 turn.1 in
      let there2 = goes_from s single IsUsed used_lasts middle (second ∷ behind) free2 used_once.0 used_once.1 used_once.2 used_once.4 clean2 in
      let turn2 = or_else-nil (turn_fault s [] (between there2.0 there2.1 there2.2) second) _ there2.4 in
      let again = second_use second n2 v2 spelled2 apart2 named2 there2.0 there2.1 there2.2 there2.3 turn2.0 in
      let clean3 = subst (λ (w : Walk). walk_fault s [] w behind ≡ []) again.3 turn2.1 in
      let twice = stays_twice behind again.0 again.1 again.2 false again.4 clean3 in
      let ends : walk_over start (before ++ first ∷ rest) ≡ walk_over (between again.0 again.1 again.2) behind =
      sym there.5 ∙ (ap (λ (w : Walk). walk_over w rest) used_once.3 ∙ (sym there2.5 ∙ ap (λ (w : Walk). walk_over w behind) again.3)) in
      settle_refused (walk_over start (before ++ first ∷ rest)).held (subst (λ (w : Walk). IsTwice w.held) (sym ends) twice) settles
