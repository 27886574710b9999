-- The walk over options with their values, flags and plain words.
use Rattle.std.proofs.Common.{◌≡◌, ◌∙◌, ◌&&◌, ◌||◌, refl, ap, ap₂, ℕ, true, false, Bool, List, [], ◌∷◌, ◌++◌, codes, Option, Some, None, if◌then◌else◌, nat_lt}
use Rattle.std.specs.Str.{bytes_eq}
use Rattle.std.specs.Option.{option_map_or}
use Rattle.std.proofs.lemmas.Bool.{and_right}
use Rattle.std.proofs.Math.Bool.{or-false}
use Rattle.clap.specs.Words.{Kinds, Rule, Text}
use Rattle.clap.specs.Kinds.{or_else}
use Rattle.clap.specs.Lexer.{long_of}
use Rattle.clap.specs.Walk.{Held, Step, Waiting, Walk, action_of, after_flag, after_step, arg_by_id, arg_by_index, arg_by_long, idle, is_multiple, is_pending, long_met, most_values, next, next_position, option, option_word, pending_count, plain_word, positional, pushed, reacted, settled, takes_several, takes_values, to_positional, value, walked, word_met}
use Rattle.clap.specs.Faults.{long_fault, option_fault, positional_fault, react_fault, settle_fault, step_fault, stray_fault}
use Rattle.clap.specs.declared.error.kind.ErrorKind.TheVariants as kind
use Rattle.command_line.specs.PlainWords.{IsPlainWord}
use Rattle.command_line.proofs.PlainCommand.{top}
use Rattle.command_line.proofs.PlainWordLemmas.{between, turn_plain, walked_plain}
use Rattle.command_line.proofs.Walking.{dashes, flag_or_option, is_single}
use Rattle.command_line.proofs.RefusedWords.{options_single}
use Rattle.command_line.proofs.RepeatedOptions.{fault_is, met_is, stood}
use Rattle.command_line.proofs.OptionWords.{strict}
use Rattle.command_line.proofs.AnyOrder.{Fits, Holds, Takes, Turn, react_clean, rule_of}

-- the name of a word by its place: the first is the expression, and the others are files
abbrev pub name_at : Bool → Text
name_at false = codes "expression"
name_at true = codes "file"

abbrev pub position_at : Bool → ℕ
position_at false = 1
position_at true = 2

-- the walk waits for no value of an option
abbrev pub rests : Bool → Waiting
rests false = idle
rests true = positional

-- `--NAME` names the argument, which is none of those by their place
pub record IsNamed (name : Text) : Type 0 where
  pub named : arg_by_long top.rules name ≡ Some (rule_of name)
  pub apart : bytes_eq (codes "--" ++ name) dashes ≡ false
  pub spelled : long_of (codes "--" ++ name) ≡ Some (name, None)
  pub one : is_single (action_of (rule_of name)) ≡ true
  pub no_expression : bytes_eq name (codes "expression") ≡ false
  pub no_file : bytes_eq name (codes "file") ≡ false

-- the option of this name takes one value
pub record IsValue (name : Text) : Type 0 where
  pub called : IsNamed name
  pub takes : takes_values (rule_of name) ≡ true
  pub joins : (value : Text) → (bytes_eq (codes "--" ++ name ++ codes "=" ++ value) dashes ≡ false) × (long_of (codes "--" ++ name ++ codes "=" ++ value) ≡ Some (name, Some value))
  pub last : (value : Text) → nat_lt (pending_count (rule_of name) (Some (name, value ∷ []))) (most_values (rule_of name)) ≡ false
  pub fits : (value : Text) → Fits name (value ∷ []) value

-- the option of this name stands alone
pub record IsFlag (name : Text) : Type 0 where
  pub called : IsNamed name
  pub takes : takes_values (rule_of name) ≡ false
  pub fits : Fits name [] (codes "true")

-- the word at this place is a value of its name, and the next word is a file
pub record IsPlace (taken : Bool) : Type 0 where
  pub at : arg_by_index top.rules (position_at taken) ≡ Some (rule_of (name_at taken))
  pub several : takes_several (rule_of (name_at taken)) ≡ false
  pub waits : (if is_multiple (rule_of (name_at taken)) then positional else idle) ≡ rests taken
  pub after : next_position (rule_of (name_at taken)) (position_at taken) ≡ 2
  pub trailing : (rule_of (name_at taken)).trailing_var_arg ≡ false
  pub same : (rule_of (name_at taken)).id ≡ name_at taken

option_turn : (name word : Text) (v : Option Text) (vs : List Text) (given : Text) (fits : Fits name vs given) (called : IsNamed name)
    → long_of word ≡ Some (name, v) → bytes_eq word dashes ≡ false → (h there : Held) (b : Bool) (position : ℕ) (after : Waiting)
    → after_flag top.rules (rests b) word (long_met top.rules (Some (rule_of name)) v h).0 (long_met top.rules (Some (rule_of name)) v h).1 ≡ (there, next after)
    → long_fault top.rules top.args_override_self (Some (rule_of name)) v h ≡ []
    → Turn (between h (rests b) position) word (between there after position)
unfolding walked
option_turn name word v vs given fits called spelled apart h there b position after met clean =
    let known = ap (arg_by_id top.rules) fits.same ∙ fits.known in
    let whole : word_met top.rules [] false (rests b) position word h ≡ (there, next after) =
    met_is top options_single strict (rule_of name) called.one known word name v spelled apart called.named (rests b) position h ∙ met in (
      ap (λ (q : Held × Step). after_step top.rules word (between h (rests b) position) q.0 q.1) whole,
      ap₂ (λ (k : Kinds) (q : Held × Step). or_else k (step_fault top position q.0 q.1))
          (fault_is top options_single strict (rule_of name) called.one known word name v spelled apart called.named (rests b) h ∙ clean) whole,
    )

module _ (h : Held) (b : Bool) (position : ℕ) (all : List (Text × Text)) (holds : Holds h all) where
  pub joined_turn : (name text : Text) (x : IsValue name) → Takes all name (text ∷ []) text
      → Turn (between h (rests b) position) (codes "--" ++ name ++ codes "=" ++ text) (between (reacted top.rules (rule_of name) (text ∷ []) h) idle position)
  joined_turn name text x t =
      let word : Text = codes "--" ++ name ++ codes "=" ++ text in
      option_turn name word (Some text) (text ∷ []) text (x.fits text) x.called (x.joins text).1 (x.joins text).0 h (reacted top.rules (rule_of name) (text ∷ []) h) b position idle
      (ap (λ (c : Bool). after_flag top.rules (rests b) word (flag_or_option top.rules (rule_of name) h c (Some text)).0 (flag_or_option top.rules (rule_of name) h c (Some text)).1) x.takes)
      (ap (λ (c : Bool). if c then option_fault top.rules top.args_override_self (rule_of name) (Some text) h else kind.TooManyValues ∷ []) x.takes
      ∙ react_clean name (text ∷ []) text all t h holds)

  pub flag_turn : (name : Text) (x : IsFlag name) → Takes all name [] (codes "true")
      → Turn (between h (rests b) position) (codes "--" ++ name) (between (reacted top.rules (rule_of name) [] h) idle position)
  flag_turn name x t =
      let word : Text = codes "--" ++ name in
      option_turn name word None [] (codes "true") x.fits x.called x.called.spelled x.called.apart h (reacted top.rules (rule_of name) [] h) b position idle
      (ap (λ (c : Bool). after_flag top.rules (rests b) word (flag_or_option top.rules (rule_of name) h c None).0 (flag_or_option top.rules (rule_of name) h c None).1) x.takes)
      (ap (λ (c : Bool). if c then option_fault top.rules top.args_override_self (rule_of name) None h else react_fault top.rules top.args_override_self (rule_of name) [] h) x.takes
      ∙ react_clean name [] (codes "true") all t h holds)

  -- what is held while the values of the name are read
  abbrev pub reading : Text → List Text → Held
  reading name vs = record (settled top.rules h) { pending = Some (name, vs) }

  pub name_turn : (name text : Text) (x : IsValue name)
      → Turn (between h (rests b) position) (codes "--" ++ name) (between (reading name []) (option name) position)
  name_turn name text x =
      let word : Text = codes "--" ++ name in
      option_turn name word None (text ∷ []) text (x.fits text) x.called x.called.spelled x.called.apart h (reading name []) b position (option name)
      (ap (λ (c : Bool). after_flag top.rules (rests b) word (flag_or_option top.rules (rule_of name) h c None).0 (flag_or_option top.rules (rule_of name) h c None).1) x.takes
      ∙ ap (λ (id : Text). (reading id [], next (option id))) (x.fits text).same)
      (ap (λ (c : Bool). if c then option_fault top.rules top.args_override_self (rule_of name) None h else react_fault top.rules top.args_override_self (rule_of name) [] h) x.takes
      ∙ holds.clean)

  pub value_turn : (name text : Text) (x : IsValue name) → IsPlainWord text
      → Turn (between (reading name []) (option name) position) text (between (reading name (text ∷ [])) idle position)
  value_turn name text x p =
      let g = reading name [] in (
        walked_plain top.rules g (option name) position text p
            ∙ (ap (λ (o : Option Rule). between (option_word o name text g).0 (option_word o name text g).1 position) (x.fits text).known
            ∙ ap (λ (c : Bool). between (reading name (text ∷ [])) (if c then option name else idle) position) (x.last text)),
        turn_plain top g (option name) position text p,
      )

  pub dashes_turn : Turn (between h (rests b) position) (codes "--") (stood h (rests b) position true)
  unfolding walked
  dashes_turn = go b
    where
      go : (c : Bool) → Turn (between h (rests c) position) (codes "--") (stood h (rests c) position true)
      go true = (refl, refl)
      go false = (refl, refl)

module _ (h : Held) (b : Bool) (all : List (Text × Text)) (holds : Holds h all) (taken : Bool) (x : IsPlace taken) (word : Text) where
  abbrev a : Rule
  a = rule_of (name_at taken)

  -- what is held once the word is read
  abbrev pub read_word : Held
  read_word = record (settled top.rules h) { pending = Some (name_at taken, word ∷ []) }

  off : (is_pending a h.pending && takes_several a) ≡ false
  off = and_right (is_pending a h.pending) (takes_several a) x.several

  abbrev shape : Text → Bool → Waiting → ℕ → Bool → Walk
  shape id c waiting n t = record { held = pushed id word (if c then h else settled top.rules h); waiting = waiting; position = n; is_trailing = t; stopped = None }

  placed_is : (t : Bool) → to_positional top.rules (arg_by_index top.rules (position_at taken)) word (stood h (rests b) (position_at taken) t) h ≡ stood read_word (rests taken) 2 t
  placed_is t =
      ap (λ (o : Option Rule). to_positional top.rules o word (stood h (rests b) (position_at taken) t) h) x.at
      ∙ (ap (λ (c : Bool). shape a.id c (if is_multiple a then positional else idle) (next_position a (position_at taken)) (t || a.trailing_var_arg)) off
      ∙ (ap (λ (id : Text). shape id false (if is_multiple a then positional else idle) (next_position a (position_at taken)) (t || a.trailing_var_arg)) x.same
      ∙ (ap (λ (w : Waiting). shape (name_at taken) false w (next_position a (position_at taken)) (t || a.trailing_var_arg)) x.waits
      ∙ (ap (λ (n : ℕ). shape (name_at taken) false (rests taken) n (t || a.trailing_var_arg)) x.after
      ∙ ap (λ (c : Bool). shape (name_at taken) false (rests taken) 2 c) (ap (λ (c : Bool). t || c) x.trailing ∙ or-false t)))))

  placed_clean : step_fault top (position_at taken) h value ≡ []
  placed_clean =
      ap (λ (o : Option Rule). option_map_or (λ r. positional_fault top.rules top.args_override_self r h) o (stray_fault top)) x.at
      ∙ (ap (λ (c : Bool). if c then [] else settle_fault top.rules top.args_override_self h) off ∙ holds.clean)

  rest_plain : (c : Bool) → plain_word top.rules (rests c) word h ≡ (h, value)
  rest_plain true = refl
  rest_plain false = refl

  pub place_turn : IsPlainWord word → Turn (between h (rests b) (position_at taken)) word (between read_word (rests taken) 2)
  place_turn p = (
    walked_plain top.rules h (rests b) (position_at taken) word p
        ∙ (ap (λ (q : Held × Step). after_step top.rules word (between h (rests b) (position_at taken)) q.0 q.1) (rest_plain b) ∙ placed_is false),
    turn_plain top h (rests b) (position_at taken) word p ∙ (ap (λ (q : Held × Step). step_fault top (position_at taken) q.0 q.1) (rest_plain b) ∙ placed_clean),
  )

  -- behind `--` any word goes to its place
  pub behind_turn : Turn (stood h (rests b) (position_at taken) true) word (stood read_word (rests taken) 2 true)
  unfolding walked
  behind_turn = (placed_is true, placed_clean)
