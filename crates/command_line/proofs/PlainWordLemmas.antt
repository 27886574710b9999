-- What clap makes of a plain word.
use Rattle.std.proofs.Common.{◌≡◌, ◌∙◌, ap, ap₂, ℕ, false, refl, inl, inr, List, [], ◌∷◌, None}
use Rattle.std.specs.Str.{bytes_eq}
use Rattle.clap.specs.Words.{Text, Kinds, Rule, Shape}
use Rattle.clap.specs.Kinds.{or_else}
use Rattle.clap.specs.Lexer.{long_of, short_of}
use Rattle.clap.specs.Walk.{Held, Step, Waiting, Walk, after_step, idle, long_or_other, option, plain_word, positional, short_or_plain, subcommand_met, subcommand_or_other, walked, word_met}
use Rattle.clap.specs.Faults.{flag_word_fault, other_fault, step_fault, turn_fault, walk_fault, word_fault}
use Rattle.command_line.specs.PlainWords.{IsPlainWord}

plain_long : (word : Text) → IsPlainWord word → long_of word ≡ None
plain_long word (inl dash) = rw dash refl
plain_long [] (inr begins) = refl
plain_long (x ∷ xs) (inr begins) = rw begins refl

plain_short : (word : Text) → IsPlainWord word → short_of word ≡ None
plain_short word (inl dash) = rw dash refl
plain_short [] (inr begins) = refl
plain_short (x ∷ xs) (inr begins) = rw begins refl

plain_dashes : (word : Text) → IsPlainWord word → bytes_eq word (45 ∷ 45 ∷ []) ≡ false
plain_dashes word (inl dash) = rw dash refl
plain_dashes [] (inr begins) = refl
plain_dashes (x ∷ xs) (inr begins) = rw begins refl

pub no_subcommand : (waiting : Waiting) (word : Text) → subcommand_met [] waiting word ≡ None
no_subcommand idle word = refl
no_subcommand (option id) word = refl
no_subcommand positional word = refl

met_plain : (c : List Rule) (waiting : Waiting) (position : ℕ) (word : Text) (h : Held) → IsPlainWord word
    → word_met c [] false waiting position word h ≡ plain_word c waiting word h
met_plain c waiting position word h p =
    ap (λ o. subcommand_or_other c o waiting position word h) (no_subcommand waiting word)
    ∙ rw (plain_dashes word p) (ap (λ o. long_or_other c waiting word o h) (plain_long word p)
    ∙ ap (λ o. short_or_plain c waiting word o h) (plain_short word p))

fault_plain : (s : Shape) (waiting : Waiting) (word : Text) (h : Held) → IsPlainWord word → word_fault s [] false waiting word h ≡ []
fault_plain s waiting word h p =
    ap (λ o. other_fault s o word h) (no_subcommand waiting word)
    ∙ rw (plain_dashes word p) (ap (λ o. flag_word_fault s.rules s.args_override_self o word h) (plain_long word p) ∙ rw (plain_short word p) refl)

-- the walk after a plain word
abbrev pub plain_step : List Rule → Walk → Text → Walk
plain_step c w word = after_step c word w (plain_word c w.waiting word w.held).0 (plain_word c w.waiting word w.held).1

-- a walk between two words
abbrev pub between : Held → Waiting → ℕ → Walk
between held waiting position = record { held = held; waiting = waiting; position = position; is_trailing = false; stopped = None }

pub walked_plain : (c : List Rule) (held : Held) (waiting : Waiting) (position : ℕ) (word : Text) → IsPlainWord word
    → walked c [] (between held waiting position) word ≡ plain_step c (between held waiting position) word
unfolding walked
walked_plain c held waiting position word p =
    ap (λ (q : Held × Step). after_step c word (between held waiting position) q.0 q.1) (met_plain c waiting position word held p)

pub turn_plain : (s : Shape) (held : Held) (waiting : Waiting) (position : ℕ) (word : Text) → IsPlainWord word
    → turn_fault s [] (between held waiting position) word
    ≡ step_fault s position (plain_word s.rules waiting word held).0 (plain_word s.rules waiting word held).1
turn_plain s held waiting position word p =
    ap₂ (λ (k : Kinds) (q : Held × Step). or_else k (step_fault s position q.0 q.1)) (fault_plain s waiting word held p) (met_plain s.rules waiting position word held p)

pub walk_fault_plain : (s : Shape) (held : Held) (waiting : Waiting) (position : ℕ) (word : Text) (rest : List Text) → IsPlainWord word
    → walk_fault s [] (between held waiting position) (word ∷ rest)
    ≡ or_else (step_fault s position (plain_word s.rules waiting word held).0 (plain_word s.rules waiting word held).1)
    (walk_fault s [] (plain_step s.rules (between held waiting position) word) rest)
unfolding walk_fault
walk_fault_plain s held waiting position word rest p =
    ap₂ (λ (k : Kinds) (w : Walk). or_else k (walk_fault s [] w rest)) (turn_plain s held waiting position word p) (walked_plain s.rules held waiting position word p)
