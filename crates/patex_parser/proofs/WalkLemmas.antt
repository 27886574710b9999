-- The walks over tokens, one token on.
use Rattle.std.proofs.Common.{◌≡◌, ℕ, ◌+◌, ◌<◌, Some, None, List, [], ◌∷◌, ◌++◌, length, take, drop, get_or, refl, sym, ap, ◌∙◌, subst}
use Rattle.std.proofs.lemmas.List.{map-append}
use Rattle.std.proofs.lemmas.List.Sums.{fold-append}
use Rattle.mine_model.specs.declared.item.Item.{Item}
use Rattle.patex_grammar.specs.Machine.{State, next, run, initial}
use Rattle.patex_grammar.specs.Machine as machine
use Rattle.patex_grammar.proofs.ReadingLemmas.{run-append}
use Rattle.patex_parser.specs.declared.token.ReadToken.{ReadToken}
use Rattle.patex_parser.specs.Reading.{mark_of_kind, marks_of, IsBehind, IsStuck}
use Rattle.patex_parser.specs.Checking.{effect_of, open_step, signs_step, open_after, signs_after}
use Rattle.patex_parser.proofs.FirstReads.{one-on, cut-here}

pub behind-push : (reads : List ReadToken) (read : ReadToken) (s s' : State Item) → IsBehind reads s → next s (mark_of_kind read.kind) ≡ Some s' → IsBehind (reads ++ read ∷ []) s'
behind-push reads read s s' is goes =
    ap (run (Some machine.initial)) (map-append (λ (r : ReadToken). mark_of_kind r.kind) reads (read ∷ []))
    ∙ run-append (Some machine.initial) (marks_of reads) (mark_of_kind read.kind ∷ [])
    ∙ ap (λ o. run o (mark_of_kind read.kind ∷ [])) is ∙ goes

pub behind-on : (reads : List ReadToken) (i : ℕ) (read d : ReadToken) (s s' : State Item) → i < length reads → read ≡ get_or reads i d
    → IsBehind (take i reads) s → next s (mark_of_kind read.kind) ≡ Some s' → IsBehind (take (i + 1) reads) s'
behind-on reads i read d s s' less is behind goes =
    subst (λ xs. IsBehind xs s') (sym (one-on reads i read d less is)) (behind-push (take i reads) read s s' behind goes)

pub stuck-here : (reads : List ReadToken) (i : ℕ) (read d : ReadToken) (s : State Item) → i < length reads → read ≡ get_or reads i d
    → IsBehind (take i reads) s → next s (mark_of_kind read.kind) ≡ None → IsStuck reads read.column
stuck-here reads i read d s less is behind none =
    (take i reads, read, drop (i + 1) reads, s, cut-here reads i read d less is, refl, behind, none)

pub open_after-on : (reads : List ReadToken) (i : ℕ) (read d : ReadToken) → i < length reads → read ≡ get_or reads i d
    → open_after (take (i + 1) reads) ≡ open_step (open_after (take i reads)) (effect_of read.kind)
open_after-on reads i read d less is =
    ap open_after (one-on reads i read d less is) ∙ fold-append (λ (n : ℕ) (r : ReadToken). open_step n (effect_of r.kind)) 0 (take i reads) (read ∷ [])

pub signs_after-on : (reads : List ReadToken) (i : ℕ) (read d : ReadToken) → i < length reads → read ≡ get_or reads i d
    → signs_after (take (i + 1) reads) ≡ signs_step (signs_after (take i reads)) (effect_of read.kind)
signs_after-on reads i read d less is =
    ap signs_after (one-on reads i read d less is) ∙ fold-append (λ (n : ℕ) (r : ReadToken). signs_step n (effect_of r.kind)) 0 (take i reads) (read ∷ [])
