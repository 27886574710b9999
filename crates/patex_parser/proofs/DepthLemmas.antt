-- Brackets that are open and postfix signs in a row, of tokens and as they were read.
use Rattle.std.proofs.Common.{◌≡◌, ℕ, suc, ◌+◌, ◌-◌, ◌≤◌, ◌⊎◌, inl, inr, Option, Some, None, List, [], ◌∷◌, ◌++◌, length, take, drop, refl, sym, ap, ◌∙◌, subst, append_assoc, arith, length-append}
use Rattle.std.specs.List.{All, fold}
use Rattle.std.proofs.lemmas.List.{append-nil, take-append-drop, length-drop}
use Rattle.std.proofs.lemmas.List.Sums.{fold-append}
use Rattle.std.proofs.lemmas.List.Elements.{All-push, All-nil, All-drop}
use Rattle.mine_model.specs.declared.item.Item.{Item}
use Rattle.mine_model.specs.Bytes.{exclamation_mark, open_round, close_round, asterisk, plus_sign, full_stop, equals_sign, question_mark, open_square, close_square, circumflex, vertical_bar}
use Rattle.mine_model.specs.Limits.{most_nested}
use Rattle.mine_model.specs.Tokens.{Token, name, sign, repeat, open_repeat, Placed}
use Rattle.mine_model.specs.Grammar.{Use, IsPostfix}
use Rattle.mine_model.specs.Expression.{Tree}
use Rattle.mine_model.specs.Refusal.{IsOpening, IsClosing, IsPostfixSign, AreOpen, none, one_more, one_less, as_many, IsTooDeepAfter}
use Rattle.patex_grammar.specs.Machine as machine
use Rattle.patex_grammar.specs.Machine.{Is, AreMarks, Last, Frame, frame, State, state, begun, finished, tree_of_last, with_last, with_name, with_caret, with_equals, extended, with_bar, opened, shut, repeating, nothing, excluding, extendable, closed, next, run, initial}
use Rattle.patex_grammar.specs.Holding.{Reaches}
use Rattle.patex_grammar.proofs.HoldingLemmas.{run-none}
use Rattle.patex_parser.specs.declared.token.Mark.{Mark}
use Rattle.patex_parser.specs.declared.token.Mark.TheVariants.{Name, Caret, Equals, Dot, Bang, Bar, Opening, Closing, Postfix}
use Rattle.patex_parser.specs.declared.token.Kind.TheVariants.{Mark as AMark}
use Rattle.patex_parser.specs.declared.token.ReadToken.{ReadToken}
use Rattle.patex_parser.specs.View.{mark_of}
use Rattle.patex_parser.specs.Checking.{Effect, opens, closes, repeats, plain, effect_of, open_step, signs_step, open_after, signs_after, IsTooDeepRead}
use Rattle.patex_parser.proofs.RunLemmas.{mark_by}
use Rattle.patex_parser.proofs.MeaningLemmas.{Pairwise, MeansMark}

-- what a mark of the machine does to the depth
abbrev pub effect_of_mark : {A : Type 0} → machine.Mark A → Effect
effect_of_mark (machine.name_of a) = plain
effect_of_mark machine.caret = plain
effect_of_mark machine.equals = plain
effect_of_mark machine.dot = plain
effect_of_mark machine.bang = plain
effect_of_mark machine.bar = plain
effect_of_mark (machine.opening bracket) = opens
effect_of_mark (machine.closing bracket) = closes
effect_of_mark (machine.postfix least most) = repeats

effect-by : {A : Type 0} (f : Item → A) (mark : Mark) → effect_of_mark (mark_by f (mark_of mark)) ≡ effect_of (AMark mark)
effect-by f (Name item) = refl
effect-by f Caret = refl
effect-by f Equals = refl
effect-by f Dot = refl
effect-by f Bang = refl
effect-by f Bar = refl
effect-by f (Opening bracket) = refl
effect-by f (Closing bracket) = refl
effect-by f (Postfix least most) = refl

sign-same : (b c : ℕ) → sign b ≡ sign c → b ≡ c
sign-same b c e = cc

not-both : (token : Token) (b c : ℕ) → token ≡ sign b → token ≡ sign c → b ≡ c
not-both token b c e f = sign-same b c (sym e ∙ f)

-- no name opens or closes
name-no-sign : (text : List ℕ) (b : ℕ) → name text ≡ sign b → ⊥
name-no-sign text b e = cc

repeat-no-sign : (text : List ℕ) (b : ℕ) → repeat text ≡ sign b → ⊥
repeat-no-sign text b e = cc

-- a postfix sign is no bracket
postfix-no-bracket : (token : Token) (least : ℕ) (most : Option ℕ) (b : ℕ) → IsPostfix token least most → token ≡ sign b
    → (b ≡ asterisk) ⊎ ((b ≡ plus_sign) ⊎ (b ≡ question_mark))
postfix-no-bracket (name text) least most b is e = absurd is
postfix-no-bracket (sign c) least most b (inl is) e = inl (sym (sign-same c b e) ∙ is.0)
postfix-no-bracket (sign c) least most b (inr (inl is)) e = inr (inl (sym (sign-same c b e) ∙ is.0))
postfix-no-bracket (sign c) least most b (inr (inr is)) e = inr (inr (sym (sign-same c b e) ∙ is.0))
postfix-no-bracket (repeat between) least most b is e = absurd (repeat-no-sign between b e)
postfix-no-bracket (open_repeat behind) least most b is e = absurd is

three-no : (P : Type 0) (b : ℕ) → (b ≡ asterisk) ⊎ ((b ≡ plus_sign) ⊎ (b ≡ question_mark))
    → (b ≡ open_round) ⊎ ((b ≡ open_square) ⊎ ((b ≡ close_round) ⊎ (b ≡ close_square))) → P
three-no P b (inl e) (inl f) = absurd (omega arith)
three-no P b (inl e) (inr (inl f)) = absurd (omega arith)
three-no P b (inl e) (inr (inr (inl f))) = absurd (omega arith)
three-no P b (inl e) (inr (inr (inr f))) = absurd (omega arith)
three-no P b (inr (inl e)) (inl f) = absurd (omega arith)
three-no P b (inr (inl e)) (inr (inl f)) = absurd (omega arith)
three-no P b (inr (inl e)) (inr (inr (inl f))) = absurd (omega arith)
three-no P b (inr (inl e)) (inr (inr (inr f))) = absurd (omega arith)
three-no P b (inr (inr e)) (inl f) = absurd (omega arith)
three-no P b (inr (inr e)) (inr (inl f)) = absurd (omega arith)
three-no P b (inr (inr e)) (inr (inr (inl f))) = absurd (omega arith)
three-no P b (inr (inr e)) (inr (inr (inr f))) = absurd (omega arith)

-- a sign that an opening or closing token is
opening-byte : (token : Token) (c : ℕ) → IsOpening token → token ≡ sign c → (c ≡ open_round) ⊎ (c ≡ open_square)
opening-byte token c (inl e) f = inl (not-both token c open_round f e)
opening-byte token c (inr e) f = inr (not-both token c open_square f e)

closing-byte : (token : Token) (c : ℕ) → IsClosing token → token ≡ sign c → (c ≡ close_round) ⊎ (c ≡ close_square)
closing-byte token c (inl e) f = inl (not-both token c close_round f e)
closing-byte token c (inr e) f = inr (not-both token c close_square f e)

-- a token opens just when its mark does
pub opening-mark : (u : machine.Mark Use) (placed : Placed) → Is u placed → IsOpening placed.token → effect_of_mark u ≡ opens
opening-mark (machine.name_of u) placed is (inl e) = absurd (name-no-sign u.name open_round (sym (ap (λ (p : Placed). p.token) is) ∙ e))
opening-mark (machine.name_of u) placed is (inr e) = absurd (name-no-sign u.name open_square (sym (ap (λ (p : Placed). p.token) is) ∙ e))
opening-mark machine.caret placed is o = absurd (elim (opening-byte placed.token circumflex o is) [ inl e ↦ omega arith | inr e ↦ omega arith ])
opening-mark machine.equals placed is o = absurd (elim (opening-byte placed.token equals_sign o is) [ inl e ↦ omega arith | inr e ↦ omega arith ])
opening-mark machine.dot placed is o = absurd (elim (opening-byte placed.token full_stop o is) [ inl e ↦ omega arith | inr e ↦ omega arith ])
opening-mark machine.bang placed is o = absurd (elim (opening-byte placed.token exclamation_mark o is) [ inl e ↦ omega arith | inr e ↦ omega arith ])
opening-mark machine.bar placed is o = absurd (elim (opening-byte placed.token vertical_bar o is) [ inl e ↦ omega arith | inr e ↦ omega arith ])
opening-mark (machine.opening bracket) placed is o = refl
opening-mark (machine.closing machine.round) placed is o = absurd (elim (opening-byte placed.token close_round o is) [ inl e ↦ omega arith | inr e ↦ omega arith ])
opening-mark (machine.closing machine.square) placed is o = absurd (elim (opening-byte placed.token close_square o is) [ inl e ↦ omega arith | inr e ↦ omega arith ])
opening-mark (machine.postfix least most) placed is (inl e) = three-no _ open_round (postfix-no-bracket placed.token least most open_round is e) (inl refl)
opening-mark (machine.postfix least most) placed is (inr e) = three-no _ open_square (postfix-no-bracket placed.token least most open_square is e) (inr (inl refl))

pub closing-mark : (u : machine.Mark Use) (placed : Placed) → Is u placed → IsClosing placed.token → effect_of_mark u ≡ closes
closing-mark (machine.name_of u) placed is (inl e) = absurd (name-no-sign u.name close_round (sym (ap (λ (p : Placed). p.token) is) ∙ e))
closing-mark (machine.name_of u) placed is (inr e) = absurd (name-no-sign u.name close_square (sym (ap (λ (p : Placed). p.token) is) ∙ e))
closing-mark machine.caret placed is o = absurd (elim (closing-byte placed.token circumflex o is) [ inl e ↦ omega arith | inr e ↦ omega arith ])
closing-mark machine.equals placed is o = absurd (elim (closing-byte placed.token equals_sign o is) [ inl e ↦ omega arith | inr e ↦ omega arith ])
closing-mark machine.dot placed is o = absurd (elim (closing-byte placed.token full_stop o is) [ inl e ↦ omega arith | inr e ↦ omega arith ])
closing-mark machine.bang placed is o = absurd (elim (closing-byte placed.token exclamation_mark o is) [ inl e ↦ omega arith | inr e ↦ omega arith ])
closing-mark machine.bar placed is o = absurd (elim (closing-byte placed.token vertical_bar o is) [ inl e ↦ omega arith | inr e ↦ omega arith ])
closing-mark (machine.closing bracket) placed is o = refl
closing-mark (machine.opening machine.round) placed is o = absurd (elim (closing-byte placed.token open_round o is) [ inl e ↦ omega arith | inr e ↦ omega arith ])
closing-mark (machine.opening machine.square) placed is o = absurd (elim (closing-byte placed.token open_square o is) [ inl e ↦ omega arith | inr e ↦ omega arith ])
closing-mark (machine.postfix least most) placed is (inl e) = three-no _ close_round (postfix-no-bracket placed.token least most close_round is e) (inr (inr (inl refl)))
closing-mark (machine.postfix least most) placed is (inr e) = three-no _ close_square (postfix-no-bracket placed.token least most close_square is e) (inr (inr (inr refl)))

-- a postfix sign is one of three bytes, or a repeat
sign-postfix : (token : Token) (c : ℕ) → token ≡ sign c → IsPostfixSign token → (c ≡ asterisk) ⊎ ((c ≡ plus_sign) ⊎ (c ≡ question_mark))
sign-postfix token c e is = subst IsPostfixSign e is

pub postfix-mark : (u : machine.Mark Use) (placed : Placed) → Is u placed → IsPostfixSign placed.token → effect_of_mark u ≡ repeats
postfix-mark (machine.name_of u) placed is o = absurd (subst IsPostfixSign (ap (λ (p : Placed). p.token) is) o)
postfix-mark machine.caret placed is o = absurd (elim (sign-postfix placed.token circumflex is o) [ inl e ↦ omega arith | inr f ↦ elim f [ inl e ↦ omega arith | inr e ↦ omega arith ] ])
postfix-mark machine.equals placed is o = absurd (elim (sign-postfix placed.token equals_sign is o) [ inl e ↦ omega arith | inr f ↦ elim f [ inl e ↦ omega arith | inr e ↦ omega arith ] ])
postfix-mark machine.dot placed is o = absurd (elim (sign-postfix placed.token full_stop is o) [ inl e ↦ omega arith | inr f ↦ elim f [ inl e ↦ omega arith | inr e ↦ omega arith ] ])
postfix-mark machine.bang placed is o = absurd (elim (sign-postfix placed.token exclamation_mark is o) [ inl e ↦ omega arith | inr f ↦ elim f [ inl e ↦ omega arith | inr e ↦ omega arith ] ])
postfix-mark machine.bar placed is o = absurd (elim (sign-postfix placed.token vertical_bar is o) [ inl e ↦ omega arith | inr f ↦ elim f [ inl e ↦ omega arith | inr e ↦ omega arith ] ])
postfix-mark (machine.opening machine.round) placed is o = three-no _ open_round (sign-postfix placed.token open_round is o) (inl refl)
postfix-mark (machine.opening machine.square) placed is o = three-no _ open_square (sign-postfix placed.token open_square is o) (inr (inl refl))
postfix-mark (machine.closing machine.round) placed is o = three-no _ close_round (sign-postfix placed.token close_round is o) (inr (inr (inl refl)))
postfix-mark (machine.closing machine.square) placed is o = three-no _ close_square (sign-postfix placed.token close_square is o) (inr (inr (inr refl)))
postfix-mark (machine.postfix least most) placed is o = refl

-- and the other way round
pub mark-opening : (u : machine.Mark Use) (placed : Placed) → Is u placed → effect_of_mark u ≡ opens → IsOpening placed.token
mark-opening (machine.opening machine.round) placed is e = inl is
mark-opening (machine.opening machine.square) placed is e = inr is
mark-opening (machine.name_of u) placed is e = cc
mark-opening machine.caret placed is e = cc
mark-opening machine.equals placed is e = cc
mark-opening machine.dot placed is e = cc
mark-opening machine.bang placed is e = cc
mark-opening machine.bar placed is e = cc
mark-opening (machine.closing bracket) placed is e = cc
mark-opening (machine.postfix least most) placed is e = cc

pub mark-closing : (u : machine.Mark Use) (placed : Placed) → Is u placed → effect_of_mark u ≡ closes → IsClosing placed.token
mark-closing (machine.closing machine.round) placed is e = inl is
mark-closing (machine.closing machine.square) placed is e = inr is
mark-closing (machine.name_of u) placed is e = cc
mark-closing machine.caret placed is e = cc
mark-closing machine.equals placed is e = cc
mark-closing machine.dot placed is e = cc
mark-closing machine.bang placed is e = cc
mark-closing machine.bar placed is e = cc
mark-closing (machine.opening bracket) placed is e = cc
mark-closing (machine.postfix least most) placed is e = cc

postfix-is-sign : (token : Token) (least : ℕ) (most : Option ℕ) → IsPostfix token least most → IsPostfixSign token
postfix-is-sign (name text) least most is = absurd is
postfix-is-sign (sign c) least most (inl is) = inl is.0
postfix-is-sign (sign c) least most (inr (inl is)) = inr (inl is.0)
postfix-is-sign (sign c) least most (inr (inr is)) = inr (inr is.0)
postfix-is-sign (repeat between) least most is = tt
postfix-is-sign (open_repeat behind) least most is = absurd is

pub mark-postfix : (u : machine.Mark Use) (placed : Placed) → Is u placed → effect_of_mark u ≡ repeats → IsPostfixSign placed.token
mark-postfix (machine.postfix least most) placed is e = postfix-is-sign placed.token least most is
mark-postfix (machine.opening bracket) placed is e = cc
mark-postfix (machine.name_of u) placed is e = cc
mark-postfix machine.caret placed is e = cc
mark-postfix machine.equals placed is e = cc
mark-postfix machine.dot placed is e = cc
mark-postfix machine.bang placed is e = cc
mark-postfix machine.bar placed is e = cc
mark-postfix (machine.closing bracket) placed is e = cc

-- as many brackets are open in a state as behind the tokens that lead there
abbrev depth : State Use → ℕ
depth (state stack choice row last) = length stack

same-depth : (s s' : State Use) → Some s ≡ Some s' → depth s ≡ depth s'
same-depth s s' e = let f : s ≡ s' = cc in ap depth f

last-depth : (stack : List (Frame Use)) (choice : Option (Tree Use)) (row : Option (Option (Tree Use))) (last : Last Use) (s : State Use)
    → with_last stack choice row last ≡ Some s → depth s ≡ length stack
last-depth stack choice None last s e = cc
last-depth stack choice (Some row) last s e = sym (same-depth (state stack choice row last) s e)

name-depth : (stack : List (Frame Use)) (choice row : Option (Tree Use)) (last : Last Use) (u : Use) (s : State Use)
    → with_name stack choice row last u ≡ Some s → depth s ≡ length stack
name-depth stack choice row nothing u s e = last-depth stack choice (begun row nothing) _ s e
name-depth stack choice row excluding u s e = sym (same-depth (state stack choice row _) s e)
name-depth stack choice row (extendable l) u s e = last-depth stack choice (begun row (extendable l)) _ s e
name-depth stack choice row (closed t) u s e = last-depth stack choice (begun row (closed t)) _ s e

extended-depth : (stack : List (Frame Use)) (choice row : Option (Tree Use)) (last : Option (Last Use)) (s : State Use)
    → extended stack choice row last ≡ Some s → depth s ≡ length stack
extended-depth stack choice row None s e = cc
extended-depth stack choice row (Some last) s e = sym (same-depth (state stack choice row last) s e)

bar-depth : (stack : List (Frame Use)) (t : Option (Tree Use)) (s : State Use) → with_bar stack t ≡ Some s → depth s ≡ length stack
bar-depth stack None s e = cc
bar-depth stack (Some t) s e = sym (same-depth (state stack (Some t) None nothing) s e)

opened-depth : (stack : List (Frame Use)) (choice : Option (Tree Use)) (row : Option (Option (Tree Use))) (bracket : machine.Bracket) (s : State Use)
    → opened stack choice row bracket ≡ Some s → depth s ≡ length stack + 1
opened-depth stack choice None bracket s e = cc
opened-depth stack choice (Some row) bracket s e = omega (arith, same-depth (state (frame bracket choice row ∷ stack) None None nothing) s e)

shut-depth : (stack : List (Frame Use)) (t : Option (Tree Use)) (bracket : machine.Bracket) (s : State Use)
    → shut stack t bracket ≡ Some s → length stack ≡ depth s + 1
shut-depth [] None bracket s e = cc
shut-depth [] (Some t) bracket s e = cc
shut-depth (f ∷ stack) None bracket s e = cc
shut-depth (frame machine.round choice row ∷ stack) (Some t) machine.round s e = omega (arith, same-depth (state stack choice row _) s e)
shut-depth (frame machine.square choice row ∷ stack) (Some t) machine.square s e = omega (arith, same-depth (state stack choice row _) s e)
shut-depth (frame machine.round choice row ∷ stack) (Some t) machine.square s e = cc
shut-depth (frame machine.square choice row ∷ stack) (Some t) machine.round s e = cc

repeating-depth : (stack : List (Frame Use)) (choice row t : Option (Tree Use)) (least : ℕ) (most : Option ℕ) (s : State Use)
    → repeating stack choice row t least most ≡ Some s → depth s ≡ length stack
repeating-depth stack choice row None least most s e = cc
repeating-depth stack choice row (Some t) least most s e = sym (same-depth (state stack choice row _) s e)

-- a token that neither opens nor closes
no-opening : (u : machine.Mark Use) (placed : Placed) → Is u placed → (effect_of_mark u ≡ opens → ⊥) → IsOpening placed.token → ⊥
no-opening u placed is never o = never (opening-mark u placed is o)

no-closing : (u : machine.Mark Use) (placed : Placed) → Is u placed → (effect_of_mark u ≡ closes → ⊥) → IsClosing placed.token → ⊥
no-closing u placed is never o = never (closing-mark u placed is o)

plain-step : (u : machine.Mark Use) (placed : Placed) (tokens : List Placed) (m n : ℕ) → Is u placed → effect_of_mark u ≡ plain → n ≡ m → AreOpen tokens m → AreOpen (tokens ++ placed ∷ []) n
plain-step u placed tokens m n is e same are =
    subst (AreOpen (tokens ++ placed ∷ [])) (sym same)
    (as_many placed are (no-opening u placed is λ o. let wrong : plain ≡ opens = sym e ∙ o in cc) (no-closing u placed is λ o. let wrong : plain ≡ closes = sym e ∙ o in cc))

step-open : (u : machine.Mark Use) (placed : Placed) (tokens : List Placed) (s s' : State Use) → Is u placed → next s u ≡ Some s'
    → AreOpen tokens (depth s) → AreOpen (tokens ++ placed ∷ []) (depth s')
step-open (machine.name_of u) placed tokens (state stack choice row last) s' is e are =
    plain-step (machine.name_of u) placed tokens (length stack) (depth s') is refl (name-depth stack choice row last u s' e) are
step-open machine.caret placed tokens (state stack choice row last) s' is e are =
    plain-step machine.caret placed tokens (length stack) (depth s') is refl (extended-depth stack choice row (with_caret last) s' e) are
step-open machine.equals placed tokens (state stack choice row last) s' is e are =
    plain-step machine.equals placed tokens (length stack) (depth s') is refl (extended-depth stack choice row (with_equals last) s' e) are
step-open machine.dot placed tokens (state stack choice row last) s' is e are =
    plain-step machine.dot placed tokens (length stack) (depth s') is refl (last-depth stack choice (begun row last) _ s' e) are
step-open machine.bang placed tokens (state stack choice row last) s' is e are =
    plain-step machine.bang placed tokens (length stack) (depth s') is refl (last-depth stack choice (begun row last) _ s' e) are
step-open machine.bar placed tokens (state stack choice row last) s' is e are =
    plain-step machine.bar placed tokens (length stack) (depth s') is refl (bar-depth stack (finished choice row last) s' e) are
step-open (machine.opening bracket) placed tokens (state stack choice row last) s' is e are =
    subst (AreOpen (tokens ++ placed ∷ [])) (sym (opened-depth stack choice (begun row last) bracket s' e))
    (one_more placed are (mark-opening (machine.opening bracket) placed is refl))
step-open (machine.closing bracket) placed tokens (state stack choice row last) s' is e are =
    one_less placed (subst (AreOpen tokens) (shut-depth stack (finished choice row last) bracket s' e) are) (closes-it bracket is)
  where
    closes-it : (bracket : machine.Bracket) → Is (machine.closing bracket) placed → IsClosing placed.token
    closes-it machine.round is = inl is
    closes-it machine.square is = inr is
step-open (machine.postfix least most) placed tokens (state stack choice row last) s' is e are =
    subst (AreOpen (tokens ++ placed ∷ [])) (sym (repeating-depth stack choice row (tree_of_last last) least most s' e))
    (as_many placed are (no-opening (machine.postfix least most) placed is λ o. cc) (no-closing (machine.postfix least most) placed is λ o. cc))

run-open : (tokens : List Placed) (marks : List (machine.Mark Use)) (s s' : State Use) (read : List Placed) → AreMarks tokens marks → run (Some s) marks ≡ Some s'
    → AreOpen read (depth s) → AreOpen (read ++ tokens) (depth s')
run-open [] [] s s' read are ran opened = subst (AreOpen (read ++ [])) (same-depth s s' ran) (subst (λ xs. AreOpen xs (depth s)) (sym (append-nil read)) opened)
run-open [] (m ∷ marks) s s' read are ran opened = absurd are
run-open (t ∷ tokens) [] s s' read are ran opened = absurd are
run-open (t ∷ tokens) (m ∷ marks) s s' read are ran opened = goes (λ s2 ran' opened'. run-open tokens marks s2 s' (read ++ t ∷ []) are.1 ran' opened') (next s m) refl ran
  where
    goes : ((s2 : State Use) → run (Some s2) marks ≡ Some s' → AreOpen (read ++ t ∷ []) (depth s2) → AreOpen ((read ++ t ∷ []) ++ tokens) (depth s'))
        → (o : Option (State Use)) → next s m ≡ o → run o marks ≡ Some s' → AreOpen (read ++ t ∷ tokens) (depth s')
    goes further None was ran' = let none = run-none marks in cc
    goes further (Some s2) was ran' =
        subst (λ xs. AreOpen xs (depth s')) (append_assoc read (t ∷ []) tokens) (further s2 ran' (step-open m t read s s2 are.0 was opened))

-- so many brackets are open behind tokens that the machine reads
pub reaches-open : (tokens : List Placed) (s : State Use) → Reaches tokens s → (n : ℕ) × AreOpen tokens n
reaches-open tokens s (marks, are, ran) = (depth s, run-open tokens marks initial s [] are ran none)

-- counted as they were read
one-effect : (f : Item → Use) (placed : Placed) (read : ReadToken) → MeansMark f placed read
    → (u : machine.Mark Use) × Is u placed × (effect_of_mark u ≡ effect_of read.kind)
one-effect f placed read (column, mark, is, means) =
    (mark_by f (mark_of mark), means, effect-by f mark ∙ sym (ap effect_of is))

open-after-push : (reads : List ReadToken) (read : ReadToken) → open_after (reads ++ read ∷ []) ≡ open_step (open_after reads) (effect_of read.kind)
open-after-push reads read = fold-append (λ (n : ℕ) (r : ReadToken). open_step n (effect_of r.kind)) 0 reads (read ∷ [])

step-plain : (n : ℕ) (effect : Effect) → (effect ≡ opens → ⊥) → (effect ≡ closes → ⊥) → open_step n effect ≡ n
step-plain n opens never never2 = absurd (never refl)
step-plain n closes never never2 = absurd (never2 refl)
step-plain n repeats never never2 = refl
step-plain n plain never never2 = refl

-- the last of tokens, and of how they were read
pairs-last : (f : Item → Use) (tokens : List Placed) (last : Placed) (reads : List ReadToken) → Pairwise (MeansMark f) (tokens ++ last ∷ []) reads
    → (before : List ReadToken) × (read : ReadToken) × (reads ≡ before ++ read ∷ []) × Pairwise (MeansMark f) tokens before × MeansMark f last read
pairs-last f [] last [] pairs = absurd pairs
pairs-last f [] last (r ∷ []) pairs = ([], r, refl, tt, pairs.0)
pairs-last f [] last (r ∷ q ∷ reads) pairs = absurd pairs.1
pairs-last f (t ∷ tokens) last [] pairs = absurd pairs
pairs-last f (t ∷ tokens) last (r ∷ reads) pairs =
    let (before, read, same, first, here) = pairs-last f tokens last reads pairs.1 in
    (r ∷ before, read, ap (λ xs. r ∷ xs) same, (pairs.0, first), here)

pub open-count : (f : Item → Use) (tokens : List Placed) (n : ℕ) → AreOpen tokens n → (reads : List ReadToken) → Pairwise (MeansMark f) tokens reads → open_after reads ≡ n
open-count f tokens n none [] pairs = refl
open-count f tokens n none (r ∷ reads) pairs = absurd pairs
open-count f tokens n (one_more last are opening) reads pairs =
    let (before, read, same, first, here) = pairs-last f _ last reads pairs in
    let (u, is, effect) = one-effect f last read here in
    let e : effect_of read.kind ≡ opens = sym effect ∙ opening-mark u last is opening in
    ap open_after same ∙ open-after-push before read ∙ ap (open_step (open_after before)) e ∙ ap (λ k. k + 1) (open-count f _ _ are before first)
open-count f tokens n (one_less last are closing) reads pairs =
    let (before, read, same, first, here) = pairs-last f _ last reads pairs in
    let (u, is, effect) = one-effect f last read here in
    let e : effect_of read.kind ≡ closes = sym effect ∙ closing-mark u last is closing in
    let count : open_after before ≡ n + 1 = open-count f _ _ are before first in
    ap open_after same ∙ open-after-push before read ∙ ap (open_step (open_after before)) e ∙ omega (arith, count)
open-count f tokens n (as_many last are not_open not_close) reads pairs =
    let (before, read, same, first, here) = pairs-last f _ last reads pairs in
    let (u, is, effect) = one-effect f last read here in
    let never : effect_of read.kind ≡ opens → ⊥ = λ e. not_open (mark-opening u last is (effect ∙ e)) in
    let never' : effect_of read.kind ≡ closes → ⊥ = λ e. not_close (mark-closing u last is (effect ∙ e)) in
    ap open_after same ∙ open-after-push before read ∙ step-plain (open_after before) (effect_of read.kind) never never' ∙ open-count f _ _ are before first

-- postfix signs in a row

signs-from : (f : Item → Use) (front signs tokens : List Placed) (reads : List ReadToken) (n : ℕ) → length signs ≡ n → All (λ p. IsPostfixSign p.token) signs
    → Pairwise (MeansMark f) tokens reads
    → (before last : List Placed) × ((front ++ signs) ++ tokens ≡ before ++ last) × (length last ≡ fold (λ k read. signs_step k (effect_of read.kind)) n reads) × All (λ p. IsPostfixSign p.token) last
signs-from f front signs [] [] n count all pairs = (front, signs, append-nil (front ++ signs), count, all)
signs-from f front signs [] (r ∷ reads) n count all pairs = absurd pairs
signs-from f front signs (t ∷ tokens) [] n count all pairs = absurd pairs
signs-from f front signs (t ∷ tokens) (r ∷ reads) n count all pairs =
    let (u, is, effect) = one-effect f t r pairs.0 in
    by-effect (effect_of r.kind) refl (λ e. mark-postfix u t is (effect ∙ e))
    (λ k signs' count' all'. signs-from f front signs' tokens reads k count' all' pairs.1)
    (signs-from f ((front ++ signs) ++ t ∷ []) [] tokens reads 0 refl (All-nil (λ p. IsPostfixSign p.token)) pairs.1)
  where
    Found : List Placed → ℕ → Type 0
    Found whole k = (before last : List Placed) × (whole ≡ before ++ last) × (length last ≡ fold (λ j read. signs_step j (effect_of read.kind)) k reads) × All (λ p. IsPostfixSign p.token) last

    moved : (whole whole' : List Placed) (k k' : ℕ) → whole ≡ whole' → k ≡ k' → ((before last : List Placed) × (whole ≡ before ++ last) × (length last ≡ fold (λ j read. signs_step j (effect_of read.kind)) k reads) × All (λ p. IsPostfixSign p.token) last)
        → (before last : List Placed) × (whole' ≡ before ++ last) × (length last ≡ fold (λ j read. signs_step j (effect_of read.kind)) k' reads) × All (λ p. IsPostfixSign p.token) last
    moved whole whole' k k' p q (before, last, same, count', all') =
        (before, last, sym p ∙ same, count' ∙ ap (λ j. fold (λ i read. signs_step i (effect_of read.kind)) j reads) q, all')

    one-sign-more : (xs ys zs : List Placed) (x : Placed) → (xs ++ (ys ++ x ∷ [])) ++ zs ≡ (xs ++ ys) ++ x ∷ zs
    one-sign-more xs ys zs x = simp append_assoc

    none-more : (xs zs : List Placed) (x : Placed) → ((xs ++ x ∷ []) ++ []) ++ zs ≡ xs ++ x ∷ zs
    none-more xs zs x = simp (append-nil, append_assoc)

    by-effect : (e : Effect) → effect_of r.kind ≡ e → (effect_of r.kind ≡ repeats → IsPostfixSign t.token)
        → ((k : ℕ) (signs' : List Placed) → length signs' ≡ k → All (λ p. IsPostfixSign p.token) signs'
        → (before last : List Placed) × ((front ++ signs') ++ tokens ≡ before ++ last) × (length last ≡ fold (λ j read. signs_step j (effect_of read.kind)) k reads) × All (λ p. IsPostfixSign p.token) last)
        → ((before last : List Placed) × ((((front ++ signs) ++ t ∷ []) ++ []) ++ tokens ≡ before ++ last) × (length last ≡ fold (λ j read. signs_step j (effect_of read.kind)) 0 reads) × All (λ p. IsPostfixSign p.token) last)
        → (before last : List Placed) × ((front ++ signs) ++ t ∷ tokens ≡ before ++ last)
        × (length last ≡ fold (λ k read. signs_step k (effect_of read.kind)) (signs_step n (effect_of r.kind)) reads) × All (λ p. IsPostfixSign p.token) last
    by-effect repeats e postfix more none' =
        moved ((front ++ (signs ++ t ∷ [])) ++ tokens) ((front ++ signs) ++ t ∷ tokens) (n + 1) (signs_step n (effect_of r.kind)) (one-sign-more front signs tokens t) (sym (ap (signs_step n) e))
        (more (n + 1) (signs ++ t ∷ []) (omega (arith, length-append signs (t ∷ []), count)) (All-push (λ p. IsPostfixSign p.token) signs t all (postfix e)))
    by-effect opens e postfix more none' =
        moved ((((front ++ signs) ++ t ∷ []) ++ []) ++ tokens) ((front ++ signs) ++ t ∷ tokens) 0 (signs_step n (effect_of r.kind)) (none-more (front ++ signs) tokens t) (sym (ap (signs_step n) e)) none'
    by-effect closes e postfix more none' =
        moved ((((front ++ signs) ++ t ∷ []) ++ []) ++ tokens) ((front ++ signs) ++ t ∷ tokens) 0 (signs_step n (effect_of r.kind)) (none-more (front ++ signs) tokens t) (sym (ap (signs_step n) e)) none'
    by-effect plain e postfix more none' =
        moved ((((front ++ signs) ++ t ∷ []) ++ []) ++ tokens) ((front ++ signs) ++ t ∷ tokens) 0 (signs_step n (effect_of r.kind)) (none-more (front ++ signs) tokens t) (sym (ap (signs_step n) e)) none'

-- many signs stand last, where many were counted
pub many-signs : (f : Item → Use) (tokens : List Placed) (reads : List ReadToken) → Pairwise (MeansMark f) tokens reads → most_nested ≤ signs_after reads
    → (front signs : List Placed) × (tokens ≡ front ++ signs) × (length signs ≡ most_nested) × All (λ p. IsPostfixSign p.token) signs
many-signs f tokens reads pairs many =
    let (before, last, same, count, all) = signs-from f [] [] tokens reads 0 refl (All-nil (λ p. IsPostfixSign p.token)) pairs in
    let k : ℕ = length last - most_nested in (
      before ++ take k last,
      drop k last,
      same ∙ ap (λ xs. before ++ xs) (sym (take-append-drop k last)) ∙ sym (append_assoc before (take k last) (drop k last)),
      length-drop k last ∙ omega (arith, count, many),
      All-drop (λ p. IsPostfixSign p.token) k last all,
    )

-- and the other way round
pub Pairwise-cut : {X Y : Type 0} (R : X → Y → Type 0) (xs more : List X) (ys : List Y) → Pairwise R (xs ++ more) ys
    → (first second : List Y) × (ys ≡ first ++ second) × Pairwise R xs first × Pairwise R more second
Pairwise-cut R [] more ys pairs = ([], ys, refl, tt, pairs)
Pairwise-cut R (x ∷ xs) more [] pairs = absurd pairs
Pairwise-cut R (x ∷ xs) more (y ∷ ys) pairs =
    let (first, second, same, one, two) = Pairwise-cut R xs more ys pairs.1 in
    (y ∷ first, second, ap (λ zs. y ∷ zs) same, (pairs.0, one), two)

signs-count : (f : Item → Use) (signs : List Placed) (reads : List ReadToken) (n : ℕ) → All (λ p. IsPostfixSign p.token) signs → Pairwise (MeansMark f) signs reads
    → fold (λ k read. signs_step k (effect_of read.kind)) n reads ≡ n + length signs
signs-count f [] [] n all pairs = omega arith
signs-count f [] (r ∷ reads) n all pairs = absurd pairs
signs-count f (p ∷ signs) [] n all pairs = absurd pairs
signs-count f (p ∷ signs) (r ∷ reads) n all pairs =
    let (u, is, effect) = one-effect f p r pairs.0 in
    let e : effect_of r.kind ≡ repeats = sym effect ∙ postfix-mark u p is (all 0 p (omega arith)) in
    ap (λ j. fold (λ k read. signs_step k (effect_of read.kind)) j reads) (ap (signs_step n) e)
    ∙ signs-count f signs reads (n + 1) (λ k d less. all (suc k) d (omega arith)) pairs.1 ∙ omega arith

pub signs-many : (f : Item → Use) (front signs tokens : List Placed) (reads : List ReadToken) → tokens ≡ front ++ signs → length signs ≡ most_nested
    → All (λ p. IsPostfixSign p.token) signs → Pairwise (MeansMark f) tokens reads → most_nested ≤ signs_after reads
signs-many f front signs tokens reads same count all pairs =
    let (first, second, cut, one, two) = Pairwise-cut (MeansMark f) front signs reads (subst (λ xs. Pairwise (MeansMark f) xs reads) same pairs) in
    let many = signs-count f signs second (signs_after first) all two in
    let whole : signs_after reads ≡ signs_after first + length signs =
    ap signs_after cut ∙ fold-append (λ (k : ℕ) (read : ReadToken). signs_step k (effect_of read.kind)) 0 first second ∙ many in
    omega (arith, whole, count)

-- a token is too deep just when it was read so
pub deep-there : (f : Item → Use) (tokens : List Placed) (placed : Placed) (reads : List ReadToken) (read : ReadToken) → (n : ℕ) × AreOpen tokens n
    → Pairwise (MeansMark f) tokens reads → MeansMark f placed read → IsTooDeepRead reads read → IsTooDeepAfter tokens placed
deep-there f tokens placed reads read (n, are) pairs means (inl (e, many)) =
    let (u, is, effect) = one-effect f placed read means in
    inl (mark-opening u placed is (effect ∙ e), n, are, subst (λ k. most_nested ≤ k) (open-count f tokens n are reads pairs) many)
deep-there f tokens placed reads read (n, are) pairs means (inr (e, many)) =
    let (u, is, effect) = one-effect f placed read means in
    inr (mark-postfix u placed is (effect ∙ e), many-signs f tokens reads pairs many)

pub deep-back : (f : Item → Use) (tokens : List Placed) (placed : Placed) (reads : List ReadToken) (read : ReadToken)
    → Pairwise (MeansMark f) tokens reads → MeansMark f placed read → IsTooDeepAfter tokens placed → IsTooDeepRead reads read
deep-back f tokens placed reads read pairs means (inl (opening, n, are, many)) =
    let (u, is, effect) = one-effect f placed read means in
    inl (sym effect ∙ opening-mark u placed is opening, subst (λ k. most_nested ≤ k) (sym (open-count f tokens n are reads pairs)) many)
deep-back f tokens placed reads read pairs means (inr (postfix, (front, signs, same, count, all))) =
    let (u, is, effect) = one-effect f placed read means in
    inr (sym effect ∙ postfix-mark u placed is postfix, signs-many f front signs tokens reads same count all pairs)
