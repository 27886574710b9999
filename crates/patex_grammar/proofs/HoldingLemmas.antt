-- Each state holds what the machine has read.
use Rattle.std.proofs.Common.{◌≡◌, ℕ, Option, Some, None, List, [], ◌∷◌, ◌++◌, refl, sym, ap, ◌∙◌, subst, append_assoc}
use Rattle.std.proofs.lemmas.List.{append-nil}
use Rattle.mine_model.specs.Bytes.{exclamation_mark, open_round, close_round, equals_sign, full_stop, open_square, close_square, circumflex, vertical_bar}
use Rattle.mine_model.specs.Tokens.{sign, Placed}
use Rattle.mine_model.specs.Grammar.{expression, concatenation, repetition, item, Use, IsPostfix, at, named, Reads, as_concatenation, alternation, as_repetition, in_a_row, as_atom, repeated, as_item, capture, group, as_under, as_exact, as_climb, as_forced, as_not_under, as_not_exact, as_any, as_any_climb}
use Rattle.mine_model.specs.Expression.{Leaf, under, exact, climb, forced, not_under, not_exact, any, any_climb, Tree, leaf, rep, cap}
use Rattle.patex_grammar.specs.Machine.{Bracket, round, square, Mark, name_of, caret, equals, dot, bang, bar, opening, closing, postfix, Is, AreMarks, Last, nothing, excluding, extendable, closed, Frame, frame, State, state, row_with, choice_with, tree_of_last, begun, finished, with_last, with_name, with_caret, with_equals, extended, with_bar, opened, shut, repeating, next, run}
use Rattle.patex_grammar.specs.Holding.{IsLeaf, IsLast, IsRowBefore, IsChoiceBefore, IsStack, Holds}

leaf-reads : (l : Leaf Use) (tokens : List Placed) → IsLeaf l tokens → Reads item tokens (leaf l)
leaf-reads (under u) tokens is = as_under u is refl
leaf-reads (exact u) tokens is = as_exact u is.0 is.1 refl
leaf-reads (climb u) tokens is = as_climb u is.0 is.1 refl
leaf-reads (forced u) tokens is = as_forced u is.0 is.1 is.2 refl
leaf-reads (not_under u) tokens is = as_not_under is.0 u is.1 refl
leaf-reads (not_exact u) tokens is = as_not_exact is.0 u is.1 is.2 refl
leaf-reads any tokens is = as_any is.0 is.1 refl
leaf-reads any_climb tokens is = as_any_climb is.0 is.1 is.2 refl

-- the last operand reads as a repetition
last-reads : (last : Last Use) (t : Tree Use) (tokens : List Placed) → tree_of_last last ≡ Some t → IsLast last tokens → Reads repetition tokens t
last-reads nothing t tokens same is = cc
last-reads excluding t tokens same is = cc
last-reads (extendable l) t tokens same is =
    let e : leaf l ≡ t = cc in
    subst (Reads repetition tokens) e (as_atom (as_item (leaf-reads l tokens is)))
last-reads (closed u) t tokens same is = let e : u ≡ t = cc in subst (Reads repetition tokens) e is

row-reads : (row : Option (Tree Use)) (t : Tree Use) (c d : List Placed) → IsRowBefore row c → Reads repetition d t → Reads concatenation (c ++ d) (row_with row t)
row-reads None t c d is reads = subst (λ x. Reads concatenation (x ++ d) t) (sym is) (as_repetition reads)
row-reads (Some left) t c d is reads = in_a_row c d left t refl refl is reads

choice-reads : (choice : Option (Tree Use)) (t : Tree Use) (b e : List Placed) → IsChoiceBefore choice b → Reads concatenation e t → Reads expression (b ++ e) (choice_with choice t)
choice-reads None t b e is reads = subst (λ x. Reads expression (x ++ e) t) (sym is) (as_concatenation reads)
choice-reads (Some left) t b e (before, k, same, first) reads =
    alternation before k e left t (ap (λ x. x ++ e) same ∙ append_assoc before (at k (sign vertical_bar) ∷ []) e) refl first reads

pub finished-reads : (choice row : Option (Tree Use)) (last : Last Use) (t : Tree Use) (b c d : List Placed)
    → finished choice row last ≡ Some t → IsChoiceBefore choice b → IsRowBefore row c → IsLast last d → Reads expression (b ++ (c ++ d)) t
finished-reads choice row nothing t b c d same is_choice is_row is_last = cc
finished-reads choice row excluding t b c d same is_choice is_row is_last = cc
finished-reads choice row (extendable l) t b c d same is_choice is_row is_last =
    let e : choice_with choice (row_with row (leaf l)) ≡ t = cc in
    subst (Reads expression (b ++ (c ++ d))) e
    (choice-reads choice (row_with row (leaf l)) b (c ++ d) is_choice (row-reads row (leaf l) c d is_row (last-reads (extendable l) (leaf l) d refl is_last)))
finished-reads choice row (closed u) t b c d same is_choice is_row is_last =
    let e : choice_with choice (row_with row u) ≡ t = cc in
    subst (Reads expression (b ++ (c ++ d))) e (choice-reads choice (row_with row u) b (c ++ d) is_choice (row-reads row u c d is_row is_last))

begun-holds : (row row' : Option (Tree Use)) (last : Last Use) (c d : List Placed) → begun row last ≡ Some row' → IsRowBefore row c → IsLast last d → IsRowBefore row' (c ++ d)
begun-holds row row' nothing c d same is_row is_last =
    let e : row ≡ row' = cc in
    subst (λ r. IsRowBefore r (c ++ d)) e (subst (IsRowBefore row) (sym (ap (λ x. c ++ x) is_last ∙ append-nil c)) is_row)
begun-holds row row' excluding c d same is_row is_last = cc
begun-holds row row' (extendable l) c d same is_row is_last =
    let e : Some (row_with row (leaf l)) ≡ row' = cc in
    subst (λ r. IsRowBefore r (c ++ d)) e (row-reads row (leaf l) c d is_row (last-reads (extendable l) (leaf l) d refl is_last))
begun-holds row row' (closed t) c d same is_row is_last =
    let e : Some (row_with row t) ≡ row' = cc in
    subst (λ r. IsRowBefore r (c ++ d)) e (row-reads row t c d is_row is_last)

same-state : (s s' : State Use) (tokens : List Placed) → Some s ≡ Some s' → Holds s tokens → Holds s' tokens
same-state s s' tokens same holds = let e : s ≡ s' = cc in subst (λ x. Holds x tokens) e holds

-- one more operand, of one token
one-more : (stack : List (Frame Use)) (choice row : Option (Tree Use)) (last last' : Last Use) (s : State Use) (tokens : List Placed) (token : Placed)
    → with_last stack choice (begun row last) last' ≡ Some s → IsLast last' (token ∷ []) → Holds (state stack choice row last) tokens → Holds s (tokens ++ token ∷ [])
one-more stack choice row last last' s tokens token same is (a, b, c, d, cut, is_stack, is_choice, is_row, is_last) = begins (begun row last) refl same
  where
    begins : (r : Option (Option (Tree Use))) → begun row last ≡ r → with_last stack choice r last' ≡ Some s → Holds s (tokens ++ token ∷ [])
    begins None was same' = cc
    begins (Some row') was same' =
        same-state (state stack choice row' last') s (tokens ++ token ∷ []) same' (
          a,
          b,
          c ++ d,
          token ∷ [],
          ap (λ x. x ++ token ∷ []) cut ∙ simp append_assoc,
          is_stack,
          is_choice,
          begun-holds row row' last c d was is_row is_last,
          is,
        )

-- the last item goes on by one token
goes-on : (stack : List (Frame Use)) (choice row : Option (Tree Use)) (last last' : Last Use) (s : State Use) (tokens : List Placed) (token : Placed)
    → Some (state stack choice row last') ≡ Some s → ((d : List Placed) → IsLast last d → IsLast last' (d ++ token ∷ []))
    → Holds (state stack choice row last) tokens → Holds s (tokens ++ token ∷ [])
goes-on stack choice row last last' s tokens token same goes (a, b, c, d, cut, is_stack, is_choice, is_row, is_last) =
    same-state (state stack choice row last') s (tokens ++ token ∷ []) same (
      a,
      b,
      c,
      d ++ token ∷ [],
      ap (λ x. x ++ token ∷ []) cut ∙ simp append_assoc,
      is_stack,
      is_choice,
      is_row,
      goes d is_last,
    )

-- a token with this sign
placed-sign : (token : Placed) (b : ℕ) → token.token ≡ sign b → token ≡ at token.column (sign b)
placed-sign token b is = ap (at token.column) is

one-sign : (token : Placed) (b : ℕ) → token.token ≡ sign b → token ∷ [] ≡ at token.column (sign b) ∷ []
one-sign token b is = ap (λ x. x ∷ []) (placed-sign token b is)

-- tokens that are known, and one more
more-sign : (d e : List Placed) (token : Placed) (b : ℕ) → d ≡ e → token.token ≡ sign b → d ++ token ∷ [] ≡ e ++ at token.column (sign b) ∷ []
more-sign d e token b same is = ap (λ x. x ++ token ∷ []) same ∙ ap (λ x. e ++ x ∷ []) (placed-sign token b is)

name-holds : (stack : List (Frame Use)) (choice row : Option (Tree Use)) (last : Last Use) (u : Use) (s : State Use) (tokens : List Placed) (token : Placed)
    → with_name stack choice row last u ≡ Some s → token ≡ named u → Holds (state stack choice row last) tokens → Holds s (tokens ++ token ∷ [])
name-holds stack choice row nothing u s tokens token same is holds =
    one-more stack choice row nothing (extendable (under u)) s tokens token same (ap (λ x. x ∷ []) is) holds
name-holds stack choice row (extendable l) u s tokens token same is holds =
    one-more stack choice row (extendable l) (extendable (under u)) s tokens token same (ap (λ x. x ∷ []) is) holds
name-holds stack choice row (closed t) u s tokens token same is holds =
    one-more stack choice row (closed t) (extendable (under u)) s tokens token same (ap (λ x. x ∷ []) is) holds
name-holds stack choice row excluding u s tokens token same is holds =
    goes-on stack choice row excluding (extendable (not_under u)) s tokens token same
    (λ d last. (last.0, ap (λ x. x ++ token ∷ []) last.1 ∙ ap (λ x. at last.0 (sign exclamation_mark) ∷ x ∷ []) is)) holds

caret-holds : (stack : List (Frame Use)) (choice row : Option (Tree Use)) (last : Last Use) (s : State Use) (tokens : List Placed) (token : Placed)
    → extended stack choice row (with_caret last) ≡ Some s → token.token ≡ sign circumflex → Holds (state stack choice row last) tokens → Holds s (tokens ++ token ∷ [])
caret-holds stack choice row (extendable (under u)) s tokens token same is holds =
    goes-on stack choice row (extendable (under u)) (extendable (climb u)) s tokens token same
    (λ d last. (token.column, more-sign d (named u ∷ []) token circumflex last is)) holds
caret-holds stack choice row (extendable any) s tokens token same is holds =
    goes-on stack choice row (extendable any) (extendable any_climb) s tokens token same
    (λ d last. (last.0, token.column, more-sign d (at last.0 (sign full_stop) ∷ []) token circumflex last.1 is)) holds
caret-holds stack choice row last s tokens token same is holds = cc

equals-holds : (stack : List (Frame Use)) (choice row : Option (Tree Use)) (last : Last Use) (s : State Use) (tokens : List Placed) (token : Placed)
    → extended stack choice row (with_equals last) ≡ Some s → token.token ≡ sign equals_sign → Holds (state stack choice row last) tokens → Holds s (tokens ++ token ∷ [])
equals-holds stack choice row (extendable (under u)) s tokens token same is holds =
    goes-on stack choice row (extendable (under u)) (extendable (exact u)) s tokens token same
    (λ d last. (token.column, more-sign d (named u ∷ []) token equals_sign last is)) holds
equals-holds stack choice row (extendable (climb u)) s tokens token same is holds =
    goes-on stack choice row (extendable (climb u)) (extendable (forced u)) s tokens token same
    (λ d last. (last.0, token.column, more-sign d (named u ∷ at last.0 (sign circumflex) ∷ []) token equals_sign last.1 is)) holds
equals-holds stack choice row (extendable (not_under u)) s tokens token same is holds =
    goes-on stack choice row (extendable (not_under u)) (extendable (not_exact u)) s tokens token same
    (λ d last. (last.0, token.column, more-sign d (at last.0 (sign exclamation_mark) ∷ named u ∷ []) token equals_sign last.1 is)) holds
equals-holds stack choice row last s tokens token same is holds = cc

bar-holds : (stack : List (Frame Use)) (choice row : Option (Tree Use)) (last : Last Use) (s : State Use) (tokens : List Placed) (token : Placed)
    → with_bar stack (finished choice row last) ≡ Some s → token.token ≡ sign vertical_bar → Holds (state stack choice row last) tokens → Holds s (tokens ++ token ∷ [])
bar-holds stack choice row last s tokens token same is (a, b, c, d, cut, is_stack, is_choice, is_row, is_last) = ends (finished choice row last) refl same
  where
    ends : (f : Option (Tree Use)) → finished choice row last ≡ f → with_bar stack f ≡ Some s → Holds s (tokens ++ token ∷ [])
    ends None was same' = cc
    ends (Some t) was same' =
        same-state (state stack (Some t) None nothing) s (tokens ++ token ∷ []) same' (
          a,
          (b ++ (c ++ d)) ++ token ∷ [],
          [],
          [],
          ap (λ x. x ++ token ∷ []) cut ∙ append_assoc a (b ++ (c ++ d)) (token ∷ []) ∙ ap (λ x. a ++ x) (sym (append-nil ((b ++ (c ++ d)) ++ token ∷ []))),
          is_stack,
          (b ++ (c ++ d), token.column, ap (λ x. (b ++ (c ++ d)) ++ x ∷ []) (placed-sign token vertical_bar is), finished-reads choice row last t b c d was is_choice is_row is_last),
          refl,
          refl,
        )

opening-holds : (stack : List (Frame Use)) (choice row : Option (Tree Use)) (last : Last Use) (bracket : Bracket) (s : State Use) (tokens : List Placed) (token : Placed)
    → opened stack choice (begun row last) bracket ≡ Some s → Is (opening bracket) token → Holds (state stack choice row last) tokens → Holds s (tokens ++ token ∷ [])
opening-holds stack choice row last bracket s tokens token same is (a, b, c, d, cut, is_stack, is_choice, is_row, is_last) = begins (begun row last) refl same
  where
    begins : (r : Option (Option (Tree Use))) → begun row last ≡ r → opened stack choice r bracket ≡ Some s → Holds s (tokens ++ token ∷ [])
    begins None was same' = cc
    begins (Some row') was same' =
        same-state (state (frame bracket choice row' ∷ stack) None None nothing) s (tokens ++ token ∷ []) same' (
          tokens ++ token ∷ [],
          [],
          [],
          [],
          sym (append-nil (tokens ++ token ∷ [])),
          (a, b, c ++ d, token, ap (λ x. x ++ token ∷ []) cut ∙ simp append_assoc, is_stack, is_choice, begun-holds row row' last c d was is_row is_last, is),
          refl,
          refl,
          refl,
        )

-- a bracket that closes
shut-tokens : (a b c e tokens : List Placed) (open_token token : Placed)
    → tokens ≡ (a ++ (b ++ (c ++ open_token ∷ []))) ++ e → tokens ++ token ∷ [] ≡ a ++ (b ++ (c ++ (open_token ∷ e ++ token ∷ [])))
shut-tokens a b c e tokens open_token token same = ap (λ x. x ++ token ∷ []) same ∙ simp append_assoc

bracketed : (e : List Placed) (open_token token : Placed) (x y : ℕ) → open_token.token ≡ sign x → token.token ≡ sign y
    → open_token ∷ e ++ token ∷ [] ≡ at open_token.column (sign x) ∷ e ++ at token.column (sign y) ∷ []
bracketed e open_token token x y p q = ap (λ z. z ∷ e ++ token ∷ []) (placed-sign open_token x p) ∙ ap (λ z. at open_token.column (sign x) ∷ e ++ z ∷ []) (placed-sign token y q)

shut-holds : (stack : List (Frame Use)) (t : Tree Use) (bracket : Bracket) (s : State Use) (tokens before e : List Placed) (token : Placed)
    → shut stack (Some t) bracket ≡ Some s → Is (closing bracket) token → tokens ≡ before ++ e → IsStack stack before → Reads expression e t → Holds s (tokens ++ token ∷ [])
shut-holds [] t bracket s tokens before e token same is cut is_stack reads = cc
shut-holds (frame round choice row ∷ stack) t round s tokens before e token same is cut (a, b, c, open_token, cut', is_stack, is_choice, is_row, opens) reads =
    same-state (state stack choice row (closed (cap t))) s (tokens ++ token ∷ []) same (
      a,
      b,
      c,
      open_token ∷ e ++ token ∷ [],
      shut-tokens a b c e tokens open_token token (cut ∙ ap (λ x. x ++ e) cut'),
      is_stack,
      is_choice,
      is_row,
      as_atom (capture open_token.column e token.column t (bracketed e open_token token open_round close_round opens is) refl reads),
    )
shut-holds (frame square choice row ∷ stack) t square s tokens before e token same is cut (a, b, c, open_token, cut', is_stack, is_choice, is_row, opens) reads =
    same-state (state stack choice row (closed t)) s (tokens ++ token ∷ []) same (
      a,
      b,
      c,
      open_token ∷ e ++ token ∷ [],
      shut-tokens a b c e tokens open_token token (cut ∙ ap (λ x. x ++ e) cut'),
      is_stack,
      is_choice,
      is_row,
      as_atom (group open_token.column e token.column (bracketed e open_token token open_square close_square opens is) reads),
    )
shut-holds (frame round choice row ∷ stack) t square s tokens before e token same is cut is_stack reads = cc
shut-holds (frame square choice row ∷ stack) t round s tokens before e token same is cut is_stack reads = cc

closing-holds : (stack : List (Frame Use)) (choice row : Option (Tree Use)) (last : Last Use) (bracket : Bracket) (s : State Use) (tokens : List Placed) (token : Placed)
    → shut stack (finished choice row last) bracket ≡ Some s → Is (closing bracket) token → Holds (state stack choice row last) tokens → Holds s (tokens ++ token ∷ [])
closing-holds stack choice row last bracket s tokens token same is (a, b, c, d, cut, is_stack, is_choice, is_row, is_last) = ends (finished choice row last) refl same
  where
    none : (stack : List (Frame Use)) → shut stack None bracket ≡ Some s → Holds s (tokens ++ token ∷ [])
    none [] same' = cc
    none (f ∷ stack) same' = cc

    ends : (f : Option (Tree Use)) → finished choice row last ≡ f → shut stack f bracket ≡ Some s → Holds s (tokens ++ token ∷ [])
    ends None was same' = none stack same'
    ends (Some t) was same' = shut-holds stack t bracket s tokens a (b ++ (c ++ d)) token same' is cut is_stack (finished-reads choice row last t b c d was is_choice is_row is_last)

postfix-holds : (stack : List (Frame Use)) (choice row : Option (Tree Use)) (last : Last Use) (least : ℕ) (most : Option ℕ) (s : State Use) (tokens : List Placed) (token : Placed)
    → repeating stack choice row (tree_of_last last) least most ≡ Some s → IsPostfix token.token least most
    → Holds (state stack choice row last) tokens → Holds s (tokens ++ token ∷ [])
postfix-holds stack choice row last least most s tokens token same is (a, b, c, d, cut, is_stack, is_choice, is_row, is_last) = ends (tree_of_last last) refl same
  where
    ends : (f : Option (Tree Use)) → tree_of_last last ≡ f → repeating stack choice row f least most ≡ Some s → Holds s (tokens ++ token ∷ [])
    ends None was same' = cc
    ends (Some t) was same' =
        same-state (state stack choice row (closed (rep t least most))) s (tokens ++ token ∷ []) same' (
          a,
          b,
          c,
          d ++ token ∷ [],
          ap (λ x. x ++ token ∷ []) cut ∙ simp append_assoc,
          is_stack,
          is_choice,
          is_row,
          repeated d token t least most refl refl (last-reads last t d was is_last) is,
        )

pub next-holds : (s s' : State Use) (mark : Mark Use) (tokens : List Placed) (token : Placed) → next s mark ≡ Some s' → Is mark token → Holds s tokens → Holds s' (tokens ++ token ∷ [])
next-holds (state stack choice row last) s' (name_of u) tokens token same is holds = name-holds stack choice row last u s' tokens token same is holds
next-holds (state stack choice row last) s' caret tokens token same is holds = caret-holds stack choice row last s' tokens token same is holds
next-holds (state stack choice row last) s' equals tokens token same is holds = equals-holds stack choice row last s' tokens token same is holds
next-holds (state stack choice row last) s' dot tokens token same is holds =
    one-more stack choice row last (extendable any) s' tokens token same (token.column, one-sign token full_stop is) holds
next-holds (state stack choice row last) s' bang tokens token same is holds =
    one-more stack choice row last excluding s' tokens token same (token.column, one-sign token exclamation_mark is) holds
next-holds (state stack choice row last) s' bar tokens token same is holds = bar-holds stack choice row last s' tokens token same is holds
next-holds (state stack choice row last) s' (opening bracket) tokens token same is holds = opening-holds stack choice row last bracket s' tokens token same is holds
next-holds (state stack choice row last) s' (closing bracket) tokens token same is holds = closing-holds stack choice row last bracket s' tokens token same is holds
next-holds (state stack choice row last) s' (postfix least most) tokens token same is holds = postfix-holds stack choice row last least most s' tokens token same is holds

pub run-none : {A : Type 0} (marks : List (Mark A)) → run None marks ≡ None
run-none [] = refl
run-none (mark ∷ marks) = run-none marks

pub run-holds : (tokens : List Placed) (marks : List (Mark Use)) (s s' : State Use) (read : List Placed)
    → AreMarks tokens marks → run (Some s) marks ≡ Some s' → Holds s read → Holds s' (read ++ tokens)
run-holds [] [] s s' read are ran holds = subst (Holds s') (sym (append-nil read)) (same-state s s' read ran holds)
run-holds [] (m ∷ marks) s s' read are ran holds = absurd are
run-holds (t ∷ tokens) [] s s' read are ran holds = absurd are
run-holds (t ∷ tokens) (m ∷ marks) s s' read are ran holds =
    goes (λ s2 ran' holds'. run-holds tokens marks s2 s' (read ++ t ∷ []) are.1 ran' holds') (next s m) refl ran
  where
    goes : ((s2 : State Use) → run (Some s2) marks ≡ Some s' → Holds s2 (read ++ t ∷ []) → Holds s' ((read ++ t ∷ []) ++ tokens))
        → (o : Option (State Use)) → next s m ≡ o → run o marks ≡ Some s' → Holds s' (read ++ t ∷ tokens)
    goes further None was ran' = let none = run-none marks in cc
    goes further (Some s2) was ran' =
        subst (Holds s') (append_assoc read (t ∷ []) tokens) (further s2 ran' (next-holds s s2 m read t was are.0 holds))
