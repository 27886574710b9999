-- The machine and the grammar agree, on whole expressions and on how they begin.
use Rattle.std.proofs.Common.{◌≡◌, Option, Some, None, List, [], ◌∷◌, ◌++◌, refl, sym, ap, ◌∙◌, subst, append_assoc}
use Rattle.mine_model.specs.Bytes.{close_round, full_stop, close_square}
use Rattle.mine_model.specs.Tokens.{sign, Placed}
use Rattle.mine_model.specs.Grammar.{expression, Use, Begins, at, named, Reads}
use Rattle.mine_model.specs.Expression.{any, not_under, Tree, leaf, cap}
use Rattle.patex_grammar.specs.Machine.{round, square, Mark, name_of, dot, closing, Is, AreMarks, Last, nothing, excluding, extendable, closed, Frame, frame, State, state, row_with, choice_with, finished, shut, next, run, initial}
use Rattle.patex_grammar.specs.Holding.{Holds, Reaches, IsAnswered}
use Rattle.patex_grammar.proofs.ReadingLemmas.{run-append, marks-append, reads-runs}
use Rattle.patex_grammar.proofs.HoldingLemmas.{finished-reads, run-none, run-holds}
use Rattle.patex_grammar.proofs.MarkLemmas.{one-mark, same-marks}

pub initial-holds : Holds initial []
initial-holds = ([], [], [], [], refl, refl, refl, refl, refl)

pub reads-answered : (tokens : List Placed) (t : Tree Use) → Reads expression tokens t → IsAnswered tokens t
reads-answered tokens t reads =
    let (marks, are, is) = reads-runs expression tokens t reads in
    let (choice, row, last, ran, end) = is [] in
    (choice, row, last, (marks, are, ran), end)

pub answered-reads : (tokens : List Placed) (t : Tree Use) → IsAnswered tokens t → Reads expression tokens t
answered-reads tokens t (choice, row, last, (marks, are, ran), end) =
    let (a, b, c, d, cut, is_stack, is_choice, is_row, is_last) = run-holds tokens marks initial (state [] choice row last) [] are ran initial-holds in
    subst (λ x. Reads expression x t) (sym (cut ∙ ap (λ x. x ++ (b ++ (c ++ d))) is_stack)) (finished-reads choice row last t b c d end is_choice is_row is_last)

pub cut-marks : (tokens more : List Placed) (marks : List (Mark Use)) → AreMarks (tokens ++ more) marks
    → (first second : List (Mark Use)) × (marks ≡ first ++ second) × AreMarks tokens first × AreMarks more second
cut-marks [] more marks are = ([], marks, refl, tt, are)
cut-marks (t ∷ tokens) more [] are = absurd are
cut-marks (t ∷ tokens) more (m ∷ marks) are =
    let (first, second, same, are1, are2) = cut-marks tokens more marks are.1 in
    (m ∷ first, second, ap (λ x. m ∷ x) same, (are.0, are1), are2)

-- what runs through has run so far
pub run-cut : (s : Option (State Use)) (first second : List (Mark Use)) (s' : State Use) → run s (first ++ second) ≡ Some s' → (s2 : State Use) × (run s first ≡ Some s2) × (run (Some s2) second ≡ Some s')
run-cut s first second s' ran = cut (run s first) refl (sym (run-append s first second) ∙ ran)
  where
    cut : (o : Option (State Use)) → run s first ≡ o → run o second ≡ Some s' → (s2 : State Use) × (run s first ≡ Some s2) × (run (Some s2) second ≡ Some s')
    cut None was ran' = let none = run-none second in cc
    cut (Some s2) was ran' = (s2, was, ran')

pub reaches-cut : (tokens more : List Placed) (s' : State Use) → Reaches (tokens ++ more) s' → (s : State Use) × Reaches tokens s
reaches-cut tokens more s' (marks, are, ran) =
    let (first, second, same, are1, are2) = cut-marks tokens more marks are in
    let (s, ran1, ran2) = run-cut (Some initial) first second s' (ap (run (Some initial)) (sym same) ∙ ran) in
    (s, (first, are1, ran1))

-- there is one state
pub one-state : (tokens : List Placed) (s s' : State Use) → Reaches tokens s → Reaches tokens s' → s ≡ s'
one-state tokens s s' (marks, are, ran) (others, are', ran') =
    some-same (sym ran ∙ ap (run (Some initial)) (same-marks tokens marks others are are') ∙ ran')
  where
    some-same : Some s ≡ Some s' → s ≡ s'
    some-same e = cc

-- what may still come: tokens that close what is open
abbrev pub IsCompleted : State Use → Type 0
IsCompleted s =
    (more : List Placed) × (marks : List (Mark Use)) × AreMarks more marks
    × (choice row : Option (Tree Use)) × (last : Last Use) × (t : Tree Use)
    × (run (Some s) marks ≡ Some (state [] choice row last)) × (finished choice row last ≡ Some t)

close : (stack : List (Frame Use)) (choice row : Option (Tree Use)) (last : Last Use) (t : Tree Use) → finished choice row last ≡ Some t → IsCompleted (state stack choice row last)
close [] choice row last t end = ([], [], tt, choice, row, last, t, refl, end)
close (frame round choice2 row2 ∷ stack) choice row last t end =
    let (more, marks, are, choice', row', last', t', ran, end') = close stack choice2 row2 (closed (cap t)) (choice_with choice2 (row_with row2 (cap t))) refl in (
      at 0 (sign close_round) ∷ more,
      closing round ∷ marks,
      (refl, are),
      choice',
      row',
      last',
      t',
      ap (λ f. run (shut (frame round choice2 row2 ∷ stack) f round) marks) end ∙ ran,
      end',
    )
close (frame square choice2 row2 ∷ stack) choice row last t end =
    let (more, marks, are, choice', row', last', t', ran, end') = close stack choice2 row2 (closed t) (choice_with choice2 (row_with row2 t)) refl in (
      at 0 (sign close_square) ∷ more,
      closing square ∷ marks,
      (refl, are),
      choice',
      row',
      last',
      t',
      ap (λ f. run (shut (frame square choice2 row2 ∷ stack) f square) marks) end ∙ ran,
      end',
    )

-- from each state some continuation leads to the end
pub complete : (s : State Use) → IsCompleted s
complete (state stack choice row nothing) =
    let (more, marks, are, choice', row', last', t', ran, end') =
    close stack choice row (extendable any) (choice_with choice (row_with row (leaf any))) refl in
    (at 0 (sign full_stop) ∷ more, dot ∷ marks, (refl, are), choice', row', last', t', ran, end')
complete (state stack choice row excluding) =
    let u : Use = record { column = 0; name = [] } in
    let (more, marks, are, choice', row', last', t', ran, end') =
    close stack choice row (extendable (not_under u)) (choice_with choice (row_with row (leaf (not_under u)))) refl in
    (named u ∷ more, name_of u ∷ marks, (refl, are), choice', row', last', t', ran, end')
complete (state stack choice row (extendable l)) = close stack choice row (extendable l) (choice_with choice (row_with row (leaf l))) refl
complete (state stack choice row (closed t)) = close stack choice row (closed t) (choice_with choice (row_with row t)) refl

pub begins-reaches : (tokens : List Placed) → Begins tokens → (s : State Use) × Reaches tokens s
begins-reaches tokens (more, t, reads) =
    let (choice, row, last, reaches, end) = reads-answered (tokens ++ more) t reads in
    reaches-cut tokens more (state [] choice row last) reaches

pub reaches-begins : (tokens : List Placed) (s : State Use) → Reaches tokens s → Begins tokens
reaches-begins tokens s (marks, are, ran) =
    let (more, others, are', choice, row, last, t, ran', end) = complete s in
    let ran2 : run (Some initial) (marks ++ others) ≡ Some (state [] choice row last) =
    run-append (Some initial) marks others ∙ ap (λ x. run x others) ran ∙ ran' in
    (more, t, answered-reads (tokens ++ more) t (choice, row, last, (marks ++ others, marks-append tokens more marks others are are', ran2), end))

-- no expression begins with these tokens and this one more, where the machine has no step
pub wrong-token : (tokens : List Placed) (token : Placed) (s : State Use) → Reaches tokens s → ((mark : Mark Use) → Is mark token → next s mark ≡ None) → Begins (tokens ++ token ∷ []) → ⊥
wrong-token tokens token s (marks, are, ran) stuck begins =
    let (s', (others, are', ran')) = begins-reaches (tokens ++ token ∷ []) begins in
    let (first, second, same, are1, are2) = cut-marks tokens (token ∷ []) others are' in
    let (s2, ran1, ran2) = run-cut (Some initial) first second s' (ap (run (Some initial)) (sym same) ∙ ran') in
    let one : s2 ≡ s = one-state tokens s2 s (first, are1, ran1) (marks, are, ran) in
    last second are2 s' (ap (λ x. run (Some x) second) (sym one) ∙ ran2)
  where
    last : (second : List (Mark Use)) → AreMarks (token ∷ []) second → (s' : State Use) → run (Some s) second ≡ Some s' → ⊥
    last [] are' s' ran' = absurd are'
    last (m ∷ []) are' s' ran' = let none : next s m ≡ None = stuck m are'.0 in cc
    last (m ∷ n ∷ second) are' s' ran' = absurd are'.1

-- no tree, where a bracket is open or an operand is missing
pub open-bracket : (tokens : List Placed) (f : Frame Use) (stack : List (Frame Use)) (choice row : Option (Tree Use)) (last : Last Use) (t : Tree Use)
    → Reaches tokens (state (f ∷ stack) choice row last) → Reads expression tokens t → ⊥
open-bracket tokens f stack choice row last t reaches reads =
    let (choice', row', last', reaches', end) = reads-answered tokens t reads in
    let same : state (f ∷ stack) choice row last ≡ state [] choice' row' last' =
    one-state tokens (state (f ∷ stack) choice row last) (state [] choice' row' last') reaches reaches' in
    cc

pub no-operand : (tokens : List Placed) (choice row : Option (Tree Use)) (last : Last Use) (t : Tree Use)
    → Reaches tokens (state [] choice row last) → finished choice row last ≡ None → Reads expression tokens t → ⊥
no-operand tokens choice row last t reaches none reads =
    let (choice', row', last', reaches', end) = reads-answered tokens t reads in
    let same : state [] choice row last ≡ state [] choice' row' last' = one-state tokens (state [] choice row last) (state [] choice' row' last') reaches reaches' in
    let f : finished choice row last ≡ finished choice' row' last' = finished-same choice row last choice' row' last' same in
    cc
  where
    finished-same : (choice row : Option (Tree Use)) (last : Last Use) (choice' row' : Option (Tree Use)) (last' : Last Use)
        → state [] choice row last ≡ state [] choice' row' last' → finished choice row last ≡ finished choice' row' last'
    finished-same choice row last choice' row' last' e =
        let p : choice ≡ choice' = cc in
        let q : row ≡ row' = cc in
        let r : last ≡ last' = cc in
        ap (λ x. finished x row last) p ∙ ap (λ x. finished choice' x last) q ∙ ap (finished choice' row') r

-- the same, where the token is this mark, and where it is none
pub wrong-mark : (tokens : List Placed) (token : Placed) (mark : Mark Use) (s : State Use) → Reaches tokens s → Is mark token → next s mark ≡ None → Begins (tokens ++ token ∷ []) → ⊥
wrong-mark tokens token mark s reaches is none =
    wrong-token tokens token s reaches λ m is'. ap (next s) (one-mark m mark token is' is) ∙ none

-- what begins an expression has begun one so far
pub begins-cut : (tokens more : List Placed) → Begins (tokens ++ more) → Begins tokens
begins-cut tokens more (others, t, reads) = (more ++ others, t, subst (λ x. Reads expression x t) (append_assoc tokens more others) reads)
