-- Tokens have at most one tree.
use Rattle.std.proofs.Common.{◌≡◌, Some, None, List, [], refl, sym, ap, ◌∙◌, subst}
use Rattle.mine_model.specs.Tokens.{Placed}
use Rattle.mine_model.specs.Grammar.{Part, expression, concatenation, repetition, atom, item, Use, Reads}
use Rattle.mine_model.specs.Expression.{Tree}
use Rattle.patex_grammar.specs.Machine.{Mark, nothing, State, state, ended, chosen, run, initial, answer}
use Rattle.patex_grammar.proofs.MarkLemmas.{same-marks}
use Rattle.patex_grammar.proofs.ReadingLemmas.{Means, IsOperand, reads-runs}

-- run on the marks from the start, the machine answers the tree
abbrev pub Answers : List (Mark Use) → Tree Use → Type 0
Answers marks t = (s : State Use) × (run (Some initial) marks ≡ Some s) × (answer s ≡ Some t)

operand-answers : (marks : List (Mark Use)) (t : Tree Use) → IsOperand marks t → Answers marks t
operand-answers marks t is =
    let (last, ran, end) = is [] None None None nothing refl in
    (state [] None None last, ran, ap (λ u. chosen None (ended None u)) end)

pub means-answers : (part : Part) (marks : List (Mark Use)) (t : Tree Use) → Means part marks t → Answers marks t
means-answers expression marks t is =
    let (choice, row, last, ran, end) = is [] in
    (state [] choice row last, ran, end)
means-answers concatenation marks t is =
    let (row, last, ran, end) = is [] None in
    (state [] None row last, ran, ap (chosen None) end)
means-answers repetition marks t is = operand-answers marks t is
means-answers atom marks t is = operand-answers marks t is
means-answers item marks t is = operand-answers marks t is

one-answer : (marks : List (Mark Use)) (t u : Tree Use) → Answers marks t → Answers marks u → t ≡ u
one-answer marks t u (s, ran, end) (s', ran', end') =
    let same : s ≡ s' = some-same s s' (sym ran ∙ ran') in
    tree-same t u (sym end ∙ ap answer same ∙ end')
  where
    some-same : (s s' : State Use) → Some s ≡ Some s' → s ≡ s'
    some-same s s' e = cc

    tree-same : (t u : Tree Use) → Some t ≡ Some u → t ≡ u
    tree-same t u e = cc

-- the grammar is unambiguous
pub unambiguous : (part : Part) (tokens : List Placed) (t u : Tree Use) → Reads part tokens t → Reads part tokens u → t ≡ u
unambiguous part tokens t u first second =
    let (marks, are, is) = reads-runs part tokens t first in
    let (others, are', is') = reads-runs part tokens u second in
    let same : others ≡ marks = same-marks tokens others marks are' are in
    one-answer marks t u (means-answers part marks t is) (subst (λ ms. Answers ms u) same (means-answers part others u is'))
