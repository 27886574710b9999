use Rattle.std.proofs.Common.{◌≡◌, Some, None, get_or, inl, inr, refl, sym, ap, subst, ◌∙◌}
use Rattle.patex_grammar.specs.Machine.{next}
use Rattle.patex_parser.specs.View.{state_of}
use Rattle.patex_parser.specs.Reading.{mark_of_kind, IsBehind}
use Rattle.patex_parser.proofs.FirstReads.{no_token, whole-walk}
use Rattle.patex_parser.proofs.WalkLemmas.{behind-on, stuck-here}
use Rattle.patex_parser.proofs.reading.read.Goals as goal

pub returns-in_default-2-clause-err : goal.returns-in_default-2-clause-err
returns-in_default-2-clause-err c =
    let reads = c.args.tokens.now in
    let i = c.loop-token.token-index in
    let read = get_or reads i no_token in
    let s = state_of c.loop-token.machine in
    let none : next s (mark_of_kind read.kind) ≡ None =
    ap (λ kind. next s (mark_of_kind kind)) c.in-Mark.is ∙ sym (rw c.in_default-2.is at c.in_ok-next.ensures) in
    inr (inl (read.column, stuck-here reads i read no_token s c.loop-token-test.true refl c.loop-token.invariant none, refl))

pub loop-token-preserved : goal.loop-token-preserved
loop-token-preserved c =
    let reads = c.args.tokens.now in
    let i = c.loop-token.token-index in
    let read = get_or reads i no_token in
    let s = state_of c.loop-token.machine in
    let goes : next s (mark_of_kind read.kind) ≡ Some (state_of c.in-Some.next) =
    ap (λ kind. next s (mark_of_kind kind)) c.in-Mark.is ∙ sym (rw c.in-Some.is at c.in_ok-next.ensures) in
    behind-on reads i read no_token s (state_of c.in-Some.next) c.loop-token-test.true refl c.loop-token.invariant goes

pub returns-in-Some-2-clause-ok : goal.returns-in-Some-2-clause-ok
returns-in-Some-2-clause-ok c =
    let s = state_of c.loop-token.machine in (
      s,
      subst (λ reads. IsBehind reads s) (whole-walk c.args.tokens.now c.loop-token.token-index c.loop-token-test.false) c.loop-token.invariant,
      rw c.in-Some-2.is at c.in_ok-tree.ensures,
    )

pub returns-in-None-clause-err : goal.returns-in-None-clause-err
returns-in-None-clause-err c =
    let s = state_of c.loop-token.machine in
    inr (inr (
      (
        s,
        subst (λ reads. IsBehind reads s) (whole-walk c.args.tokens.now c.loop-token.token-index c.loop-token-test.false) c.loop-token.invariant,
        rw c.in-None.is at c.in_ok-tree.ensures,
      ),
      refl,
    ))
