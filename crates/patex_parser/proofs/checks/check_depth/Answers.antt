use Rattle.std.proofs.Common.{get_or, take, refl, sym, ap, subst, ◌∙◌}
use Rattle.patex_parser.specs.Checking.{IsTooDeepAt, IsTooDeepRead, effect_of, open_step, signs_step, open_after, signs_after}
use Rattle.patex_parser.proofs.FirstReads.{no_token, first-here, none-on}
use Rattle.patex_parser.proofs.WalkLemmas.{open_after-on, signs_after-on}
use Rattle.patex_parser.proofs.checks.check_depth.Goals as goal

pub returns-in_default-clause-err : goal.returns-in_default-clause-err
returns-in_default-clause-err c =
    let reads = c.args.tokens.now in
    let i = c.loop-token.token-index in
    let read = get_or reads i no_token in
    let deep : IsTooDeepRead (take i reads) read =
    subst (λ n. IsTooDeepAt n (signs_after (take i reads)) (effect_of read.kind)) c.loop-token.invariant.is_open
    (subst (λ n. IsTooDeepAt c.loop-token.depth.open n (effect_of read.kind)) c.loop-token.invariant.are_signs c.in_default.ensures.none) in
    (read.column, first-here IsTooDeepRead reads i read no_token c.loop-token-test.true refl c.loop-token.invariant.none_deep deep, refl)

pub loop-token-preserved : goal.loop-token-preserved
loop-token-preserved c =
    let reads = c.args.tokens.now in
    let i = c.loop-token.token-index in
    let read = get_or reads i no_token in
    let old = c.loop-token.invariant in
    let now = c.in-Some.ensures in
    let not_deep : IsTooDeepRead (take i reads) read → ⊥ = λ deep. now.some
    (subst (λ n. IsTooDeepAt n c.loop-token.depth.signs (effect_of read.kind)) (sym old.is_open)
    (subst (λ n. IsTooDeepAt (open_after (take i reads)) n (effect_of read.kind)) (sym old.are_signs) deep)) in
    record {
      none_deep = none-on IsTooDeepRead reads i read no_token c.loop-token-test.true refl old.none_deep not_deep;
      is_open = now.open.0 ∙ ap (λ n. open_step n (effect_of read.kind)) old.is_open ∙ sym (open_after-on reads i read no_token c.loop-token-test.true refl);
      are_signs = now.signs.0 ∙ ap (λ n. signs_step n (effect_of read.kind)) old.are_signs ∙ sym (signs_after-on reads i read no_token c.loop-token-test.true refl);
      open_within = now.open.1;
      signs_within = now.signs.1;
    }
