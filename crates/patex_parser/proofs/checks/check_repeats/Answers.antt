use Rattle.std.proofs.Common.{◌≡◌, ◌+◌, [], take, get_or, inl, refl, sym, subst, ◌∙◌}
use Rattle.patex_parser.specs.declared.token.Kind.TheVariants.{Mark, BadRepeat, BeyondLimit}
use Rattle.patex_parser.specs.Checking.{NoneHas, TellsFirst, IsOf}
use Rattle.patex_parser.proofs.FirstReads.{no_token, whole-walk, first-here, none-on, tells-none-on, tells-on, all-are-marked}
use Rattle.patex_parser.proofs.checks.check_repeats.Goals as goal
use Rattle.patex_parser.proofs.checks.check_repeats.Goals.{in-Mark, in-BeyondLimit}

pub returns-in-BadRepeat-clause-err : goal.returns-in-BadRepeat-clause-err
returns-in-BadRepeat-clause-err c =
    let reads = c.args.tokens.now in
    let i = c.loop-token.token-index in
    let read = get_or reads i no_token in
    inl (read.column, first-here (IsOf BadRepeat) reads i read no_token c.loop-token-test.true refl c.loop-token.invariant.none_bad c.in-BadRepeat.is, refl)

pub loop-token-preserved : goal.loop-token-preserved
loop-token-preserved c =
    let reads = c.args.tokens.now in
    let i = c.loop-token.token-index in
    let read = get_or reads i no_token in
    elim c.match-token.branch [
      | in-Mark w ↦
          let not_bad : read.kind ≡ BadRepeat → ⊥ = λ bad. let wrong : Mark w.in-Mark.field-0 ≡ BadRepeat = sym w.in-Mark.is ∙ bad in cc in
          let not_beyond : read.kind ≡ BeyondLimit → ⊥ = λ beyond. let wrong : Mark w.in-Mark.field-0 ≡ BeyondLimit = sym w.in-Mark.is ∙ beyond in cc in
          record {
            none_bad = none-on (IsOf BadRepeat) reads i read no_token c.loop-token-test.true refl c.loop-token.invariant.none_bad not_bad;
            first_beyond = subst (TellsFirst (IsOf BeyondLimit) (take (i + 1) reads)) (sym w.beyond-is)
                (tells-none-on (IsOf BeyondLimit) reads i read no_token c.loop-token.beyond c.loop-token-test.true refl c.loop-token.invariant.first_beyond not_beyond);
          }
      | in-BeyondLimit w ↦
          let not_bad : read.kind ≡ BadRepeat → ⊥ = λ bad. let wrong : BeyondLimit ≡ BadRepeat = sym w.in-BeyondLimit.is ∙ bad in cc in
          record {
            none_bad = none-on (IsOf BadRepeat) reads i read no_token c.loop-token-test.true refl c.loop-token.invariant.none_bad not_bad;
            first_beyond = tells-on (IsOf BeyondLimit) reads i read no_token c.loop-token.beyond c.match-token.beyond c.loop-token-test.true refl
                c.loop-token.invariant.first_beyond w.in-BeyondLimit.is (w.beyond-is ∙ w.or-beyond.ensures);
          }
    ]

pub returns-in-None-clause-ok : goal.returns-in-None-clause-ok
returns-in-None-clause-ok c =
    let reads = c.args.tokens.now in
    let whole = whole-walk reads c.loop-token.token-index c.loop-token-test.false in
    all-are-marked [] reads (subst (NoneHas (IsOf BadRepeat) []) whole c.loop-token.invariant.none_bad)
    (subst (NoneHas (IsOf BeyondLimit) []) whole (rw c.in-None.is at c.loop-token.invariant.first_beyond))
