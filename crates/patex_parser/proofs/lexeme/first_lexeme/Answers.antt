use Rattle.std.proofs.Common.{◌≡◌, ◌∷◌, length, take, drop, ◌-◌, sym, ap, ◌∙◌, subst}
use Rattle.mine_model.specs.Bytes.{quote}
use Rattle.patex_parser.specs.declared.lexeme.Lexeme.TheVariants.{Name}
use Rattle.patex_parser.specs.Scanning.{IsLexeme}
use Rattle.patex_parser.proofs.LexemeLemmas.{rest-of, bare-lexeme, quoted-lexeme, quote-begins-none, sign-lexeme, nothing-begins}
use Rattle.patex_parser.proofs.lexeme.first_lexeme.Goals as goal

pub returns-then-is_bare_byte-clause-some : goal.returns-then-is_bare_byte-clause-some
returns-then-is_bare_byte-clause-some c =
    let text = c.args.text.now in
    let count = c.run_of-count.result in
    let same : take count text ≡ c.new-name.result = sym (c.new-name.ensures ∙ c.in_ok-from_slice.ensures.items) in
    subst (λ bytes. IsLexeme text (Name bytes) count) same
    (bare-lexeme text count c.requires (sym c.is_bare_byte.ensures ∙ c.if-is_bare_byte.true) c.run_of-count.ensures.within
    c.run_of-count.ensures.each c.run_of-count.ensures.longest)

pub returns-in-Some-clause-some : goal.returns-in-Some-clause-some
returns-in-Some-clause-some c =
    let text = c.args.text.now in
    let inner = take (length text - 1) (drop 1 text) in
    let begins : text ≡ quote ∷ inner = rest-of text c.requires ∙ ap (λ b. b ∷ inner) c.if-first-eq39.true in
    quoted-lexeme text inner c.in-Some.name c.in-Some.count begins (rw c.in-Some.is at c.in_ok-name.ensures.some)

pub returns-in-None-clause-none : goal.returns-in-None-clause-none
returns-in-None-clause-none c =
    let text = c.args.text.now in
    let inner = take (length text - 1) (drop 1 text) in
    let begins : text ≡ quote ∷ inner = rest-of text c.requires ∙ ap (λ b. b ∷ inner) c.if-first-eq39.true in
    quote-begins-none text inner begins (rw c.in-None.is at c.in_ok-name.ensures.none)

pub returns-in-Some-sign_mark-clause-some : goal.returns-in-Some-sign_mark-clause-some
returns-in-Some-sign_mark-clause-some c =
    sign-lexeme c.args.text.now c.in-Some-sign_mark.mark c.requires c.in-Some-sign_mark.ensures.some.0 c.in-Some-sign_mark.ensures.some.1

pub returns-in-None-sign_mark-clause-none : goal.returns-in-None-sign_mark-clause-none
returns-in-None-sign_mark-clause-none c =
    nothing-begins c.args.text.now c.requires (sym c.is_bare_byte.ensures ∙ c.if-is_bare_byte.false) c.if-first-eq39.false c.if-first-eq123.false
    c.in-None-sign_mark.ensures.none
