use Rattle.patex_parser.proofs.LexemeLemmas.{open-lexeme, closed-lexeme}
use Rattle.patex_parser.proofs.lexeme.braced.Goals as goal

pub returns-then-count-inner : goal.returns-then-count-inner
returns-then-count-inner c = open-lexeme c.args.inner.now c.run_of-count.result c.if-count-inner.true c.run_of-count.ensures.each

pub returns : goal.returns
returns c =
    closed-lexeme c.args.inner.now c.run_of-count.result c.repeat.result c.run_of-count.ensures.within c.if-count-inner.false
    c.run_of-count.ensures.each c.run_of-count.ensures.longest c.repeat.ensures
