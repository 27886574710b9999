use Rattle.patex_parser.proofs.LexemeLemmas.{quoted-open}
use Rattle.patex_parser.proofs.lexeme.quoted.Goals as goal

pub returns-clause-none : goal.returns-clause-none
returns-clause-none c = quoted-open c.args.inner.now c.loop-at.bytes.items c.loop-at.at c.loop-at-test.false c.loop-at.invariant.so_far
