use Rattle.patex_parser.proofs.ScanLemmas.{scanned-all}
use Rattle.patex_parser.proofs.scan.scan.Goals as goal

pub returns-clause-ok : goal.returns-clause-ok
returns-clause-ok c = scanned-all c.args.text.now c.loop-at.at _ _ c.loop-at-test.false c.loop-at.invariant
