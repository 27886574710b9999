use Rattle.std.proofs.Common.{arith, sym, ◌∙◌}
use Rattle.text_ports.proofs.FieldLemmas.{names-more}
use Rattle.text_ports.proofs.LaneLemmas.{names-ahead}
use Rattle.text_ports.proofs.scan.name_end.Goals as goal

pub returns-then-count-lt-LANES-clause-names : goal.returns-then-count-lt-LANES-clause-names
returns-then-count-lt-LANES-clause-names c =
    let test = c.loop-at-test.true in
    let few = c.names_ahead-count.ensures.within in
    names-ahead c.args.rest.now c.args.from c.loop-at.at c.names_ahead-count.result c.loop-at.invariant.rises (omega (arith, test, few)) c.loop-at.invariant.names c.names_ahead-count.ensures.names

pub loop-at-preserved : goal.loop-at-preserved
loop-at-preserved c =
    let test = c.loop-at-test.true in
    let few = c.names_ahead-count.ensures.within in record {
      rises = let rises = c.loop-at.invariant.rises in omega (arith, rises);
      within = omega (arith, test, few);
      names = names-ahead c.args.rest.now c.args.from c.loop-at.at c.names_ahead-count.result c.loop-at.invariant.rises (omega (arith, test, few)) c.loop-at.invariant.names c.names_ahead-count.ensures.names;
    }

pub loop-at-2-preserved : goal.loop-at-2-preserved
loop-at-2-preserved c = record {
  rises = let rises = c.loop-at-2.invariant.rises in omega (arith, rises);
  within = let test = c.loop-at-2-test.true in omega (arith, test);
  names = names-more c.args.rest.now c.args.from c.loop-at-2.at 0 c.loop-at-2.invariant.rises c.loop-at-2-test.true c.loop-at-2.invariant.names (sym c.is_name.ensures ∙ c.if-is_name.true);
}
