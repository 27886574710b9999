use Rattle.std.proofs.Common.{◌∙◌}
use Rattle.pivot_partition.proofs.MarkLemmas.{read-pass, read-more, read-all}
use Rattle.pivot_partition.proofs.marks.mark_from.Goals.{then-rank-least+in_ok-mark, else-rank-least}
use Rattle.pivot_partition.proofs.marks.mark_from.Goals as goal

pub loop-rank-preserved : goal.loop-rank-preserved
loop-rank-preserved c = elim c.if-rank-least.branch [
  | then-rank-least+in_ok-mark w ↦ record {
    marked = rw (w.marks-is, w.found-is) w.mark.ensures.marked;
    long = rw w.marks-is (w.mark.ensures.long ∙ c.loop-rank.invariant.long);
    found = rw w.found-is (read-more c.args.found.now.items c.args.ranks.now c.args.least c.loop-rank.found.items c.loop-rank.rank-index c.loop-rank-test.true c.loop-rank.invariant.found w.mark.new.found.items w.if-rank-least.true w.in_ok-mark.ensures.found);
  }
  | else-rank-least w ↦ record {
    marked = rw (w.marks-is, w.found-is) c.loop-rank.invariant.marked;
    long = rw w.marks-is c.loop-rank.invariant.long;
    found = rw w.found-is (read-pass c.args.found.now.items c.args.ranks.now c.args.least c.loop-rank.found.items c.loop-rank.rank-index c.loop-rank-test.true c.loop-rank.invariant.found w.if-rank-least.false);
  }
]

pub returns-clause-found : goal.returns-clause-found
returns-clause-found c = read-all c.args.found.now.items c.args.ranks.now c.args.least c.loop-rank.found.items c.loop-rank.rank-index c.loop-rank-test.false c.loop-rank.invariant.found
