use Rattle.std.proofs.Common.{◌<◌, length, get_or, arith, refl, false, ◌∙◌, length-set}
use Rattle.std.proofs.lemmas.List.{drop_more}
use Rattle.std.proofs.lemmas.List.Elements.{Contains-get_or}
use Rattle.pivot_partition.proofs.MarkLemmas.{marked-inside, still-begin, still-more, still-all}
use Rattle.pivot_partition.proofs.marks.unmark.Goals as goal

pub bounds-marks-rank : goal.bounds-marks-rank
bounds-marks-rank c =
    let rank = get_or c.args.found.now c.loop-rank.rank-index 0 in
    let inside : rank < length c.args.marks.now =
    marked-inside c.args.marks.now rank ((c.requires.exact rank).0 (Contains-get_or c.args.found.now c.loop-rank.rank-index 0 c.loop-rank-test.true)) in
    omega (arith, inside, c.loop-rank.invariant.long)

pub loop-rank-init : goal.loop-rank-init
loop-rank-init c = record {
  still = still-begin c.args.marks.now c.args.found.now c.requires;
  long = refl;
}

pub loop-rank-preserved : goal.loop-rank-preserved
loop-rank-preserved c = record {
  still = still-more c.loop-rank.marks c.args.found.now c.loop-rank.rank-index (get_or c.args.found.now c.loop-rank.rank-index 0)
      (drop_more c.args.found.now c.loop-rank.rank-index 0 c.loop-rank-test.true) c.loop-rank.invariant.still;
  long = length-set c.loop-rank.marks (get_or c.args.found.now c.loop-rank.rank-index 0) false ∙ c.loop-rank.invariant.long;
}

pub returns-clause-none : goal.returns-clause-none
returns-clause-none c = still-all c.loop-rank.marks c.args.found.now c.loop-rank.rank-index c.loop-rank-test.false c.loop-rank.invariant.still
