use Rattle.std.proofs.Common.{◌≡◌, Some, arith}
use Rattle.std.specs.List.{slice_get}
use Rattle.mine_model.specs.declared.row.Row.{Row}
use Rattle.mining_job.specs.Problems.{data_of}
use Rattle.frequent_rows.proofs.AnswerLemmas.{AreAllHeld, IsEachCounted, ranks-within}
use Rattle.frequent_rows.proofs.RowLemmas.{IsRowAt, rows-begin, rows-skip, rows-push, rows-frequent, rows-within}
use Rattle.frequent_rows.proofs.rows_of.Goals as goal

pub loop-number-init : goal.loop-number-init
loop-number-init c =
    let problem = c.args.job.now in
    rw c.new-rows.ensures.items (rows-begin c.args.counts.now problem.ranking.order problem.threshold c.len.ensures.prefixes c.hierarchy.ensures.whole.least)

pub loop-number-preserved-then-sum-threshold : goal.loop-number-preserved-then-sum-threshold
loop-number-preserved-then-sum-threshold c =
    let problem = c.args.job.now in
    rows-skip c.args.counts.now problem.ranking.order problem.threshold c.len.ensures.prefixes c.loop-number.number c.sum-sum.result c.loop-number.rows.items
    c.sum-sum.ensures (omega (arith, c.if-sum-threshold.true, c.threshold-threshold.ensures.threshold)) c.loop-number.invariant

pub pattern_of-requires : goal.pattern_of-requires
pattern_of-requires c =
    let problem = c.args.job.now in
    let prefixes = c.args.counts.now in
    let (levels, are, counted) = c.requires in
    let each : IsEachCounted problem prefixes = c.frequent_patterns_are_counted.ensures.each (data_of problem) problem.ranking.order levels prefixes counted c.len.ensures.prefixes in
    let list = c.as_slice.result.now in
    let at : slice_get prefixes.lists c.loop-number.number ≡ Some list = rw c.as_slice.ensures.value c.in_ok-read.ensures in
    rw c.ranks.ensures.ranking (ranks-within problem prefixes each c.loop-number.number list c.sum-sum.result at c.sum-sum.ensures
    (omega (arith, c.if-sum-threshold.false, c.threshold-threshold.ensures.threshold, c.ranks.ensures.whole.least)))

pub loop-number-preserved : goal.loop-number-preserved
loop-number-preserved c =
    let problem = c.args.job.now in
    let prefixes = c.args.counts.now in
    let sum = c.sum-sum.result in
    let row : Row = record { pattern = c.in_ok-pattern.pattern; support = sum } in
    let is : IsRowAt prefixes problem.ranking.order problem.threshold c.loop-number.number row = record {
      list = c.as_slice.result.now;
      at = rw c.as_slice.ensures.value c.in_ok-read.ensures;
      sum = c.sum-sum.ensures;
      ranked = rw c.ranks.ensures.ranking at c.in_ok-pattern.ensures;
      enough = omega (arith, c.if-sum-threshold.false, c.threshold-threshold.ensures.threshold);
    } in
    rows-push prefixes problem.ranking.order problem.threshold c.len.ensures.prefixes c.ranks.ensures.whole.ranks.once c.loop-number.number
    c.loop-number.rows.items c.push.new.self.items row c.in_ok-push.ensures.items is c.loop-number.invariant

pub returns-clause-frequent : goal.returns-clause-frequent
returns-clause-frequent c =
    let problem = c.args.job.now in
    let prefixes = c.args.counts.now in
    let (levels, are, counted) = c.requires in
    let each : IsEachCounted problem prefixes = c.frequent_patterns_are_counted.ensures.each (data_of problem) problem.ranking.order levels prefixes counted c.len.ensures.prefixes in
    let all : AreAllHeld problem prefixes = c.frequent_patterns_are_counted.ensures.all (data_of problem) problem.ranking.order levels prefixes are counted c.len.ensures.prefixes in
    rows-frequent problem c.hierarchy.ensures.whole prefixes each (rw c.hierarchy.ensures.hierarchy at c.items-items.ensures.within) all c.loop-number.number
    c.loop-number.rows.items (omega (arith, c.loop-number-test.false, c.in_ok-count.ensures, c.len.ensures.count)) c.loop-number.invariant

pub returns-clause-items : goal.returns-clause-items
returns-clause-items c =
    let problem = c.args.job.now in
    let prefixes = c.args.counts.now in
    let (levels, are, counted) = c.requires in
    let each : IsEachCounted problem prefixes = c.frequent_patterns_are_counted.ensures.each (data_of problem) problem.ranking.order levels prefixes counted c.len.ensures.prefixes in
    rows-within problem c.hierarchy.ensures.whole prefixes each (rw c.hierarchy.ensures.hierarchy at c.items-items.ensures.within) c.loop-number.number
    c.loop-number.rows.items c.loop-number.invariant
