use Rattle.std.proofs.Common.{◌<◌, length, arith, ap}
use Rattle.place_records.proofs.SpanLemmas.{AreSpans-more}
use Rattle.place_records.proofs.blocks.wave_from.Goals as goal

pub loop-at-preserved : goal.loop-at-preserved
loop-at-preserved c =
    let before = c.loop-at.invariant in
    let end = c.end_of-to.ensures in
    let inside : c.loop-at.at < length c.args.job.now.sequences = omega (arith, c.sequences-count.ensures.count, ap length c.db.ensures.sequences, c.loop-at-test.true) in
    let on = end.further inside in
    record {
      spans = rw c.in_ok-push.ensures.items (AreSpans-more c.args.from c.loop-at.at c.loop-at.spans.items c.end_of-to.result before.spans end.order);
      most = end.most;
      order = omega (arith, before.order, end.order);
      further = λ some. omega (arith, on, before.order);
    }
