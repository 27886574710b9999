use Rattle.std.proofs.Common.{◌∙◌, arith, rules, refl}
use Rattle.stand_sums.proofs.SumLemmas.{touched-within, cleared-more, cleared-all}
use Rattle.stand_sums.proofs.counting.forget.Goals as goal

pub index_mut-requires : goal.index_mut-requires
index_mut-requires c =
    let (number, are) = c.requires in
    let within = touched-within c.loop-rank.sums.items c.args.touched.now c.loop-rank.rank-index c.loop-rank-test.true number c.args.sums.now.items are c.loop-rank.invariant.room in
    search rules

pub loop-rank-preserved : goal.loop-rank-preserved
loop-rank-preserved c =
    let (number, are) = c.requires in
    let within = touched-within c.loop-rank.sums.items c.args.touched.now c.loop-rank.rank-index c.loop-rank-test.true number c.args.sums.now.items are c.loop-rank.invariant.room in
    record {
      room = search rules;
      rest = cleared-more c.loop-rank.sums.items c.args.touched.now c.loop-rank.rank-index c.loop-rank-test.true within c.loop-rank.invariant.rest;
    }

pub returns : goal.returns
returns c =
    cleared-all c.loop-rank.sums.items c.args.touched.now c.loop-rank.rank-index (omega arith) c.loop-rank.invariant.rest ∙ (rw c.loop-rank.invariant.room refl)
