use Rattle.std.proofs.Common.{◌≡◌, map, length, ap, arith, subst}
use Rattle.place_records.specs.Twins.{twin_sets}
use Rattle.place_records.specs.Blocks.{IsBlock}
use Rattle.place_records.proofs.blocks.join_all.Goals as goal

pub returns : goal.returns
returns g c =
    let all : c.loop-at.at ≡ length c.args.job.now.sequences = omega (arith, c.loop-at-test.false, c.loop-at.invariant.most, c.sequences-count.ensures.count, ap length c.db.ensures.sequences) in
    subst (λ n. IsBlock c.args.job.now c.args.bound c.args.alphabet.now.kinds 0 n (map (twin_sets {W = g.row.W}) c.loop-at.joined.twins.keys) c.loop-at.joined.sequences.items c.loop-at.joined.places) all
    c.loop-at.invariant.block
