use Rattle.std.proofs.Common.{rules, ◌≡◌, ◌<◌, ◌^◌, length, arith, subst}
use Rattle.mining_job.specs.Problems.{items_of}
use Rattle.sequence_grids.specs.Kinds.{AreMet}
use Rattle.place_records.specs.Filled.{AreKnown}
use Rattle.place_records.specs.Blocks.{IsBlock}
use Rattle.place_records.proofs.block.add_range.Goals as goal

pub add_sequence-requires : goal.add_sequence-requires
add_sequence-requires g c =
    let (order, most) = c.requires.range in
    let width = c.requires.width in
    let inside : c.loop-number.number < length c.args.job.now.sequences = omega (arith, c.loop-number-test.true, most) in
    let over = c.loop-number.invariant.over in
    let met : AreMet c.args.kinds.now (items_of c.args.job.now c.loop-number.number) = c.requires.met c.loop-number.number inside in
    let few : length c.loop-number.block.places < 2 ^ 32 = c.loop-number.invariant.block.filled.few in
    let known : AreKnown c.loop-number.block.twins.twins c.loop-number.block.places = c.loop-number.invariant.block.filled.known in
    search rules

pub loop-number-preserved : goal.loop-number-preserved
loop-number-preserved g c = record {
  over = c.add_sequence.ensures.over;
  block = c.in_ok-add_sequence.ensures.block c.args.from c.loop-number.auto.number c.loop-number.invariant.block;
}

pub returns : goal.returns
returns g c =
    let (order, most) = c.requires.range in
    let all : c.loop-number.number ≡ c.args.to = omega (arith, c.loop-number-test.false, order, c.loop-number.auto.number-end order) in
    subst (λ n. IsBlock c.args.job.now c.args.bound c.args.kinds.now c.args.from n c.loop-number.block.twins.twins c.loop-number.block.sequences.items c.loop-number.block.places) all
    c.loop-number.invariant.block
