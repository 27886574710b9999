use Rattle.std.proofs.Common.{rules}
use Rattle.place_records.specs.Blocks.{IsOver, IsBlock}
use Rattle.place_records.proofs.block.block_of.Goals as goal

pub add_range-requires : goal.add_range-requires
add_range-requires g c =
    let width = c.requires.width in
    let over : IsOver c.args.job.now c.args.bound c.args.kinds.now c.in_ok-block.block.twins = c.in_ok-block.ensures.over in
    let met = c.requires.alphabet.met in
    let range = c.requires.range in
    let none : IsBlock c.args.job.now c.args.bound c.args.kinds.now c.args.from c.args.from c.in_ok-block.block.twins.twins c.in_ok-block.block.sequences.items c.in_ok-block.block.places =
    c.in_ok-block.ensures.none c.args.from in
    search rules
