use Rattle.std.proofs.Common.{rules, map}
use Rattle.std.specs.List.{All}
use Rattle.place_records.specs.declared.blocks.Piece.{Piece}
use Rattle.place_records.specs.Twins.{twin_sets}
use Rattle.place_records.specs.Filled.{AreKnown}
use Rattle.place_records.specs.Spans.{AreSpans, AreBlocks, IsReady}
use Rattle.place_records.proofs.SpanLemmas.{AreSpans-ready, AreBlocks-known}
use Rattle.place_records.proofs.blocks.join_wave.Goals as goal

pub blocks_of-requires-after_bounds : goal.blocks_of-requires-after_bounds
blocks_of-requires-after_bounds g c =
    let ready : All (IsReady g.row.W c.args.job.now c.args.bound c.args.alphabet.now) c.as_slice-spans.result.now =
    rw c.as_slice-spans.ensures.value (AreSpans-ready g.row.W c.args.job.now c.args.bound c.args.alphabet.now c.requires.width c.requires.room c.requires.alphabet c.args.at c.args.wave.now.spans.items c.args.wave.now.to c.requires.spans c.requires.most) in
    search rules

pub join_blocks-requires : goal.join_blocks-requires
join_blocks-requires g c =
    let width = c.requires.width in
    let spans : AreSpans c.args.at c.as_slice-spans.result.now c.args.wave.now.to = rw c.as_slice-spans.ensures.value c.requires.spans in
    let are : AreBlocks {W = g.row.W} c.args.job.now c.args.bound c.args.alphabet.now.kinds c.args.at c.in_ok-blocks.blocks.items c.args.wave.now.to = c.in_ok-blocks.ensures c.args.at c.args.wave.now.to spans in
    let known : All (λ (block : Piece g.row.W). AreKnown (map (twin_sets {W = g.row.W}) block.twins.items) block.places) c.as_slice.result.now =
    rw c.as_slice.ensures.value (AreBlocks-known {W = g.row.W} c.args.job.now c.args.bound c.args.alphabet.now.kinds c.args.at c.in_ok-blocks.blocks.items c.args.wave.now.to are) in
    search rules
