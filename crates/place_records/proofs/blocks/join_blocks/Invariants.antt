use Rattle.std.proofs.Common.{ℕ, map, drop}
use Rattle.mining_job.specs.declared.bound.Bound.{Bound}
use Rattle.mining_job.specs.Problems.{Problem}
use Rattle.sequence_grids.specs.declared.kinds.Kinds.{Kinds}
use Rattle.place_records.specs.Twins.{twin_sets}
use Rattle.place_records.specs.Blocks.{IsBlock}
use Rattle.place_records.specs.Spans.{AreBlocks}
use Rattle.place_records.proofs.blocks.join_blocks.Given as goal

abbrev pub invariant-loop-block : goal.invariant-loop-block
invariant-loop-block g l =
    (problem : Problem) (bound : Bound) (kinds : Kinds) (at to : ℕ) → AreBlocks {W = g.row.W} problem bound kinds at l.blocks to
    → IsBlock problem bound kinds 0 at (map (twin_sets {W = g.row.W}) l.fn.joined.twins.keys) l.fn.joined.sequences.items l.fn.joined.places
    → (mid : ℕ) × AreBlocks {W = g.row.W} problem bound kinds mid (drop l.block-index l.blocks) to
    × IsBlock problem bound kinds 0 mid (map (twin_sets {W = g.row.W}) l.joined.twins.keys) l.joined.sequences.items l.joined.places
