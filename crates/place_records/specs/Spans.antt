-- Blocks of sequences that follow one another.
use Rattle.std.specs.Prelude.{◌≡◌, ℕ, ◌*◌, ◌≤◌, ◌<◌, List, [], ◌∷◌, length, map}
use Rattle.mining_job.specs.declared.bound.Bound.{Bound}
use Rattle.mining_job.specs.Problems.{Problem}
use Rattle.sequence_grids.specs.declared.kinds.Kinds.{Kinds}
use Rattle.sequence_grids.specs.declared.alphabet.Alphabet.{Alphabet}
use Rattle.sequence_grids.specs.Places.{IsAlphabet}
use Rattle.place_records.specs.declared.blocks.Span.{Span}
use Rattle.place_records.specs.declared.blocks.Piece.{Piece}
use Rattle.place_records.specs.Twins.{twin_sets}
use Rattle.place_records.specs.Blocks.{IsBlock}

-- the spans lie one behind another, from the first number to the last
abbrev pub AreSpans : ℕ → List Span → ℕ → Type 0
AreSpans from [] to = from ≡ to
AreSpans from (span ∷ spans) to = (span.from ≡ from) × (from ≤ span.to) × AreSpans span.to spans to

-- the blocks are those of such spans
abbrev pub AreBlocks : {W : ℕ} → Problem → Bound → Kinds → ℕ → List (Piece W) → ℕ → Type 0
AreBlocks {W} problem bound kinds from [] to = from ≡ to
AreBlocks {W} problem bound kinds from (block ∷ blocks) to =
    (mid : ℕ) × (from ≤ mid)
    × IsBlock problem bound kinds from mid (map (twin_sets {W = W}) block.twins.items) block.sequences.items
    block.places
    × AreBlocks {W = W} problem bound kinds mid blocks to

-- the block of the span can be made, in sets of so many words
pub record IsReady (width : ℕ) (problem : Problem) (bound : Bound) (alphabet : Alphabet) (span : Span)
    : Type 0 where
  pub width_is : width ≤ 17
  pub room : length problem.transducer.labels < 64 * width
  pub alphabet_is : IsAlphabet problem bound alphabet.tables alphabet.kinds
  pub order : span.from ≤ span.to
  pub most : span.to ≤ length problem.sequences
