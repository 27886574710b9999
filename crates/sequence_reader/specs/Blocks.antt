-- The bytes of a file, block by block.
use Rattle.std.specs.Prelude.{◌≡◌, ℕ, ◌+◌, ◌≤◌, ◌<◌, false, if◌then◌else◌, List, [], ◌∷◌, ◌++◌, length, take, drop, Option, Some, IsTrue, IfSome}
use Rattle.mine_model.specs.Bytes.{line_feed}
use Rattle.mine_model.specs.Limits.{most_file_bytes}
use Rattle.mine_model.specs.Text.{without_mark, lines_of}
use Rattle.text_ports.specs.Scanning.{lines_behind}
use Rattle.sequence_reader.specs.declared.block.Block.{Block}

-- the bytes that a block has
abbrev pub bytes_of : Block → List ℕ
bytes_of block = take block.filled block.buffer.items

-- the whole lines that they begin with
abbrev pub whole_lines : Block → List ℕ
whole_lines block = take block.lines block.buffer.items

-- what stands behind those
abbrev pub rest_of : Block → List ℕ
rest_of block = drop block.lines (bytes_of block)

-- the lines without the mark that a file may begin with
abbrev pub text_of : Block → List ℕ
text_of block = if block.is_first then without_mark (whole_lines block) else whole_lines block

-- bytes that end with a line feed
abbrev pub EndsWithFeed : List ℕ → Type 0
EndsWithFeed bytes = (front : List ℕ) × (bytes ≡ front ++ line_feed ∷ [])

-- the lines of a block are whole: they end with a line feed, or with the file
pub record IsBlock (block : Block) : Type 0 where
  pub some : 0 < length block.buffer.items
  pub lines : block.lines ≤ block.filled
  pub filled : block.filled ≤ length block.buffer.items
  pub read : block.filled ≤ block.total
  pub few : block.total ≤ most_file_bytes
  pub whole : IsTrue block.is_last → block.lines ≡ block.filled
  pub ends : block.is_last ≡ false → EndsWithFeed (whole_lines block)

-- a block begins in the file where the lines of another end
pub record IsNext (before block : Block) : Type 0 where
  pub is : IsBlock block
  pub place : block.total + before.filled ≡ before.total + before.lines + block.filled

-- Bytes were read behind those of a block: what was left of the file before, and what is left now.
abbrev pub WereAdded : Option (List ℕ) → Option (List ℕ) → Block → Block → Type 0
WereAdded left after before block = IfSome left (λ rest. (more later : List ℕ) × (rest ≡ more ++ later)
    × (after ≡ Some later) × (bytes_of block ≡ bytes_of before ++ more)
    × (block.total ≡ before.total + length more))

-- Bytes were read and counted.
abbrev pub WereCounted : Option (List ℕ) → Option (List ℕ) → ℕ → ℕ → Type 0
WereCounted left after before total = IfSome left (λ rest. (later : List ℕ)
    × (after ≡ Some later) × (before + length rest ≡ total + length later))

-- Of the file with these bytes, if they are told, these lines stand before a block, and so much is left
-- behind it.
abbrev pub IsAt : Option (List ℕ) → Option (List ℕ) → List (List ℕ) → Block → Type 0
IsAt told left lines block = IfSome told (λ whole. (rest : List ℕ) × (left ≡ Some rest)
    × (IsTrue block.is_last → rest ≡ [])
    × (lines_of whole ≡ lines ++ lines_behind (text_of block) ++ lines_behind (rest_of block ++ rest))
    × (length whole ≡ block.total + length rest))
