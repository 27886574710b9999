-- How a line becomes a sequence, and why it is refused.
use Rattle.std.specs.Prelude.{◌≡◌, ℕ, zero, suc, ◌+◌, ◌≤◌, ◌<◌, Bool, List, [], ◌∷◌, ◌++◌, map, length}
use Rattle.std.specs.List.{AllByRecursion, flat_map, slice_index_or}
use Rattle.mine_model.specs.declared.item.Item.{Item}
use Rattle.sequence_reader.specs.declared.sequence_fault.SequenceFault.{SequenceFault}
use Rattle.sequence_reader.specs.declared.sequence_fault.SequenceFault.TheVariants.{ReadFault, TooLarge, BadByte, NameTooLong, TooManySequences, BadWeight, TooLong, TooManyItems, NoMemory}
use Rattle.mine_model.specs.Limits.{most_sequences, most_length, most_items}
use Rattle.mine_model.specs.Text.{fields_of, placed_fields_of, IsSoundLine}
use Rattle.mine_model.specs.Support.{Sequence}
use Rattle.mine_model.specs.Names.{name_of, HasName, sequence_by, GrowBy}
use Rattle.mine_model.specs.Refusal.{sequence_of, sequences_of_lines, items_of, IsBadWeight, HasMoreNames}
use Rattle.sequence_reader.specs.declared.reading.Reading.{Reading}
use Rattle.sequence_reader.specs.declared.piece.Piece.{Piece}
use Rattle.sequence_reader.specs.declared.joining.Waiting.{Waiting}

-- the sequence that a line says to a reader
abbrev pub said_to : Reading → List ℕ → Sequence (List ℕ)
said_to reading text = sequence_of reading.weighted (fields_of text)

-- the line has its weight, where it needs one
abbrev pub IsWeighed : Reading → List ℕ → Type 0
IsWeighed reading text = (column : ℕ) → IsBadWeight reading.weighted (placed_fields_of text) column → ⊥

-- the line became one more sequence
pub record TookLine (before : Reading) (number : ℕ) (text : List ℕ) (after : Reading) : Type 0 where
  pub sound : IsSoundLine text
  pub few : length before.db < most_sequences
  pub weighed : IsWeighed before text
  pub short : length (said_to before text).items ≤ most_length
  pub grown : GrowBy before.names (said_to before text).items after.names
  pub room : length after.names ≤ most_items
  pub sequence : Sequence Item
  pub pushed : after.db ≡ before.db ++ sequence ∷ []
  pub named : AllByRecursion (HasName after.names) sequence.items
  pub said : sequence_by (name_of after.names) sequence ≡ said_to before text
  pub same : after.weighted ≡ before.weighted

-- why a line was refused; want of memory may come at any time
abbrev pub IsLineFault : Reading → ℕ → List ℕ → SequenceFault → Type 0
IsLineFault before number text ReadFault = ⊥
IsLineFault before number text TooLarge = ⊥
IsLineFault before number text (BadByte line column) = ⊥
IsLineFault before number text (NameTooLong line column) = ⊥
IsLineFault before number text (TooManySequences line) = (line ≡ number) × (most_sequences ≤ length before.db)
IsLineFault before number text (BadWeight line column) =
    (line ≡ number) × (length before.db < most_sequences)
    × IsBadWeight before.weighted (placed_fields_of text) column
IsLineFault before number text (TooLong line) =
    (line ≡ number) × (length before.db < most_sequences) × IsWeighed before text
    × (most_length < length (said_to before text).items)
IsLineFault before number text (TooManyItems line) =
    (line ≡ number) × (length before.db < most_sequences) × IsWeighed before text
    × (length (said_to before text).items ≤ most_length)
    × HasMoreNames most_items (before.names ++ (said_to before text).items)
IsLineFault before number text NoMemory = Unit {0}

-- the line was refused, and the old names stay in front; its number is that of the next sequence
pub record RefusedLine (before : Reading) (number : ℕ) (text : List ℕ) (fault : SequenceFault)
    (after : Reading)
    : Type 0 where
  pub why : IsLineFault before (length before.db + 1) text fault
  pub added : List (List ℕ)
  pub kept : after.names ≡ before.names ++ added

-- nothing is wrong with the line alone
pub record IsGoodLine (weighted : Bool) (text : List ℕ) : Type 0 where
  pub sound : IsSoundLine text
  pub weighed : (column : ℕ) → IsBadWeight weighted (placed_fields_of text) column → ⊥
  pub short : length (sequence_of weighted (fields_of text)).items ≤ most_length

-- the sequences of these lines were read, where the names were known before
pub record IsTaken (known : List (List ℕ)) (weighted : Bool) (lines : List (List ℕ)) (reading : Reading)
    : Type 0 where
  pub same : reading.weighted ≡ weighted
  pub good : AllByRecursion (IsGoodLine weighted) lines
  pub few : length lines ≤ most_sequences
  pub grown : GrowBy known (items_of (sequences_of_lines weighted lines)) reading.names
  pub room : length reading.names ≤ most_items
  pub named : AllByRecursion (λ sequence. AllByRecursion (HasName reading.names) sequence.items) reading.db
  pub said : map (sequence_by (name_of reading.names)) reading.db ≡ sequences_of_lines weighted lines

-- the item that has the number of this one
abbrev pub renumbered : List Item → Item → Item
renumbered numbers item = slice_index_or numbers item.0 (record { 0 = 0 })

-- the same by these names, and its own behind them
abbrev pub behind : List (List ℕ) → Reading → Reading
behind known reading = record {
  weighted = reading.weighted;
  names = known ++ reading.names;
  items = reading.items;
  db = reading.db;
}

-- a line of a piece became one more sequence, by the known names and the piece's own
pub record TookPieceLine (before : Piece) (number : ℕ) (text : List ℕ) (after : Piece) : Type 0 where
  pub known : after.known ≡ before.known
  pub took : TookLine (behind before.known.now before.own) number text (behind before.known.now after.own)

-- the items with the numbers below this one
abbrev pub numbers_below : ℕ → List Item
numbers_below zero = []
numbers_below (suc n) = numbers_below n ++ (record { 0 = n }) ∷ []

-- the sequences of a piece by the numbers that its items have got
abbrev pub sequences_waiting : Waiting → List (Sequence Item)
sequences_waiting piece =
    map (sequence_by (renumbered (numbers_below piece.known ++ piece.own.items))) piece.db

abbrev pub all_waiting : List Waiting → List (Sequence Item)
all_waiting pieces = flat_map sequences_waiting pieces

-- the same with the sequences that wait behind the others
abbrev pub with_waiting : Reading → List Waiting → Reading
with_waiting reading pieces = record {
  weighted = reading.weighted;
  names = reading.names;
  items = reading.items;
  db = reading.db ++ all_waiting pieces;
}
