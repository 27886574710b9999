-- The fault of a run that a refusal of its sequences is, and the one that a fault of reading is.
use Rattle.std.specs.Prelude.{◌≡◌, ◌⊎◌}
use Rattle.mine_model.specs.declared.fault.Fault.{Fault}
use Rattle.mine_model.specs.declared.fault.Fault.TheVariants.{BadByte, BadWeight, TooLarge, NameTooLong, TooManyItems, TooManySequences, SequenceTooLong, Read, NoMemory}
use Rattle.mine_model.specs.declared.fault.Which.TheVariants.{Sequences}
use Rattle.text_ports.specs.declared.reading.ReadFault.{ReadFault}
use Rattle.text_ports.specs.declared.reading.ReadFault.TheVariants as reading
use Rattle.sequence_reader.specs.declared.sequence_fault.SequenceFault.{SequenceFault}
use Rattle.sequence_reader.specs.declared.sequence_fault.SequenceFault.TheVariants as sequences

abbrev pub fault_of_sequences : SequenceFault → Fault
fault_of_sequences sequences.ReadFault = Read Sequences
fault_of_sequences sequences.TooLarge = TooLarge Sequences
fault_of_sequences (sequences.BadByte line column) = BadByte Sequences line column
fault_of_sequences (sequences.NameTooLong line column) = NameTooLong Sequences line column
fault_of_sequences (sequences.TooManySequences line) = TooManySequences line
fault_of_sequences (sequences.BadWeight line column) = BadWeight line column
fault_of_sequences (sequences.TooLong line) = SequenceTooLong line
fault_of_sequences (sequences.TooManyItems line) = TooManyItems Sequences line
fault_of_sequences sequences.NoMemory = NoMemory

abbrev pub fault_of_reading : ReadFault → SequenceFault
fault_of_reading reading.Failed = sequences.ReadFault
fault_of_reading reading.TooLarge = sequences.TooLarge
fault_of_reading reading.NoMemory = sequences.NoMemory

-- no line is refused
abbrev pub IsReadingFault : SequenceFault → Type 0
IsReadingFault fault =
    (fault ≡ sequences.ReadFault) ⊎ (fault ≡ sequences.TooLarge) ⊎ (fault ≡ sequences.NoMemory)
