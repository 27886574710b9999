-- The fault of a run that a refusal of its expression is.
use Rattle.mine_model.specs.declared.fault.Fault.{Fault}
use Rattle.mine_model.specs.declared.fault.Fault.TheVariants.{BadToken, BadRepeat, Unexpected, Unknown, BadByte, BadWeight, Cycle, ExprTooLong, RepeatLimit, TooDeep, TooManyLeaves, TooLarge, NameTooLong, TooManyItems, TooManyAncestors, TooManySequences, SequenceTooLong, Read, NoMemory}
use Rattle.mine_model.specs.declared.fault.Which.TheVariants.{Hierarchy, Sequences}
use Rattle.patex_parser.specs.declared.patex_fault.PatexFault.{PatexFault}
use Rattle.patex_parser.specs.declared.patex_fault.PatexFault.TheVariants as patex

abbrev pub fault_of : PatexFault → Fault
fault_of patex.TooLong = ExprTooLong
fault_of (patex.BadToken column) = BadToken column
fault_of (patex.BadRepeat column) = BadRepeat column
fault_of (patex.RepeatLimit column) = RepeatLimit column
fault_of (patex.Unexpected column) = Unexpected column
fault_of (patex.TooDeep column) = TooDeep column
fault_of (patex.TooManyLeaves count) = TooManyLeaves count
fault_of (patex.Unknown column) = Unknown column
fault_of patex.NoMemory = NoMemory
