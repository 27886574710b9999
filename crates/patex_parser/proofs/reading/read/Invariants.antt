use Rattle.std.proofs.Common.{take}
use Rattle.patex_parser.specs.View.{state_of}
use Rattle.patex_parser.specs.Reading.{IsBehind}
use Rattle.patex_parser.proofs.reading.read.Given as goal

abbrev pub invariant-loop-token : goal.invariant-loop-token
invariant-loop-token l = IsBehind (take l.token-index l.tokens) (state_of l.machine)
