use Rattle.std.proofs.Common.{length, ◌-◌, map}
use Rattle.patex_parser.specs.Parsing.{use_view}
use Rattle.patex_parser.specs.Scanning.{IsScannedTo}
use Rattle.patex_parser.proofs.scan.scan.Given as goal

abbrev pub invariant-loop-at : goal.invariant-loop-at
invariant-loop-at l = IsScannedTo l.text l.at l.scanned.tokens.items (map use_view l.scanned.uses.items)

abbrev pub decreases-loop-at : goal.decreases-loop-at
decreases-loop-at l = length l.text - l.at
