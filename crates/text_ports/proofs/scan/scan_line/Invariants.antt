use Rattle.std.proofs.Common.{length, ◌-◌, ◌+◌}
use Rattle.text_ports.specs.Scanning.{IsScanned}
use Rattle.text_ports.proofs.scan.scan_line.Given as goal

abbrev pub invariant-loop-end : goal.invariant-loop-end
invariant-loop-end l = IsScanned l.rest l.at l.spans.items

abbrev pub decreases-loop-end : goal.decreases-loop-end
decreases-loop-end l = length l.rest + 1 - l.at
