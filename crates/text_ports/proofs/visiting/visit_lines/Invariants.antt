use Rattle.std.proofs.Common.{length, ◌+◌, ◌≤◌}
use Rattle.text_ports.proofs.VisitLemmas.{IsVisited}
use Rattle.text_ports.proofs.visiting.visit_lines.Given as goal

abbrev pub invariant-loop-rest : goal.invariant-loop-rest
invariant-loop-rest g l = record {
  visited : IsVisited g.V.LineVisitor.took l.bytes l.rest l.count l.fn.visitor l.visitor;
  room : l.count + length l.rest ≤ length l.bytes;
}

abbrev pub decreases-loop-rest : goal.decreases-loop-rest
decreases-loop-rest g l = length l.rest
