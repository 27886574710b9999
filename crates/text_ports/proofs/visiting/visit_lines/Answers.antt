use Rattle.std.proofs.Common.{◌≡◌, ◌+◌, ◌≤◌, ◌<◌, length, length-drop, drop, arith, ap, sym, ◌∙◌, subst}
use Rattle.std.proofs.lemmas.List.{take_rest, nil_from_length}
use Rattle.text_ports.proofs.VisitLemmas.{IsVisited, IsVisited-more, TookAll-end, StoppedAt-here, Refused-here}
use Rattle.text_ports.proofs.visiting.visit_lines.Goals as goal

pub loop-rest-preserved : goal.loop-rest-preserved
loop-rest-preserved g c =
    let (text, begins, sound, took_it) = c.in_ok-next.ensures.lines in
    record {
      visited = subst (λ w. IsVisited g.V.LineVisitor.took c.args.bytes.now w (c.loop-rest.count + 1) c.args.visitor.now c.visit_line.new.visitor)
          (sym (take_rest c.loop-rest.rest.now c.in_ok-next.next))
          (IsVisited-more g.V.LineVisitor.took c.args.bytes.now c.loop-rest.rest.now (drop c.in_ok-next.next c.loop-rest.rest.now) c.loop-rest.count c.args.visitor.now c.loop-rest.visitor c.visit_line.new.visitor
          text c.loop-rest.invariant.visited begins sound took_it);
      room =
          let next = c.in_ok-next.ensures.next in
          let room = c.loop-rest.invariant.room in
          let left = ap length (take_rest c.loop-rest.rest.now c.in_ok-next.next) ∙ length-drop c.in_ok-next.next c.loop-rest.rest.now in
          omega (arith, next, room, left);
    }
