use Rattle.std.proofs.Common.{◌++◌, ◌∷◌, [], List, ℕ, ap, ◌∙◌}
use Rattle.std.specs.declared.alloc.Global.{Global}
use Rattle.std.specs.declared.vec.Vec.{Vec}
use Rattle.text_ports.specs.declared.lines.Span.{Span}
use Rattle.split_merge.proofs.FormLemmas.{joined-first, joined-next, text_at}
use Rattle.split_merge.proofs.row_line.join.Goals as goal
use Rattle.split_merge.proofs.row_line.join.Goals.{then-at-gt0+in_ok-push, else-at-gt0}

abbrev no_span : Span
no_span = record { from = 0; to = 0 }

pub loop-at-preserved : goal.loop-at-preserved
loop-at-preserved c =
    let e = c.in_ok-extend_from_slice.ensures.items in
    let items : Vec ℕ Global → List ℕ = λ v. v.items in
    elim c.if-at-gt0.branch [
      | then-at-gt0+in_ok-push w ↦ joined-next c.args.text.now c.args.names.now c.loop-at.at no_span c.loop-at.joined.items c.extend_from_slice.new.self.items c.loop-at-test.true w.if-at-gt0.true
          c.loop-at.invariant (e ∙ ap (λ j. j ++ text_at c.args.text.now (Rattle.std.proofs.Common.get_or c.args.names.now c.loop-at.at no_span)) (ap items w.joined-is ∙ w.in_ok-push.ensures.items))
      | else-at-gt0 w ↦ joined-first c.args.text.now c.args.names.now c.loop-at.at no_span c.loop-at.joined.items c.extend_from_slice.new.self.items c.loop-at-test.true w.if-at-gt0.false
          c.loop-at.invariant (e ∙ ap (λ j. j ++ text_at c.args.text.now (Rattle.std.proofs.Common.get_or c.args.names.now c.loop-at.at no_span)) (ap items w.joined-is))
    ]
