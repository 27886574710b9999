use Rattle.std.proofs.Common.{◌≡◌, ◌<◌, ◌++◌, ◌∙◌, ℕ, Some, IfSome, length, take, subst}
use Rattle.mine_model.specs.declared.mined.Work.{Work}
use Rattle.command_line.specs.Commands.{command_said}
use Rattle.desq_run.specs.Said.{checked_text}
use Rattle.desq_run.specs.Ends.{write_fault}
use Rattle.desq_run.proofs.CheckLemmas.{judged-done, judged-text}
use Rattle.desq_run.proofs.TextLemmas.{suits-check}
use Rattle.desq_run.proofs.checking.check.Goals as goal

pub returns-in-Ok-clause-done : goal.returns-in-Ok-clause-done
returns-in-Ok-clause-done g c = λ words is.
    let command = command_said c.args.command.now in
    let none : Work = record { nodes = 0; parts = 0; candidates = 0 } in
    judged-done words (g.F.Files.holds c.args.files.now) command c.in_ok-rows.rows (c.in_ok-rows.ensures.judged words is) none
    (suits-check command c.args.proof.now c.requires.task c.requires.suits).1

pub returns-in-Ok-clause-written : goal.returns-in-Ok-clause-written
returns-in-Ok-clause-written g c = λ words input said is.
    let text = c.as_bytes.ensures.value ∙ c.as_str.ensures.value ∙ c.told_of.ensures in (
      checked_text c.in_ok-rows.rows,
      judged-text words (g.F.Files.holds c.args.files.now) (command_said c.args.command.now) c.in_ok-rows.rows (c.in_ok-rows.ensures.judged words said)
          c.args.proof.now c.requires.task input is,
      subst (λ text. IfSome (g.O.Sink.written c.args.out.now) (λ told. g.O.Sink.written c.write_all.new.sink ≡ Some (told ++ text))) text c.in-Ok.ensures.written,
    )

pub returns-in-Err-clause-ends : goal.returns-in-Err-clause-ends
returns-in-Err-clause-ends g c = λ words is.
    let ended = c.in_ok-rows.ensures.judged words is in
    write_fault (command_said c.args.command.now) ended.source ended.hierarchy ended.mined ended.accepted

pub returns-in-Err-clause-cut : goal.returns-in-Err-clause-cut
returns-in-Err-clause-cut g c = λ failed words input said is.
    let text = c.as_bytes.ensures.value ∙ c.as_str.ensures.value ∙ c.told_of.ensures in (
      checked_text c.in_ok-rows.rows,
      judged-text words (g.F.Files.holds c.args.files.now) (command_said c.args.command.now) c.in_ok-rows.rows (c.in_ok-rows.ensures.judged words said)
          c.args.proof.now c.requires.task input is,
      subst (λ text. IfSome (g.O.Sink.written c.args.out.now) (λ told. (n : ℕ) × (n < length text)
          × (g.O.Sink.written c.write_all.new.sink ≡ Some (told ++ take n text)))) text c.in-Err.ensures.cut,
    )
