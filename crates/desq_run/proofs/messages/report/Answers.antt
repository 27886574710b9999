use Rattle.std.proofs.Common.{rules, ◌≡◌}
use Rattle.text_ports.specs.Faults.{Rose}
use Rattle.mine_model.specs.Status.{message_of}
use Rattle.desq_run.proofs.Told.{written_of}
use Rattle.desq_run.proofs.messages.report.Goals as goal

pub returns-clause-reported : goal.returns-clause-reported
returns-clause-reported g c =
    let all = written_of c.write_all.result (g.E.Sink.written c.args.err.now) (g.E.Sink.written c.write_all.new.sink) c.as_bytes.result.now
    (Rose (g.E.Sink.faults c.args.err.now) (g.E.Sink.faults c.write_all.new.sink))
    c.write_all.ensures.written c.write_all.ensures.cut c.write_all.ensures.failed in
    let same : c.as_bytes.result.now ≡ message_of c.args.outcome.now = search rules in
    rw same at all
