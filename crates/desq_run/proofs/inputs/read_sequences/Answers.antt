use Rattle.std.proofs.Common.{ap, ◌∙◌, Err}
use Rattle.text_ports.specs.Faults.{Rose}
use Rattle.desq_run.proofs.FailLemmas.{sequences-fail}
use Rattle.desq_run.proofs.ReadLemmas.{database-of}
use Rattle.desq_run.proofs.inputs.read_sequences.Goals as goal

pub returns-in-Ok-clause-database : goal.returns-in-Ok-clause-database
returns-in-Ok-clause-database g c =
    let read = c.in-Ok.ensures in
    database-of c.args.weighted (g.F.Files.holds c.args.files.now c.args.name.now) c.args.names.now c.read.new.names c.in-Ok.db
    read.sequences read.grown read.accepted

pub returns-in-Err-clause-fails : goal.returns-in-Err-clause-fails
returns-in-Err-clause-fails g c =
    rw c.from.ensures
    (sequences-fail (g.F.Files.holds c.args.files.now c.args.name.now) c.args.weighted c.args.names.now
    (Rose (g.F.Files.faults c.args.files.now) (g.F.Files.faults c.read.new.files)) c.in-Err.fault
    (c.read.ensures.refused c.in-Err.fault c.in-Err.is) (λ same. c.read.ensures.failed (c.in-Err.is ∙ ap Err same)))
