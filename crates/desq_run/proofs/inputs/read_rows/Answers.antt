use Rattle.std.proofs.Common.{refl, Some, IsSome, string_bytes}
use Rattle.text_ports.specs.Faults.{Rose}
use Rattle.desq_run.proofs.FailLemmas.{all-named}
use Rattle.desq_run.proofs.ReadLemmas.{no-rows}
use Rattle.desq_run.proofs.inputs.read_rows.Goals as goal

pub returns-in-Some-clause-fails : goal.returns-in-Some-clause-fails
returns-in-Some-clause-fails g c =
    let fails = rw c.as_str.ensures.value at c.read_named.ensures.fails in
    rw c.in-Some.is
    (all-named (g.F.Files.holds c.args.files.now (string_bytes c.in-Some.name))
    (Rose (g.F.Files.faults c.args.files.now) (g.F.Files.faults c.read_named.new.files)) c.read_named.result fails
    (IsSome (Some (string_bytes c.in-Some.name))) refl)

pub returns-in-None-clause-rows : goal.returns-in-None-clause-rows
returns-in-None-clause-rows g c = rw (c.in-None.is, c.requires.empty) no-rows
