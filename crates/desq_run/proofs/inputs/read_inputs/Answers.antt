use Rattle.std.proofs.Common.{rules, ◌≡◌, ap, map, Err, string_bytes}
use Rattle.mine_model.specs.declared.fault.Fault.TheVariants.{NoMemory}
use Rattle.command_line.specs.Commands.{source_said, command_said}
use Rattle.desq_run.specs.Ends.{no_memory}
use Rattle.desq_run.proofs.inputs.read_inputs.Goals as goal

pub returns-in_err-make_inputs-in-Make-clause-ends : goal.returns-in_err-make_inputs-in-Make-clause-ends
returns-in_err-make_inputs-in-Make-clause-ends g c = λ words has.
    let same : c.from_residual.result ≡ Err NoMemory = search rules in
    rw same no_memory

pub returns-in_ok-make_inputs-in-Make-clause-inputs : goal.returns-in_ok-make_inputs-in-Make-clause-inputs
returns-in_ok-make_inputs-in-Make-clause-inputs g c =
    c.in_ok-make_inputs-in-Make.ensures.inputs (g.F.Files.holds c.args.files.now) (command_said c.args.command.now) (string_bytes c.in-Make.expression)
    (ap source_said c.in-Make.is)

pub unreachable-requires : goal.unreachable-requires
unreachable-requires g c = c.requires.mined (map string_bytes c.in-Merge.files.items) (ap source_said c.in-Merge.is)
