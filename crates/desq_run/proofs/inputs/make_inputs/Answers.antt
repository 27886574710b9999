use Rattle.desq_run.proofs.ReadLemmas.{made-inputs}
use Rattle.desq_run.proofs.inputs.make_inputs.Goals as goal

pub returns-clause-inputs : goal.returns-clause-inputs
returns-clause-inputs c = λ holds command expression source.
    made-inputs holds command c.args.count expression c.in_ok-made.made.names c.in_ok-made.made.hierarchy c.in_ok-made.made.db source
    c.in_ok-made.ensures.names c.in_ok-made.ensures.items c.items-items.ensures.within c.in_ok-made.ensures.above c.in_ok-made.ensures.sequences
