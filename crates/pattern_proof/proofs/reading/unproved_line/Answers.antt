use Rattle.std.proofs.Common.{ap, arith}
use Rattle.std.specs.Option.{option_map}
use Rattle.pattern_proof.specs.Taking.{open_row_of}
use Rattle.pattern_proof.proofs.reading.unproved_line.Goals as goal

pub returns-in-Some : goal.returns-in-Some
returns-in-Some c = (open_row_of c.in-Some.above, ap (option_map open_row_of) c.in-Some.is, (λ enough. let less = c.if-above.true in omega (arith, less, enough)), (cc))
