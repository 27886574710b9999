use Rattle.std.proofs.Common.{rules}
use Rattle.open_addressing.specs.Table.{home_of}
use Rattle.open_addressing.proofs.home.Goals as goal

pub returns-clause-home : goal.returns-clause-home
unfolding home_of
returns-clause-home c = search rules
