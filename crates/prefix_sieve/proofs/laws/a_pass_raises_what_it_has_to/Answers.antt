use Rattle.prefix_sieve.proofs.FrontLemmas.{pass-raises}
use Rattle.prefix_sieve.proofs.laws.a_pass_raises_what_it_has_to.Goals as goal

pub returns : goal.returns
returns c = pass-raises
