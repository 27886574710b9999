use Rattle.prefix_sieve.proofs.SieveLemmas.{enough_of_all}
use Rattle.prefix_sieve.proofs.laws.shares_join.Goals as goal

pub returns : goal.returns
returns c = enough_of_all
