use Rattle.prefix_sieve.proofs.SieveLemmas.{enough_of_more}
use Rattle.prefix_sieve.proofs.laws.one_more_sequence.Goals as goal

pub returns-clause-more : goal.returns-clause-more
returns-clause-more c = enough_of_more
