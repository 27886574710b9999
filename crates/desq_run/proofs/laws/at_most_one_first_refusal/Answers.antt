use Rattle.desq_run.proofs.EndLemmas.{first-unique}
use Rattle.desq_run.proofs.laws.at_most_one_first_refusal.Goals as goal

pub returns : goal.returns
returns c = first-unique
