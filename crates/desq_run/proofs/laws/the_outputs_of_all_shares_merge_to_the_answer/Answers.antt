use Rattle.desq_run.proofs.SharedLemmas.{merge-accepted, merge-bytes, merge-run}
use Rattle.desq_run.proofs.laws.the_outputs_of_all_shares_merge_to_the_answer.Goals as goal

pub returns-clause-accepted : goal.returns-clause-accepted
returns-clause-accepted c input of part answer numbers refused runs accepted is all few refusal =
    merge-accepted input of part answer numbers runs accepted is refused all few refusal

pub returns-clause-bytes : goal.returns-clause-bytes
returns-clause-bytes c input of part answer merge numbers runs accepted is all is_merge =
    merge-bytes input of part answer numbers runs accepted is merge all is_merge

pub returns-clause-run : goal.returns-clause-run
returns-clause-run c input merging of part answer numbers runs accepted is all few run =
    merge-run input of part answer numbers runs accepted is merging all few run
