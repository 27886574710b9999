use Rattle.proof_names.proofs.AnswerProofLemmas.{answer-good}
use Rattle.proof_names.proofs.laws.the_answer_by_names_has_a_good_proof.Goals as goal

pub returns : goal.returns
returns c = λ d known files are few light small least answer bytes is proof.
    answer-good d few light small known files are least answer bytes is proof
