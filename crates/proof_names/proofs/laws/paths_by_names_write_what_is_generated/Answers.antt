use Rattle.proof_names.proofs.PathLemmas.{named-path-generates, named-generates-path}
use Rattle.proof_names.proofs.laws.paths_by_names_write_what_is_generated.Goals as goal

pub returns : goal.returns
returns c = λ links tree items output.
    ((λ states passes. named-path-generates links tree states items output passes), (λ generates. named-generates-path links tree items output generates))
