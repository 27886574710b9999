use Rattle.mine_model.specs.PartitionWork.{IsBytewiseBefore}
use Rattle.automaton_model.proofs.NamedWorkLemmas.{set-work-unique}
use Rattle.automaton_model.proofs.laws.at_most_one_candidate_set_work.Goals as goal

pub returns : goal.returns
returns c = set-work-unique IsBytewiseBefore
