use Rattle.automaton_model.proofs.RegistryLemmas.{registry-same}
use Rattle.automaton_model.proofs.laws.equal_states_are_one.Goals as goal

pub returns : goal.returns
returns c = λ states registry i j s t p q same. registry-same states registry i j s t p q same
