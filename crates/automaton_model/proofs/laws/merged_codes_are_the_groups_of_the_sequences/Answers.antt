use Rattle.automaton_model.proofs.CodedLemmas.{coded-groups}
use Rattle.automaton_model.proofs.laws.merged_codes_are_the_groups_of_the_sequences.Goals as goal

pub returns : goal.returns
returns c = λ d order pivot sequences parts groups zip few are. coded-groups d order pivot sequences parts groups zip few are
