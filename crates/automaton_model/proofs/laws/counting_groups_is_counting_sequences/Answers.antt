use Rattle.automaton_model.proofs.PivotLemmas.{groups-count}
use Rattle.automaton_model.proofs.laws.counting_groups_is_counting_sequences.Goals as goal

pub returns : goal.returns
returns c = λ d order pivot sequences groups are ranks n. groups-count d order pivot sequences groups are ranks n
