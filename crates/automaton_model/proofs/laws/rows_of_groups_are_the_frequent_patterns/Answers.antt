use Rattle.automaton_model.proofs.PivotLemmas.{rows-exact, all-exact}
use Rattle.automaton_model.proofs.laws.rows_of_groups_are_the_frequent_patterns.Goals as goal

pub returns : goal.returns
returns c = record {
  one = λ d order pivot numbers groups are grouped_are least row. rows-exact d order pivot numbers are groups grouped_are least row;
  all = λ d order pivot numbers groups are grouped_are least rows are_rows. all-exact d order pivot numbers are groups grouped_are least rows are_rows;
}
