use Rattle.automaton_model.proofs.SearchLemmas.{too-light}
use Rattle.automaton_model.proofs.laws.light_prefixes_have_no_rows.Goals as goal

pub returns : goal.returns
returns c = λ groups prefix more n m threshold begun light counted enough. too-light groups prefix more n m threshold begun light counted enough
