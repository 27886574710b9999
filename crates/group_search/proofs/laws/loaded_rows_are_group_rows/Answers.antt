use Rattle.group_search.proofs.LawLemmas.{rows-of-loaded}
use Rattle.group_search.proofs.laws.loaded_rows_are_group_rows.Goals as goal

pub returns : goal.returns
returns c = rows-of-loaded
