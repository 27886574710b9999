use Rattle.group_search.proofs.LawLemmas.{pivot-searched}
use Rattle.group_search.proofs.laws.pivot_codes_are_searched.Goals as goal

pub returns : goal.returns
returns c = pivot-searched
