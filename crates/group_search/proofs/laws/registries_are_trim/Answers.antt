use Rattle.group_search.proofs.LawLemmas.{registry-trim, registry-short}
use Rattle.group_search.proofs.laws.registries_are_trim.Goals as goal

pub returns-clause-trim : goal.returns-clause-trim
returns-clause-trim c = registry-trim

pub returns-clause-short : goal.returns-clause-short
returns-clause-short c = registry-short
