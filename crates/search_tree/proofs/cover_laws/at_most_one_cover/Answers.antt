use Rattle.search_tree.proofs.CoverLemmas as cover
use Rattle.search_tree.proofs.cover_laws.at_most_one_cover.Goals as goal

pub returns : goal.returns
returns c roots kids longer first second p q = cover.at_most_one_cover roots kids longer first second p q
