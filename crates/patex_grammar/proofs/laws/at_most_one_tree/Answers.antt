use Rattle.patex_grammar.proofs.Unambiguous.{unambiguous}
use Rattle.patex_grammar.proofs.laws.at_most_one_tree.Goals as goal

pub returns : goal.returns
returns c = unambiguous
