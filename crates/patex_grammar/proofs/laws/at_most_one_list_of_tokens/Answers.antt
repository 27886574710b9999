use Rattle.patex_grammar.proofs.TokenLemmas.{AreTokens-unique}
use Rattle.patex_grammar.proofs.laws.at_most_one_list_of_tokens.Goals as goal

pub returns : goal.returns
returns c = AreTokens-unique
