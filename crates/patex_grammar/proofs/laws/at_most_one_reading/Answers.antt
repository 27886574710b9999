use Rattle.patex_grammar.proofs.RefusalLemmas.{ReadsAs-unique}
use Rattle.patex_grammar.proofs.laws.at_most_one_reading.Goals as goal

pub returns : goal.returns
returns c = ReadsAs-unique
