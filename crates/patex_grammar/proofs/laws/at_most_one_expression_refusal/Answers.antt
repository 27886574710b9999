use Rattle.patex_grammar.proofs.RefusalLemmas.{IsExpressionRefusal-unique}
use Rattle.patex_grammar.proofs.laws.at_most_one_expression_refusal.Goals as goal

pub returns : goal.returns
returns c = IsExpressionRefusal-unique
