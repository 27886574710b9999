use Rattle.desq_run.proofs.TextLemmas.{text-unique}
use Rattle.desq_run.proofs.laws.at_most_one_text.Goals as goal

pub returns : goal.returns
returns c input first second other is is' = text-unique input.command.task input first second other is is'
