use Rattle.command_line.proofs.words.said.Goals as goal

pub returns-in-None : goal.returns-in-None
returns-in-None c rules = c.in-None.ensures rules.support.0 rules.support.1
