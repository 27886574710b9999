use Rattle.command_line.proofs.words.given_embedding.Goals as goal

pub returns-in-None : goal.returns-in-None
returns-in-None c rule file gives = c.in-None.ensures rule gives.3
