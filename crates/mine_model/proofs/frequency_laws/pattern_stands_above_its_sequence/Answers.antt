use Rattle.mine_model.proofs.AboveLemmas.{pattern-above, pattern-shorter}
use Rattle.mine_model.proofs.frequency_laws.pattern_stands_above_its_sequence.Goals as goal

pub returns : goal.returns
returns c = record { shorter = pattern-shorter; above = pattern-above }
