use Rattle.mine_model.proofs.SupportLemmas.{Counts-unique}
use Rattle.mine_model.specs.Generation.{IsPatternOf}
use Rattle.mine_model.proofs.laws.at_most_one_support.Goals as goal

pub returns : goal.returns
returns c d pattern m n = Counts-unique (λ items. IsPatternOf d.links d.expression items pattern) d.sequences m n
