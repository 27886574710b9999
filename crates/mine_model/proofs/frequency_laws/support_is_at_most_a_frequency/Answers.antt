use Rattle.mine_model.proofs.FrequencyLemmas.{support-le-frequency}
use Rattle.mine_model.proofs.frequency_laws.support_is_at_most_a_frequency.Goals as goal

pub returns : goal.returns
returns c = λ links expression sequences. support-le-frequency links sequences expression
