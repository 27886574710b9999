use Rattle.walk_memo.proofs.CutLemmas.{same_actions}
use Rattle.walk_memo.proofs.laws.cut_sets_have_the_same_actions.Goals as goal

pub returns : goal.returns
returns c = same_actions
