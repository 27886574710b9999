use Rattle.split_merge.proofs.RefusalLemmas.{merge-unique}
use Rattle.split_merge.proofs.laws.at_most_one_merge_refusal.Goals as goal

pub returns : goal.returns
returns c = merge-unique
