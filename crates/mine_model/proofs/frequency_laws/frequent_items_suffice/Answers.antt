use Rattle.mine_model.specs.Candidates.{IsFrequentItem}
use Rattle.mine_model.proofs.FrequencyLemmas.{frequent-items, support-by_candidates}
use Rattle.mine_model.proofs.frequency_laws.frequent_items_suffice.Goals as goal

pub returns : goal.returns
returns c = record {
  items = λ d known. frequent-items d.links d.sequences known d.threshold d.expression;
  counted = λ d known.
      support-by_candidates d.links d.sequences known d.threshold (IsFrequentItem d.links d.sequences d.threshold) (λ w is. is) d.expression;
}
