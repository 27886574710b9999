-- The items of a problem whose links lead to its items alone.
use Rattle.std.proofs.Common.{◌≡◌, ℕ, ◌≤◌, ◌<◌, arith}
use Rattle.std.specs.List.{All, AllByRecursion}
use Rattle.mine_model.specs.declared.item.Item.{Item}
use Rattle.mine_model.specs.declared.row.Row.{Row}
use Rattle.mine_model.specs.Answer.{IsFrequent}
use Rattle.mine_model.specs.Candidates.{IsFrequentItem}
use Rattle.mine_model.specs.Support.{HasFrequency}
use Rattle.mine_model.specs.Numbered.{tree_of}
use Rattle.mine_model.proofs.ListLemmas.{AllByRecursion-weaker}
use Rattle.mine_model.proofs.FrequencyLemmas.{HasFrequency-within, frequencies-known, frequent-items}
use Rattle.mining_job.specs.Problems.{Problem, data_of, IsWhole}

module _ (problem : Problem) (whole : IsWhole problem)
    (ends : All (λ link. (link.child.0 < problem.hierarchy.items) × (link.parent.0 < problem.hierarchy.items)) problem.hierarchy.links) where
  pub items-known : (w : Item) → (m : ℕ) × HasFrequency problem.hierarchy.links problem.sequences w m
  items-known = frequencies-known problem.hierarchy.links problem.hierarchy.items ends problem.sequences problem.ranking.frequencies whole.items whole.ranked whole.ranks.exact

  -- a frequent pattern has items of the problem
  pub frequent-within : (row : Row) → IsFrequent (data_of problem) row.pattern row.support → AllByRecursion (λ (t : Item). t.0 < problem.hierarchy.items) row.pattern
  frequent-within row is =
      AllByRecursion-weaker (IsFrequentItem problem.hierarchy.links problem.sequences problem.threshold) (λ (t : Item). t.0 < problem.hierarchy.items)
      (λ v frequent. HasFrequency-within problem.hierarchy.links problem.hierarchy.items ends problem.sequences v frequent.frequency whole.items frequent.exact
      (omega (arith, whole.least, frequent.enough)))
      row.pattern
      (frequent-items problem.hierarchy.links problem.sequences items-known problem.threshold (tree_of problem.transducer.expression) row.pattern row.support is.exact is.enough)
