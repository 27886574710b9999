-- What the sums of the counted lists say of the frequent patterns.
use Rattle.std.proofs.Common.{◌≡◌, ℕ, ◌<◌, ◌≤◌, ◌↔◌, Some, List, length, get_or, subst, arith}
use Rattle.std.specs.List.{slice_get, All, AllByRecursion, Contains}
use Rattle.std.proofs.lemmas.List.Elements.{Contains-get_or}
use Rattle.mine_model.specs.declared.item.Item.{Item}
use Rattle.mine_model.specs.declared.row.Row.{Row}
use Rattle.mine_model.specs.Numbered.{tree_of}
use Rattle.mine_model.specs.Support.{Counts, HasSupport}
use Rattle.mine_model.specs.Candidates.{IsFrequentItem, IsCandidate}
use Rattle.mine_model.specs.Ranks.{AreRanked}
use Rattle.mine_model.specs.Answer.{IsFrequent}
use Rattle.mine_model.proofs.ListLemmas.{AllByRecursion-weaker}
use Rattle.mine_model.proofs.RankedLemmas.{ranked-same, ranked-all, ranked-bounds}
use Rattle.mine_model.proofs.SupportLemmas.{Counts-one}
use Rattle.mine_model.proofs.FrequencyLemmas.{frequencies-known, support-by_candidates, HasFrequency-within}
use Rattle.mining_job.specs.Problems.{Problem, IsWhole, data_of}
use Rattle.prefix_counts.specs.Prefixes.{Prefixes}

-- the sequences weigh so much that have the pattern as a candidate
abbrev pub HasCount : Problem → List Item → ℕ → Type 0
HasCount problem pattern n = Counts (λ items. IsCandidate (data_of problem) items pattern) problem.sequences n

-- the list of each pattern whose count reaches the threshold is held with this count
abbrev pub AreAllHeld : Problem → Prefixes → Type 0
AreAllHeld problem prefixes = (pattern : List Item) (list : List ℕ) → AreRanked problem.ranking.order pattern list → (support : ℕ)
    → HasCount problem pattern support → problem.threshold ≤ support → 1 ≤ support
    → (number : ℕ) × (slice_get prefixes.lists number ≡ Some list) × (slice_get prefixes.sums number ≡ Some support)

-- a sum is the count of the pattern of its list
abbrev pub IsEachCounted : Problem → Prefixes → Type 0
IsEachCounted problem prefixes = (number : ℕ) (list : List ℕ) (sum : ℕ) → slice_get prefixes.lists number ≡ Some list
    → slice_get prefixes.sums number ≡ Some sum → 1 ≤ sum
    → (pattern : List Item) × AreRanked problem.ranking.order pattern list × HasCount problem pattern sum

module _ (problem : Problem) (prefixes : Prefixes) (each : IsEachCounted problem prefixes) where
  -- the ranks of a list that has a sum are those of items
  pub ranks-within : (number : ℕ) (list : List ℕ) (sum : ℕ) → slice_get prefixes.lists number ≡ Some list → slice_get prefixes.sums number ≡ Some sum → 1 ≤ sum
      → All (λ rank. (1 ≤ rank) × (rank ≤ length problem.ranking.order)) list
  ranks-within number list sum at is some =
      let (pattern, ranked, counted) = each number list sum at is some in
      λ k d below. ranked-bounds problem.ranking.order pattern list ranked (get_or list k d) (Contains-get_or list k d below)

  -- a sum is the count of any pattern that its list is of
  pub sum-of-pattern : (number : ℕ) (list : List ℕ) (sum : ℕ) → slice_get prefixes.lists number ≡ Some list → slice_get prefixes.sums number ≡ Some sum → 1 ≤ sum
      → (pattern : List Item) → AreRanked problem.ranking.order pattern list → HasCount problem pattern sum
  sum-of-pattern number list sum at is some pattern ranked =
      let (other, same, counted) = each number list sum at is some in
      subst (λ (p : List Item). HasCount problem p sum) (ranked-same problem.ranking.order other pattern list same ranked) counted

module _ (problem : Problem) (whole : IsWhole problem)
    (ends : All (λ link. (link.child.0 < problem.hierarchy.items) × (link.parent.0 < problem.hierarchy.items)) problem.hierarchy.links) where
  abbrev IsFrequentOf : Item → Type 0
  IsFrequentOf = IsFrequentItem problem.hierarchy.links problem.sequences problem.threshold

  -- from the threshold on a support is what is counted of candidates
  pub support-is-count : (pattern : List Item) (n : ℕ) → problem.threshold ≤ n
      → HasSupport problem.hierarchy.links (tree_of problem.transducer.expression) problem.sequences pattern n ↔ HasCount problem pattern n
  support-is-count pattern n enough =
      support-by_candidates problem.hierarchy.links problem.sequences
      (frequencies-known problem.hierarchy.links problem.hierarchy.items ends problem.sequences problem.ranking.frequencies whole.items whole.ranked whole.ranks.exact)
      problem.threshold IsFrequentOf (λ w is. is) (tree_of problem.transducer.expression) pattern n whole.least enough

  -- a sequence that has the pattern as a candidate
  one-candidate : (pattern : List Item) (n : ℕ) → problem.threshold ≤ n → HasCount problem pattern n
      → (items : List Item) × IsCandidate (data_of problem) items pattern
  one-candidate pattern n enough counted =
      Counts-one (λ items. IsCandidate (data_of problem) items pattern) problem.sequences n counted (omega (arith, whole.least, enough))

  pub frequent-by-count : (row : Row) → problem.threshold ≤ row.support → HasCount problem row.pattern row.support → IsFrequent (data_of problem) row.pattern row.support
  frequent-by-count row enough counted = record {
    not_empty = (one-candidate row.pattern row.support enough counted).1.generated.0;
    exact = (support-is-count row.pattern row.support enough).1 counted;
    enough = enough;
  }

  -- the items of a pattern that is counted so often have ranks
  pub ranks-of-pattern : (pattern : List Item) (n : ℕ) → problem.threshold ≤ n → HasCount problem pattern n → (list : List ℕ) × AreRanked problem.ranking.order pattern list
  ranks-of-pattern pattern n enough counted =
      let (items, candidate) = one-candidate pattern n enough counted in
      ranked-all problem.ranking.order pattern
      (AllByRecursion-weaker IsFrequentOf (Contains problem.ranking.order) (λ v is. (whole.ranks.frequent v).1 is) pattern candidate.allowed)

  -- and are items of the hierarchy
  pub items-within : (pattern : List Item) (n : ℕ) → problem.threshold ≤ n → HasCount problem pattern n → AllByRecursion (λ t. t.0 < problem.hierarchy.items) pattern
  items-within pattern n enough counted =
      let (items, candidate) = one-candidate pattern n enough counted in
      AllByRecursion-weaker IsFrequentOf (λ t. t.0 < problem.hierarchy.items)
      (λ v is. HasFrequency-within problem.hierarchy.links problem.hierarchy.items ends problem.sequences v is.frequency whole.items is.exact (omega (arith, whole.least, is.enough)))
      pattern candidate.allowed
