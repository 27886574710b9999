-- Where no item is frequent, there is no candidate.
use Rattle.std.proofs.Common.{◌≡◌, ◌≢◌, ℕ, ◌-◌, Bool, List, [], ◌∷◌, length, slice_get, Some, refl, sym, subst}
use Rattle.std.specs.Cmp.Lexicographic.{pointwise}
use Rattle.std.specs.List.{AllByRecursion}
use Rattle.std.proofs.Common.{nat_eq}
use Rattle.std.proofs.lemmas.List.{nil_from_length}
use Rattle.mine_model.specs.declared.item.Item.{Item}
use Rattle.mine_model.specs.Ranks.{AreRanked}
use Rattle.mine_model.specs.Support.{Sequence, Counts}
use Rattle.mine_model.proofs.FrequencyLemmas.{Counts-none}
use Rattle.mine_model.proofs.ListLemmas.{AllByRecursion-from}
use Rattle.mining_job.specs.Problems.{Problem, data_of}
use Rattle.prefix_counts.specs.Prefixes.{no_prefixes}
use Rattle.prefix_counts.specs.Sums.{sum_of}
use Rattle.prefix_counts.proofs.SumLemmas.{either-none}
use Rattle.prefix_sieve.specs.Sieves.{HasCandidate}
use Rattle.sieved_counts.specs.Counted.{AreCounted}

no-candidate : (order pattern : List Item) (ranks : List ℕ) → order ≡ [] → pattern ≢ [] → AreRanked order pattern ranks → ⊥
no-candidate order [] ranks none some ranked = some refl
no-candidate order (v ∷ items) [] none some ranked = ranked
no-candidate order (v ∷ items) (rank ∷ ranks) none some ranked =
    nothing (rank - 1) v (subst (λ (vs : List Item). slice_get vs (rank - 1) ≡ Some v) none ranked.0.place)
  where
    nothing : (k : ℕ) (v : Item) → slice_get [] k ≡ Some v → ⊥
    nothing k v at = cc

no-sum : (list : List ℕ) → sum_of no_prefixes list ≡ 0
no-sum list = either-none (pointwise nat_eq [] list) 0

pub nothing-counted : (problem : Problem) → length problem.ranking.order ≡ 0
    → AreCounted (data_of problem) problem.ranking.order [] problem.sequences no_prefixes
nothing-counted problem none = record {
  exact = λ list passes.
      let Has : List Item → Type 0 = HasCandidate (data_of problem) problem.ranking.order list in
      subst (Counts Has problem.sequences) (sym (no-sum list))
      (Counts-none Has problem.sequences (AllByRecursion-from (λ (s : Sequence Item). Has s.items → ⊥) problem.sequences (λ s held has. absurd (nobody list s has))));
  none = λ list not. no-sum list;
}
  where
    nobody : (list : List ℕ) (s : Sequence Item) → HasCandidate (data_of problem) problem.ranking.order list s.items → ⊥
    nobody list s (pattern, is, ranked) = no-candidate problem.ranking.order pattern list (nil_from_length problem.ranking.order none) is.generated.0 ranked
