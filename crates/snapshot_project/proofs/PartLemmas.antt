-- What is known of a part by its sequences and its bound.
use Rattle.std.proofs.Common.{◌≡◌, ℕ, zero, suc, ◌≤◌, ◌<◌, false, Option, Some, None, List, [], ◌∷◌, length, get_or, sym, subst, arith}
use Rattle.std.specs.Prelude.{IfSome}
use Rattle.std.specs.List.{AllByRecursion, AllPairs}
use Rattle.std.proofs.lemmas.Option.{slice_get-get_or}
use Rattle.mine_model.proofs.ElementLemmas.{get-held}
use Rattle.mine_model.proofs.ListLemmas.{AllByRecursion-contained, AllByRecursion-from}
use Rattle.mining_job.specs.declared.bound.Bound.{Bound}
use Rattle.mining_job.specs.Problems.{Problem, IsWhole, items_of}
use Rattle.sequence_grids.specs.Grids.{Completes}
use Rattle.snapshot_project.specs.Snapshots.{bound_of, IsPart}
use Rattle.snapshot_project.specs.Terrains.{AreAll}

rising-least : (numbers : List ℕ) → AllPairs (λ low high. low < high) numbers → (i : ℕ) → i < length numbers → i ≤ get_or numbers i 0
rising-least numbers rising zero inside = omega arith
rising-least numbers rising (suc i) inside =
    let before : i ≤ get_or numbers i 0 = rising-least numbers rising i (omega arith) in
    let less : get_or numbers i 0 < get_or numbers (suc i) 0 = rising i (suc i) 0 (omega arith) inside in
    omega arith

-- numbers below the most that rise are at most so many
pub rising-few : (numbers : List ℕ) (most : ℕ) → AllPairs (λ low high. low < high) numbers → AllByRecursion (λ i. i < most) numbers → length numbers ≤ most
rising-few [] most rising within = omega arith
rising-few (first ∷ numbers) most rising within =
    let last : length numbers < length (first ∷ numbers) = omega arith in
    let least : length numbers ≤ get_or (first ∷ numbers) (length numbers) 0 = rising-least (first ∷ numbers) rising (length numbers) last in
    let here = get-held (first ∷ numbers) (length numbers) (get_or (first ∷ numbers) (length numbers) 0) (slice_get-get_or (first ∷ numbers) (length numbers) 0 last) in
    let below : get_or (first ∷ numbers) (length numbers) 0 < most = AllByRecursion-contained (λ i. i < most) (first ∷ numbers) (get_or (first ∷ numbers) (length numbers) 0) within here in
    omega arith

-- the top of a bound is a rank
pub bound-few : (ranks : ℕ) (pivot : Option ℕ) → IfSome pivot (λ rank. rank ≤ ranks) → (bound_of ranks pivot).top ≤ ranks
bound-few ranks None most = omega arith
bound-few ranks (Some rank) most = most

-- so such sequences are a part
pub part-begun : (job : Problem) → IsWhole job → (bound : Bound) (pivot : Option ℕ) → bound ≡ bound_of (length job.ranking.order) pivot
    → IfSome pivot (λ rank. rank ≤ length job.ranking.order) → (numbers : List ℕ) → AllPairs (λ low high. low < high) numbers
    → AllByRecursion (λ i. i < length job.sequences) numbers → IsPart (record { problem = job; bound = bound; sequences = numbers })
part-begun job whole bound pivot same most numbers rising within =
    let top : (bound_of (length job.ranking.order) pivot).top ≤ length job.ranking.order = bound-few (length job.ranking.order) pivot most in
    record {
      whole = whole;
      top = subst (λ (b : Bound). b.top ≤ length job.ranking.order) (sym same) top;
      rising = rising;
      within = within;
    }

-- all sequences that have a pattern within the bound
module _ (job : Problem) (bound : Bound) (numbers : List ℕ) (all : AreAll job bound numbers) where
  pub all-within : AllByRecursion (λ i. i < length job.sequences) numbers
  all-within = AllByRecursion-from (λ i. i < length job.sequences) numbers (λ i held. ((all.exact i).0 held).0)

  pub all-complete : AllByRecursion (λ i. Completes job bound (items_of job i) 0 false) numbers
  all-complete = AllByRecursion-from (λ i. Completes job bound (items_of job i) 0 false) numbers (λ i held. ((all.exact i).0 held).1)
