-- What the workers are given and give back.
use Rattle.std.proofs.Common.{◌≡◌, ℕ, ◌+◌, ◌<◌, ◌≤◌, Bool, Some, List, ◌∷◌, length, slice_get, slice_index_or, get_or, remove, zero, suc, sym, ap, ◌∙◌, subst, arith}
use Rattle.std.specs.List.{range_with_len}
use Rattle.std.proofs.lemmas.List.FromFn.{length-range_with_len, get_or-range_with_len}
use Rattle.std.proofs.lemmas.Option.{same_Some, slice_get_within, get_or_from_slice_get}
use Rattle.mining_job.specs.Problems.{Problem}
use Rattle.worker_shares.specs.Shares.{share_of}
use Rattle.worker_threads.specs.Doing.{AreDone}
use Rattle.worker_threads.proofs.DoingLemmas.{done-at, done-long, first-apart}
use Rattle.sieve_passes.specs.declared.share.Share.{Share}
use Rattle.sieve_passes.specs.Shares.{IsShareOf, IsShareWith, AreShares, IsPassedBy, HaveAll}
use Rattle.sieve_passes.specs.Sums.{HasAll}

-- ---- shares are entered

-- a number of the workers is that of its place
number-at : (workers k worker : ℕ) → slice_get (range_with_len 0 workers) k ≡ Some worker → worker ≡ k
number-at workers k worker at =
    let below : k < workers = omega (arith, slice_get_within (range_with_len 0 workers) k worker at, length-range_with_len 0 workers) in
    let here : get_or (range_with_len 0 workers) k 0 ≡ 0 + k = get_or-range_with_len 0 workers k 0 below in
    omega (arith, here, get_or_from_slice_get (range_with_len 0 workers) k worker 0 at)

pub numbers-below : (workers : ℕ) (numbers : List ℕ) → numbers ≡ range_with_len 0 workers → (k d : ℕ) → k < length numbers → get_or numbers k d < workers
numbers-below workers numbers is k d below =
    let less : k < workers = omega (arith, below, ap (λ (ns : List ℕ). length ns) is, length-range_with_len 0 workers) in
    let here : get_or numbers k d ≡ 0 + k = ap (λ (ns : List ℕ). get_or ns k d) is ∙ get_or-range_with_len 0 workers k d less in
    omega (arith, here, less)

pub shares-entered : (problem : Problem) (workers buckets : ℕ) (shares : List Share)
    → AreDone (IsShareWith problem workers buckets) (range_with_len 0 workers) shares → AreShares problem workers buckets shares
shares-entered problem workers buckets shares done = record {
  all = done-long (IsShareWith problem workers buckets) (range_with_len 0 workers) shares done ∙ length-range_with_len 0 workers;
  each = λ k share at.
      let (worker, there, is) = done-at (IsShareWith problem workers buckets) (range_with_len 0 workers) shares done k share at in
      subst (λ (w : ℕ). IsShareWith problem workers buckets w share) (number-at workers k worker there) is;
}

-- ---- shares are passed over

-- a share is that of the worker whose number it has
pub share-own : (problem : Problem) (workers buckets : ℕ) (shares : List Share) → AreShares problem workers buckets shares → (k : ℕ) (share : Share) → slice_get shares k ≡ Some share
    → IsShareOf problem workers share.worker share
share-own problem workers buckets shares are k share at =
    let is : IsShareOf problem workers k share = (are.each k share at).own in
    subst (λ (w : ℕ). IsShareOf problem workers w share) (sym is.number) is

module _ (problem : Problem) (levels : List (List Bool)) (workers : ℕ) (starts dones : List Share) (done : AreDone (IsPassedBy problem levels workers) starts dones) where
  pub shares-passed : (buckets : ℕ) → AreShares problem workers buckets starts → AreShares problem workers buckets dones
  shares-passed buckets are = record {
    all = done-long (IsPassedBy problem levels workers) starts dones done ∙ are.all;
    each = λ k share at.
        let (start, there, passed) = done-at (IsPassedBy problem levels workers) starts dones done k share at in
        let was = are.each k start there in
        record {
          own = subst (λ (w : ℕ). IsShareOf problem workers w share) was.own.number passed.own;
          long = passed.long ∙ was.long;
        };
  }

  pub have-all : (buckets : ℕ) → AreShares problem workers buckets starts → HaveAll problem levels workers dones
  have-all buckets are = λ k share at.
      let (start, there, passed) = done-at (IsPassedBy problem levels workers) starts dones done k share at in
      let was = are.each k start there in
      subst (λ (w : ℕ). HasAll problem levels (share_of problem.sequences workers w) share.buckets) was.own.number passed.has

-- ---- the first worker's sums are those of all

pub apart-from : (shares : List Share) (first : Share) (others : List Share) → 1 ≤ length shares → first ≡ slice_index_or shares 0 first → others ≡ remove shares 0 → first ∷ others ≡ shares
apart-from shares first others some at rest = ap (λ (ss : List Share). first ∷ ss) rest ∙ first-apart shares first some at

joined-at : (problem : Problem) (workers buckets : ℕ) (first new : Share) (back : List Share) → AreShares problem workers buckets (first ∷ back) → IsShareWith problem workers buckets 0 new
    → (k : ℕ) (share : Share) → slice_get (new ∷ back) k ≡ Some share → IsShareWith problem workers buckets k share
joined-at problem workers buckets first new back are is zero share at = subst (IsShareWith problem workers buckets 0) (same_Some new share at) is
joined-at problem workers buckets first new back are is (suc k) share at = are.each (suc k) share at

pub shares-joined : (problem : Problem) (workers buckets : ℕ) (first new : Share) (back : List Share) → AreShares problem workers buckets (first ∷ back) → IsShareWith problem workers buckets 0 new
    → AreShares problem workers buckets (new ∷ back)
shares-joined problem workers buckets first new back are is = record {
  all = are.all;
  each = joined-at problem workers buckets first new back are is;
}
