-- The numbers that a worker takes.
use Rattle.std.proofs.Common.{◌≡◌, ◌≢◌, ℕ, zero, suc, ◌+◌, ◌<◌, ◌≤◌, ◌%◌, ◌==◌, Bool, true, false, cond, List, [], ◌∷◌, ◌++◌, filter, length, get_or, ap, ◌∙◌, append-nil, arith}
use Rattle.std.specs.List.{AllByRecursion, AllPairs, range_with_len, Contains}
use Rattle.std.proofs.lemmas.List.Elements.{filter-append}
use Rattle.std.proofs.lemmas.List.FromFn.{length-range_with_len, get_or-range_with_len}
use Rattle.std.proofs.lemmas.List.Kept.{AllPairs-filter}
use Rattle.mine_model.proofs.ListLemmas.{AllByRecursion-contained, AllByRecursion-from, Contains-filter}
use Rattle.worker_shares.specs.Shares.{takes_of, numbers_of}

range-next : (first n : ℕ) → range_with_len first (suc n) ≡ range_with_len first n ++ (first + n) ∷ []
range-next first zero = let same : first ≡ first + 0 = omega arith in ap (λ (k : ℕ). k ∷ []) same
range-next first (suc n) =
    let same : first + 1 + n ≡ first + suc n = omega arith in
    ap (λ (ks : List ℕ). first ∷ ks) (range-next (first + 1) n ∙ ap (λ (k : ℕ). range_with_len (first + 1) n ++ k ∷ []) same)

range-last : (n : ℕ) → range_with_len 0 (suc n) ≡ range_with_len 0 n ++ n ∷ []
range-last n = let same : 0 + n ≡ n = omega arith in range-next 0 n ∙ ap (λ (k : ℕ). range_with_len 0 n ++ k ∷ []) same

pub range-more : (n : ℕ) → range_with_len 0 (n + 1) ≡ range_with_len 0 n ++ n ∷ []
range-more n = let next : n + 1 ≡ suc n = omega arith in ap (range_with_len 0) next ∙ range-last n

pub filter-next : (takes : ℕ → Bool) (n : ℕ)
    → filter takes (range_with_len 0 (suc n)) ≡ filter takes (range_with_len 0 n) ++ cond (takes n) (n ∷ []) []
filter-next takes n = ap (filter takes) (range-last n) ∙ filter-append takes (range_with_len 0 n) (n ∷ [])

pub numbers-with : (workers worker n : ℕ) → n % workers ≡ worker → numbers_of workers worker (n + 1) ≡ numbers_of workers worker n ++ n ∷ []
numbers-with workers worker n same =
    ap (numbers_of workers worker) next ∙ filter-next (takes_of workers worker) n
    ∙ ap (λ (b : Bool). numbers_of workers worker n ++ cond b (n ∷ []) []) takes
  where
    next : n + 1 ≡ suc n
    next = omega arith

    takes : (n % workers == worker) ≡ true
    takes = grind (arith, same)

pub numbers-without : (workers worker n : ℕ) → n % workers ≢ worker → numbers_of workers worker (n + 1) ≡ numbers_of workers worker n
numbers-without workers worker n apart =
    ap (numbers_of workers worker) next ∙ filter-next (takes_of workers worker) n
    ∙ ap (λ (b : Bool). numbers_of workers worker n ++ cond b (n ∷ []) []) takes ∙ append-nil (numbers_of workers worker n)
  where
    next : n + 1 ≡ suc n
    next = omega arith

    takes : (n % workers == worker) ≡ false
    takes = grind (arith, apart)

range-rising : (first n : ℕ) → AllPairs (λ (low high : ℕ). low < high) (range_with_len first n)
range-rising first n = λ i j d before inside.
    let below : j < n = omega (arith, inside, length-range_with_len first n) in
    let less : first + i < first + j = omega (arith, before) in
    let low : get_or (range_with_len first n) i d ≡ first + i = get_or-range_with_len first n i d (omega (arith, before, below)) in
    let high : get_or (range_with_len first n) j d ≡ first + j = get_or-range_with_len first n j d below in
    omega (arith, less, low, high)

range-within : (first n count : ℕ) → first + n ≤ count → AllByRecursion (λ (i : ℕ). i < count) (range_with_len first n)
range-within first zero count most = tt
range-within first (suc n) count most = (omega (arith, most), range-within (first + 1) n count (omega (arith, most)))

pub numbers-rising : (workers worker count : ℕ) → AllPairs (λ (low high : ℕ). low < high) (numbers_of workers worker count)
numbers-rising workers worker count = AllPairs-filter (λ low high. low < high) (takes_of workers worker) (range_with_len 0 count) (range-rising 0 count)

pub numbers-within : (workers worker count : ℕ) → AllByRecursion (λ (i : ℕ). i < count) (numbers_of workers worker count)
numbers-within workers worker count =
    AllByRecursion-from (λ i. i < count) (numbers_of workers worker count)
    (λ i held.
    AllByRecursion-contained (λ i. i < count) (range_with_len 0 count) i (range-within 0 count count (omega arith))
    (Contains-filter (takes_of workers worker) (range_with_len 0 count) i held).0)
