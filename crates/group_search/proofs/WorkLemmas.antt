-- What is left to do grows less with each prefix.
use Rattle.std.proofs.Common.{◌≡◌, ℕ, zero, suc, ◌+◌, ◌-◌, ◌*◌, ◌^◌, ◌≤◌, ◌<◌, List, [], ◌∷◌, ◌++◌, length, sym, ap, ◌∙◌, arith, length-append}
use Rattle.std.specs.List.{AllPairs, Contains}
use Rattle.std.proofs.Math.Nat.{pow-zero, pow-suc, mul-suc}
use Rattle.std.proofs.lemmas.Nat.{mul-le}
use Rattle.std.proofs.lemmas.List.Sums.{sum_by-append, sum_by-cons}
use Rattle.mine_model.proofs.ListLemmas.{Contains-first, Contains-other, AllPairs-tail, AllPairs-head}
use Rattle.group_search.specs.Steps.{Kid}
use Rattle.group_search.specs.Waits.{Wait, waits_behind}
use Rattle.group_search.specs.Search.{work_of}
use Rattle.group_search.proofs.GrowthLemmas.{wait_by}

times-most : (m a b : ℕ) → a ≤ b → m * a ≤ m * b
times-most m a b less = mul-le m a m b (omega arith) less

-- rising numbers up to a top are no more than lie between
rising-short : (kids : List Kid) (low top : ℕ) → AllPairs (λ (x : Kid) (y : Kid). x.rank < y.rank) kids
    → ((kid : Kid) → Contains kids kid → (low < kid.rank) × (kid.rank ≤ top)) → length kids ≤ top - low
rising-short [] low top rising within = omega arith
rising-short (kid ∷ kids) low top rising within =
    let here = within kid (Contains-first kid kids) in
    let above : low < kid.rank = here.0 in
    let below : kid.rank ≤ top = here.1 in
    let rest : length kids ≤ top - kid.rank = rising-short kids kid.rank top (AllPairs-tail (λ (x : Kid) (y : Kid). x.rank < y.rank) kid kids rising)
    (λ other held. (AllPairs-head (λ (x : Kid) (y : Kid). x.rank < y.rank) kid kids rising other held, (within other (Contains-other kid kids other held)).1)) in
    omega (arith, above, below, rest)

some-power : (n k : ℕ) → 1 ≤ (n + 1) ^ k
some-power n zero = let is : (n + 1) ^ zero ≡ 1 = pow-zero (n + 1) in omega (arith, is)
some-power n (suc k) =
    let before : 1 ≤ (n + 1) ^ k = some-power n k in
    let is : (n + 1) ^ suc k ≡ (n + 1) ^ k * (n + 1) = pow-suc (n + 1) k in
    let parts : (n + 1) ^ k * suc n ≡ (n + 1) ^ k * n + (n + 1) ^ k = mul-suc ((n + 1) ^ k) n in
    let same : suc n ≡ n + 1 = omega arith in
    let moved : (n + 1) ^ k * (n + 1) ≡ (n + 1) ^ k * n + (n + 1) ^ k = ap (λ m. (n + 1) ^ k * m) (sym same) ∙ parts in
    omega (arith, before, is, moved)

module _ (count most : ℕ) (prefix : List ℕ) where
  -- what is left to do for longer prefixes
  kids-work : (kids : List Kid) → work_of count most (waits_behind prefix kids) ≡ (count + 1) ^ (most - (length prefix + 1)) * length kids
  kids-work [] = (let none : (count + 1) ^ (most - (length prefix + 1)) * 0 ≡ 0 = omega arith in sym none)
  kids-work (kid ∷ kids) =
      let first : length (prefix ++ kid.rank ∷ []) ≡ length prefix + 1 = length-append prefix (kid.rank ∷ []) in
      let split : work_of count most (waits_behind prefix (kid ∷ kids)) ≡ (count + 1) ^ (most - length (prefix ++ kid.rank ∷ [])) + work_of count most (waits_behind prefix kids) =
      sum_by-cons (λ (wait : Wait). (count + 1) ^ (most - length wait.prefix)) (wait_by prefix kid) (waits_behind prefix kids) in
      let rest = kids-work kids in
      let at : (count + 1) ^ (most - length (prefix ++ kid.rank ∷ [])) ≡ (count + 1) ^ (most - (length prefix + 1)) = ap (λ n. (count + 1) ^ (most - n)) first in
      let more : (count + 1) ^ (most - (length prefix + 1)) * suc (length kids) ≡ (count + 1) ^ (most - (length prefix + 1)) * length kids + (count + 1) ^ (most - (length prefix + 1)) =
      mul-suc ((count + 1) ^ (most - (length prefix + 1))) (length kids) in
      omega (arith, split, rest, at, more)

  -- is less than for the prefix itself
  kids-less : (kids : List Kid) → AllPairs (λ (x : Kid) (y : Kid). x.rank < y.rank) kids → ((kid : Kid) → Contains kids kid → (1 ≤ kid.rank) × (kid.rank ≤ count))
      → ((kid : Kid) → Contains kids kid → length (prefix ++ kid.rank ∷ []) ≤ most)
      → work_of count most (waits_behind prefix kids) < (count + 1) ^ (most - length prefix)
  kids-less [] rising ranks deep = let some = some-power count (most - length prefix) in omega (arith, some)
  kids-less (kid ∷ kids) rising ranks deep =
      let first : length (prefix ++ kid.rank ∷ []) ≡ length prefix + 1 = length-append prefix (kid.rank ∷ []) in
      let inside = deep kid (Contains-first kid kids) in
      let few : length (kid ∷ kids) ≤ count - 0 = rising-short (kid ∷ kids) 0 count rising (λ other held. (let at = ranks other held in let least = at.0 in (omega (arith, least), at.1))) in
      let work = kids-work (kid ∷ kids) in
      let step : suc (most - (length prefix + 1)) ≡ most - length prefix = omega (arith, first, inside) in
      let power : (count + 1) ^ (most - length prefix) ≡ (count + 1) ^ (most - (length prefix + 1)) * (count + 1) =
      ap (λ n. (count + 1) ^ n) (sym step) ∙ pow-suc (count + 1) (most - (length prefix + 1)) in
      let some = some-power count (most - (length prefix + 1)) in
      let least : (count + 1) ^ (most - (length prefix + 1)) * length (kid ∷ kids) ≤ (count + 1) ^ (most - (length prefix + 1)) * count =
      times-most ((count + 1) ^ (most - (length prefix + 1))) (length (kid ∷ kids)) count (omega (arith, few)) in
      let last : (count + 1) ^ (most - (length prefix + 1)) * suc count ≡ (count + 1) ^ (most - (length prefix + 1)) * count + (count + 1) ^ (most - (length prefix + 1)) =
      mul-suc ((count + 1) ^ (most - (length prefix + 1))) count in
      let same : suc count ≡ count + 1 = omega arith in
      let whole : (count + 1) ^ (most - (length prefix + 1)) * (count + 1) ≡ (count + 1) ^ (most - (length prefix + 1)) * count + (count + 1) ^ (most - (length prefix + 1)) =
      ap (λ m. (count + 1) ^ (most - (length prefix + 1)) * m) (sym same) ∙ last in
      omega (arith, work, power, some, least, whole)

-- WHAT IS LEFT TO DO is less once a prefix was grown
pub work-less : (count most : ℕ) (waits : List Wait) (wait : Wait) (kids : List Kid) → AllPairs (λ (x : Kid) (y : Kid). x.rank < y.rank) kids
    → ((kid : Kid) → Contains kids kid → (1 ≤ kid.rank) × (kid.rank ≤ count)) → ((kid : Kid) → Contains kids kid → length (wait.prefix ++ kid.rank ∷ []) ≤ most)
    → work_of count most (waits ++ waits_behind wait.prefix kids) < work_of count most (waits ++ wait ∷ [])
work-less count most waits wait kids rising ranks deep =
    let before : work_of count most (waits ++ wait ∷ []) ≡ work_of count most waits + work_of count most (wait ∷ []) =
    sum_by-append (λ (w : Wait). (count + 1) ^ (most - length w.prefix)) waits (wait ∷ []) in
    let after : work_of count most (waits ++ waits_behind wait.prefix kids) ≡ work_of count most waits + work_of count most (waits_behind wait.prefix kids) =
    sum_by-append (λ (w : Wait). (count + 1) ^ (most - length w.prefix)) waits (waits_behind wait.prefix kids) in
    let one : work_of count most (wait ∷ []) ≡ (count + 1) ^ (most - length wait.prefix) + 0 =
    sum_by-cons (λ (w : Wait). (count + 1) ^ (most - length w.prefix)) wait [] in
    let less = kids-less count most wait.prefix kids rising ranks deep in
    omega (arith, before, after, one, less)
