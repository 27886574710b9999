-- One level more.
use Rattle.std.proofs.Common.{◌≡◌, ℕ, zero, suc, ◌+◌, ◌%◌, ◌^◌, ◌<◌, inl, inr, Bool, true, List, [], ◌∷◌, ◌++◌, length, replicate, take, slice_get, Some, refl, sym, ap, ◌∙◌, subst, arith}
use Rattle.std.proofs.lemmas.List.{take-append-le, take_at, length-replicate, get_or-replicate}
use Rattle.std.proofs.lemmas.Option.{slice_get_within}
use Rattle.mine_model.proofs.ElementLemmas.{get_snoc}
use Rattle.mining_job.specs.Problems.{Problem, data_of}
use Rattle.prefix_sieve.specs.Buckets.{top, bucket_of, sum_of, reaches, flags_of}
use Rattle.prefix_sieve.specs.Hashes.{hash_of}
use Rattle.prefix_sieve.specs.Sieves.{HasEnough}
use Rattle.sieve_passes.specs.Sums.{HasAll, AreLevelsOf}

pub levels-none : (problem : Problem) → AreLevelsOf problem []
levels-none problem = λ number flags at. absurd (cc)

pub levels-more : (problem : Problem) (levels : List (List Bool)) (flags : List Bool) (sums : List ℕ) → AreLevelsOf problem levels → flags ≡ flags_of problem.threshold sums
    → HasAll problem levels problem.sequences sums → AreLevelsOf problem (levels ++ flags ∷ [])
levels-more problem levels flags sums are is has = λ number other at. elim (get_snoc levels flags number other at) [
  | inl old ↦
      let (known, those, before, same, enough) = are number other old in
      let inside : number < length levels = slice_get_within levels number other old in (
        known,
        those,
        before,
        same,
        subst (λ (ls : List (List Bool)). HasEnough (data_of problem) problem.ranking.order hash_of ls (number + 1) problem.sequences those)
            (sym (take-append-le known levels (flags ∷ []) (omega (arith, before, inside)))) enough,
      )
  | inr (last, here) ↦
      let front : take number (levels ++ flags ∷ []) ≡ levels = take_at levels (flags ∷ []) number (sym last) in (
        number,
        sums,
        omega arith,
        sym here ∙ is,
        subst (λ (ls : List (List Bool)). HasEnough (data_of problem) problem.ranking.order hash_of ls (number + 1) problem.sequences sums) (sym front)
            (subst (λ (n : ℕ). HasEnough (data_of problem) problem.ranking.order hash_of levels (n + 1) problem.sequences sums) (sym last) has),
      )
]

-- ---- a level that lets all pass

pub open-enough : (problem : Problem) (levels : List (List Bool)) → HasAll problem levels problem.sequences (replicate 64 top)
open-enough problem levels = λ prefix looked n most weigh.
    let hash : ℕ = hash_of prefix in
    let long : length (replicate 64 top) ≡ 64 = length-replicate 64 top in
    let below : bucket_of (length (replicate 64 top)) hash < 64 = subst (λ (count : ℕ). bucket_of count hash < 64) (sym long) (inside hash) in
    let full : sum_of (replicate 64 top) hash ≡ top = get_or-replicate 64 (bucket_of (length (replicate 64 top)) hash) top 0 below in
    omega (arith, most, full)
  where
    inside : (hash : ℕ) → hash % 64 < 64
    inside hash = omega arith

reaches-none : (threshold count : ℕ) → flags_of threshold (replicate count top) ≡ flags_of 0 (replicate count 0)
reaches-none threshold zero = refl
reaches-none threshold (suc count) =
    ap (λ (b : Bool). b ∷ flags_of threshold (replicate count top)) (reached ∙ sym none)
    ∙ ap (λ (bs : List Bool). reaches 0 0 ∷ bs) (reaches-none threshold count)
  where
    reached : reaches threshold top ≡ true
    reached = grind arith

    none : reaches 0 0 ≡ true
    none = refl

pub open-flags : (threshold : ℕ) → flags_of 0 (replicate (2 ^ 6) 0) ≡ flags_of threshold (replicate 64 top)
open-flags threshold = sym (reaches-none threshold 64)
