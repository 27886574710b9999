-- The seeds of a share, of all seeds.
use Rattle.std.proofs.Common.{◌≡◌, ◌↔◌, ℕ, ◌-◌, ◌%◌, ◌<◌, ◌&&◌, Bool, true, false, cond, arith, List, [], ◌∷◌, map, filter, refl, sym, ap, ◌∙◌, subst}
use Rattle.std.specs.Bool.{Decides}
use Rattle.std.specs.List.{All, AllPairs, Contains}
use Rattle.std.proofs.lemmas.Bool.Decides.{Decides-and, Decides-like, Decides-ltb, Decides-eqb, same_from_decides}
use Rattle.std.specs.Prelude.{ltb, ◌==◌}
use Rattle.std.proofs.lemmas.List.Elements.{All-filter}
use Rattle.std.proofs.lemmas.List.Kept.{AllPairs-filter}
use Rattle.mine_model.proofs.ListLemmas.{Contains-filter, filter-Contains}
use Rattle.mining_job.specs.declared.part_seed.PartSeed.{PartSeed}
use Rattle.mining_job.specs.Problems.{Problem}
use Rattle.mining_job.specs.Parts.{pivot_of, IsComplete}
use Rattle.pivot_partition.specs.Pivots.{pivots_in}
use Rattle.command_line.specs.declared.share.Share.{Share}
use Rattle.split_merge.specs.Shares.{IsInShare}

-- whether the share has the rank
abbrev pub has_rank : Share → ℕ → Bool
has_rank share rank = ltb 0 rank && ((rank - 1) % share.of == share.index - 1)

abbrev pub has_seed : Share → PartSeed → Bool
has_seed share seed = has_rank share (pivot_of seed.pivot)

has_rank-Decides : (share : Share) (rank : ℕ) → Decides (has_rank share rank) (IsInShare share.index share.of rank)
has_rank-Decides share rank =
    Decides-and (ltb 0 rank) ((rank - 1) % share.of == share.index - 1)
    (Decides-like (ltb 0 rank) (λ p. omega (arith, p)) (λ p. omega (arith, p)) (Decides-ltb 0 rank))
    (Decides-eqb ((rank - 1) % share.of) (share.index - 1))

-- what answers whether the share has it is this test
pub tested : (share : Share) (seed : PartSeed) (b : Bool) → (b ≡ true) ↔ IsInShare share.index share.of (pivot_of seed.pivot) → b ≡ has_seed share seed
tested share seed b is = same_from_decides b (has_seed share seed) is (has_rank-Decides share (pivot_of seed.pivot))

map_filter : {X Y : Type 0} (f : X → Y) (q : Y → Bool) (xs : List X) → map f (filter (λ x. q (f x)) xs) ≡ filter q (map f xs)
map_filter f q [] = refl
map_filter {X} f q (x ∷ xs) = by (map_filter f q xs) (q (f x))
  where
    by : map f (filter (λ x. q (f x)) xs) ≡ filter q (map f xs)
        → (b : Bool) → map f (cond b (x ∷ filter (λ x. q (f x)) xs) (filter (λ x. q (f x)) xs)) ≡ cond b (f x ∷ filter q (map f xs)) (filter q (map f xs))
    by rest true = ap (λ l. f x ∷ l) rest
    by rest false = rest

module _ (share : Share) (seeds own : List PartSeed) (is : own ≡ filter (has_seed share) seeds) where
  pivots_are : pivots_in own ≡ filter (has_rank share) (pivots_in seeds)
  pivots_are = ap pivots_in is ∙ map_filter (λ (seed : PartSeed). pivot_of seed.pivot) (has_rank share) seeds

  pub own-complete : (problem : Problem) → All (IsComplete problem) seeds → All (IsComplete problem) own
  own-complete problem all = subst (All (IsComplete problem)) (sym is) (All-filter (has_seed share) (IsComplete problem) seeds all)

  pub own-rising : AllPairs (λ low high. low < high) (pivots_in seeds) → AllPairs (λ low high. low < high) (pivots_in own)
  own-rising rising =
      subst (AllPairs (λ low high. low < high)) (sym pivots_are) (AllPairs-filter (λ low high. low < high) (has_rank share) (pivots_in seeds) rising)

  pub own-exact : (pivot : ℕ) → Contains (pivots_in own) pivot ↔ (Contains (pivots_in seeds) pivot × IsInShare share.index share.of pivot)
  own-exact pivot = (
    (λ held.
        let both = Contains-filter (has_rank share) (pivots_in seeds) pivot (subst (λ l. Contains l pivot) pivots_are held) in
        (both.0, (has_rank-Decides share pivot).0 both.1)),
    (λ both. subst (λ l. Contains l pivot) (sym pivots_are)
        (filter-Contains (has_rank share) (pivots_in seeds) pivot both.0 ((has_rank-Decides share pivot).1 both.1))),
  )
