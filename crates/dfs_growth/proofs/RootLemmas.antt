-- The roots of seeds, and the root without a pivot.
use Rattle.std.proofs.Common.{◌≡◌, ◌≢◌, ◌↔◌, ℕ, ◌+◌, ◌^◌, ◌≤◌, ◌<◌, inl, inr, false, Option, None, IfSome, List, [], ◌∷◌, ◌++◌, map, length, get_or, refl, sym, ap, ◌∙◌, subst, arith, sum_by}
use Rattle.std.specs.Global.{Vec}
use Rattle.std.specs.List.{All, AllByRecursion, Contains}
use Rattle.std.proofs.lemmas.Bool.{false≢true}
use Rattle.std.proofs.lemmas.List.{map-append}
use Rattle.std.proofs.lemmas.List.Elements.{All-contains, Contains-get_or, Contains-append_right, recursion_from_All}
use Rattle.std.proofs.lemmas.List.Sums.{sum_by-cons}
use Rattle.mine_model.specs.declared.item.Item.{Item}
use Rattle.mine_model.specs.Answer.{Data}
use Rattle.mine_model.specs.Database.{sequence_at}
use Rattle.mine_model.specs.Support.{Sequence, Counts}
use Rattle.mine_model.specs.Growth.{HasPatternBehind, IsAlive}
use Rattle.mine_model.specs.Pivots.{IsRankedUpTo, IsWithinPivot, label_of, IsAliveLabel}
use Rattle.search_tree.specs.SearchTree.{AreRootsOf}
use Rattle.mine_model.proofs.ListLemmas.{AllByRecursion-contained, Contains-first, Contains-other, Contains-none}
use Rattle.mine_model.proofs.RankedLemmas.{ranked-same}
use Rattle.mine_model.proofs.AliveLemmas.{IsAlive-counted}
use Rattle.mining_job.specs.declared.bound.Bound.{Bound}
use Rattle.mining_job.specs.declared.part_seed.PartSeed.{PartSeed}
use Rattle.mining_job.specs.Problems.{Problem, IsWhole, data_of, items_of}
use Rattle.sequence_grids.specs.Grids.{GridList, Completes}
use Rattle.mining_job.specs.Parts.{pivot_of, IsComplete}
use Rattle.snapshot_project.specs.Extensions.{sequences_of}
use Rattle.snapshot_project.specs.Snapshots.{bound_of, part_for}
use Rattle.snapshot_project.specs.Terrains.{AreAll, IsWholePart}
use Rattle.dfs_growth.specs.Nodes.{Prefix, label_at, prefix_at}
use Rattle.dfs_growth.specs.Projections.{IsPartBy}
use Rattle.dfs_growth.proofs.PartLemmas.{Behind, part-counts}

-- Roots

module _ (d : Data Item) (order : List Item) (pivot : ℕ) where
  -- one more root
  pub roots-more : (pivots : List ℕ) (roots : List (List ℕ)) → IsAliveLabel d order pivot [] → AreRootsOf d order pivots roots
      → AreRootsOf d order (pivots ++ pivot ∷ []) (roots ++ label_of pivot [] ∷ [])
  roots-more [] roots alive none = inl (alive, ([], ap (λ (r : List (List ℕ)). r ++ label_of pivot [] ∷ []) none, refl))
  roots-more (p ∷ pivots) roots alive (inl (here, (others, same, rest))) =
      inl (here, (others ++ label_of pivot [] ∷ [], ap (λ (r : List (List ℕ)). r ++ label_of pivot [] ∷ []) same, roots-more pivots others alive rest))
  roots-more (p ∷ pivots) roots alive (inr (dead, rest)) = inr (dead, roots-more pivots roots alive rest)

  -- one more pivot that has no root
  pub roots-same : (pivots : List ℕ) (roots : List (List ℕ)) → (IsAliveLabel d order pivot [] → ⊥) → AreRootsOf d order pivots roots
      → AreRootsOf d order (pivots ++ pivot ∷ []) roots
  roots-same [] roots dead none = inr (dead, none)
  roots-same (p ∷ pivots) roots dead (inl (here, (others, same, rest))) = inl (here, (others, same, roots-same pivots others dead rest))
  roots-same (p ∷ pivots) roots dead (inr (gone, rest)) = inr (gone, roots-same pivots roots dead rest)

-- where all sequences have the property, the sum of their weights is counted
counts-all : (Has : List Item → Type 0) (f : ℕ → Sequence Item) (numbers : List ℕ) → ((i : ℕ) → Contains numbers i → Has (f i).items)
    → Counts Has (map f numbers) (sum_by (λ i. (f i).weight) numbers)
counts-all Has f [] all = refl
counts-all Has f (i ∷ numbers) all =
    inl (all i (Contains-first i numbers), (sum_by (λ i. (f i).weight) numbers, sum_by-cons (λ i. (f i).weight) i numbers, counts-all Has f numbers (λ k held. all k (Contains-other i numbers k held))))

module _ (problem : Problem) (seed : PartSeed) (complete : IsComplete problem seed) where
  -- the root of a seed is alive where its sequences weigh enough
  pub root-weighs : IsAliveLabel (data_of problem) problem.ranking.order (pivot_of seed.pivot) []
      ↔ problem.threshold ≤ sum_by (λ i. (sequence_at problem.sequences i).weight) seed.sequences.items
  root-weighs =
      let Has : List Item → Type 0 = Behind problem seed complete [] in
      let weight = sum_by (λ i. (sequence_at problem.sequences i).weight) seed.sequences.items in
      let here : Counts Has (sequences_of (part_for problem seed)) weight = counts-all Has (λ i. sequence_at problem.sequences i) seed.sequences.items (λ i held. ((complete.exact i).0 held).1) in
      let all : Counts Has problem.sequences weight = (part-counts problem seed complete Has (λ items has. has) weight).0 here in
      let either = IsAlive-counted (data_of problem) (IsWithinPivot problem.ranking.order (pivot_of seed.pivot)) [] weight all in (
        (λ alive. either.0 (subst (IsAlive (data_of problem) (IsWithinPivot problem.ranking.order (pivot_of seed.pivot))) (ranked-same problem.ranking.order alive.prefix [] [] alive.ranked tt) alive.alive)),
        (λ enough. record { prefix = []; ranked = tt; alive = either.1 enough }),
      )

module _ (problem : Problem) where
  abbrev weight_of : PartSeed → ℕ
  weight_of seed = sum_by (λ i. (sequence_at problem.sequences i).weight) seed.sequences.items

  abbrev pivot_in : PartSeed → ℕ
  pivot_in seed = pivot_of seed.pivot

  abbrev Roots : List PartSeed → List Prefix → Type 0
  Roots seeds nodes = AreRootsOf (data_of problem) problem.ranking.order (map pivot_in seeds) (map label_at nodes)

  -- the root of one more seed, whose sequences weigh enough
  pub roots-push : (seeds : List PartSeed) (nodes : List Prefix) (seed : PartSeed) (node : Prefix) → IsComplete problem seed → problem.threshold ≤ weight_of seed
      → node ≡ prefix_at problem (pivot_of seed.pivot ∷ []) → Roots seeds nodes → Roots (seeds ++ seed ∷ []) (nodes ++ node ∷ [])
  roots-push seeds nodes seed node complete enough is roots =
      let label : label_at node ≡ label_of (pivot_of seed.pivot) [] = ap label_at is in
      rw (map-append pivot_in seeds (seed ∷ []), map-append label_at nodes (node ∷ []), label)
      (roots-more (data_of problem) problem.ranking.order (pivot_of seed.pivot) (map pivot_in seeds) (map label_at nodes) ((root-weighs problem seed complete).1 enough) roots)

  -- one more seed, whose sequences do not weigh enough
  pub roots-pass : (seeds : List PartSeed) (nodes : List Prefix) (seed : PartSeed) → IsComplete problem seed → weight_of seed < problem.threshold
      → Roots seeds nodes → Roots (seeds ++ seed ∷ []) nodes
  roots-pass seeds nodes seed complete few roots =
      rw (map-append pivot_in seeds (seed ∷ []))
      (roots-same (data_of problem) problem.ranking.order (pivot_of seed.pivot) (map pivot_in seeds) (map label_at nodes)
      (λ alive. let enough = (root-weighs problem seed complete).0 alive in omega (arith, enough, few)) roots)

-- the next of all elements has what all have
pub next-has : {X : Type 0} (P : X → Type 0) (met rest more all : List X) (x : X) → met ++ rest ≡ all → rest ≡ x ∷ more → All P all → P x
next-has P met rest more all x seen first each =
    let whole : met ++ (x ∷ more) ≡ all = ap (λ r. met ++ r) (sym first) ∙ seen in
    All-contains P all x each (subst (λ l. Contains l x) whole (Contains-append_right met (x ∷ more) x (Contains-first x more)))

-- Numbers

-- the numbers of a complete seed are those of sequences
pub seed-within : (problem : Problem) (seed : PartSeed) → IsComplete problem seed → AllByRecursion (λ i. i < length problem.sequences) seed.sequences.items
seed-within problem seed complete =
    recursion_from_All (λ i. i < length problem.sequences) seed.sequences.items
    (λ k d below. ((complete.exact (get_or seed.sequences.items k d)).0 (Contains-get_or seed.sequences.items k d below)).0)

-- Seeds

module _ (problem : Problem) (whole : IsWhole problem) where
  -- a path from the start that writes frequent items alone, and at least one, is a pattern
  pub completes-behind : (items : List Item) → Completes problem (record { top = length problem.ranking.order; need = None }) items 0 false
      ↔ HasPatternBehind (data_of problem) (IsWithinPivot problem.ranking.order 0) [] items
  completes-behind items = (
    (λ (output, path, allowed, written). elim written [
      | inl seen ↦ absurd (false≢true seen)
      | inr (v, held, any) ↦
          (output, ((λ none. Contains-none v (subst (λ (l : List Item). Contains l v) none held)), (whole.paths problem.hierarchy.links items output).0 path), record { ranked = allowed; needed = tt })
    ]),
    (λ (output, (some, generated), within).
        (output, (whole.paths problem.hierarchy.links items output).1 generated, within.ranked, inr (first output some))),
  )
    where
      first : (output : List Item) → output ≢ [] → (v : Item) × Contains output v × Unit {0}
      first [] some = absurd (some refl)
      first (v ∷ output) some = (v, Contains-first v output, tt)

  -- the seed of all sequences with such a path
  pub whole-complete : (seed : PartSeed) → seed.pivot ≡ None → AreAll problem (bound_of (length problem.ranking.order) None) seed.sequences.items
      → IsComplete problem seed
  whole-complete seed none all = record {
    least = subst (λ p. IfSome p (λ rank. 1 ≤ rank)) (sym none) tt;
    most = subst (λ p. IfSome p (λ rank. rank ≤ length problem.ranking.order)) (sym none) tt;
    rising = all.rising;
    exact = λ i.
        let found = all.exact i in
        subst (λ (p : Option ℕ). Contains seed.sequences.items i ↔ ((i < length problem.sequences)
        × HasPatternBehind (data_of problem) (IsWithinPivot problem.ranking.order (pivot_of p)) [] (items_of problem i))) (sym none) (
          (λ held. let (below, path) = found.0 held in (below, (completes-behind (items_of problem i)).0 path)),
          (λ (below, behind). found.1 (below, (completes-behind (items_of problem i)).1 behind)),
        );
  }

  -- where there is no rank, no sequences are those with such a path
  all-none : length problem.ranking.order ≡ 0 → AreAll problem (bound_of (length problem.ranking.order) None) []
  all-none ranks = record {
    rising = λ i j d less inside. absurd (omega (arith, inside));
    exact = λ i. (
      (λ held. absurd (Contains-none i held)),
      (λ (below, (output, path, allowed, written)). elim written [
        | inl seen ↦ absurd (false≢true seen)
        | inr (v, held, any) ↦ let (rank, has, most) = AllByRecursion-contained (IsRankedUpTo problem.ranking.order (length problem.ranking.order)) output v allowed held in absurd (omega (arith, has.least, most, ranks))
      ]),
    );
  }

-- a seed of these numbers without a pivot, in the room of any list
abbrev seed_of : {X : Type 0} → Vec X → (numbers : List ℕ) → length numbers < 2 ^ 63 → PartSeed
seed_of list numbers few = record {
  pivot = None;
  sequences = record {
    ptr = list.ptr;
    len = length numbers;
    cap = length numbers;
    alloc = list.alloc;
    items = numbers;
    ok = (refl, omega arith);
    small = few;
  };
}

module _ (problem : Problem) (whole : IsWhole problem) {X : Type 0} (list : Vec X) where
  -- the search without pivots has no root where there is no rank
  pub none-without : length problem.ranking.order ≡ 0 → AreRootsOf (data_of problem) problem.ranking.order (0 ∷ []) []
  none-without ranks =
      let few : 0 < 9223372036854775808 = omega arith in
      let seed : PartSeed = seed_of list [] few in
      roots-pass problem [] [] seed (whole-complete problem whole seed refl (all-none problem whole ranks)) (omega (arith, whole.least)) refl

  module _ (part : GridList) (is : IsWholePart problem part) (few : length part.sequences < 2 ^ 63) where
    complete : IsComplete problem (seed_of list part.sequences few)
    complete =
        whole-complete problem whole (seed_of list part.sequences few) refl
        (subst (λ (b : Bound). AreAll problem b part.sequences) is.bound_is is.sequences_are)

    -- the part of all sequences is that without a pivot
    pub whole-by : IsPartBy problem 0 part
    whole-by = record {
      seed = seed_of list part.sequences few;
      complete = complete;
      pivot_is = refl;
      part_is = λ i. record { problem = is.problem_is i; bound = is.bound_is i; sequences = part.sequences };
    }

    -- its root
    pub whole-root : (node : Prefix) → node ≡ prefix_at problem (0 ∷ []) → problem.threshold ≤ sum_by (λ i. (sequence_at problem.sequences i).weight) part.sequences
        → AreRootsOf (data_of problem) problem.ranking.order (0 ∷ []) (map label_at (node ∷ []))
    whole-root node same enough = roots-push problem [] [] (seed_of list part.sequences few) node complete enough same refl

    pub whole-without : sum_by (λ i. (sequence_at problem.sequences i).weight) part.sequences < problem.threshold
        → AreRootsOf (data_of problem) problem.ranking.order (0 ∷ []) []
    whole-without light = roots-pass problem [] [] (seed_of list part.sequences few) complete light refl
