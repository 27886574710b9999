-- Paths over all sequences that have a property weigh what these sequences weigh.
use Rattle.std.proofs.Common.{◌≡◌, ◌≢◌, ℕ, suc, ◌+◌, ◌*◌, ◌≤◌, ◌<◌, inl, inr, Some, List, [], ◌∷◌, map, length, refl, sym, subst, arith, Contains}
use Rattle.std.specs.List.{AllByRecursion, slice_get}
use Rattle.std.proofs.lemmas.Bool.{cases_eq}
use Rattle.mine_model.specs.Limits.{most_weight}
use Rattle.mine_model.specs.Support.{Sequence, Counts}
use Rattle.mine_model.proofs.ListLemmas.{Contains-cases, Contains-none, Contains-from, AllByRecursion-contained, AllByRecursion-weaker}
use Rattle.pattern_proof.specs.ProofLines.{Cited}
use Rattle.pattern_proof.specs.Proofs.{RiseByPlace}

module _ {A : Type 0} (Has : List A → Type 0) where
  -- what is counted weighs no more than all
  pub counted-most : (sequences : List (Sequence A)) (n : ℕ) → AllByRecursion (λ (s : Sequence A). s.weight ≤ most_weight) sequences
      → Counts Has sequences n → n ≤ length sequences * most_weight
  counted-most [] n light counted = omega (arith, counted)
  counted-most (s ∷ sequences) n light (inl p) =
      let rest = counted-most sequences p.1.0 light.1 p.1.2 in let first = light.0 in let sum = p.1.1 in omega (arith, rest, first, sum)
  counted-most (s ∷ sequences) n light (inr p) = let rest = counted-most sequences n light.1 p.1 in omega (arith, rest)

  module _ (weight : ℕ → ℕ) where
    -- the weights at the places
    abbrev pub weights : List Cited → ℕ
    weights [] = 0
    weights (path ∷ paths) = weight path.place + weights paths

    -- the sequences are those from a number on, and each that has the property has a path
    pub record AreFrom (from : ℕ) (sequences : List (Sequence A)) (paths : List Cited) : Type 0 where
      pub rise : RiseByPlace paths
      pub least : AllByRecursion (λ (path : Cited). from ≤ path.place) paths
      pub weighs : (k : ℕ) (s : Sequence A) → slice_get sequences k ≡ Some s → weight (from + k) ≡ s.weight
      pub all : (k : ℕ) (s : Sequence A) → slice_get sequences k ≡ Some s → Has s.items → Contains (map (λ (path : Cited). path.place) paths) (from + k)

    -- the paths behind the first, which is at the first sequence
    later-from : (from : ℕ) (s : Sequence A) (sequences : List (Sequence A)) (path : Cited) (paths : List Cited) → path.place ≡ from
        → AreFrom from (s ∷ sequences) (path ∷ paths) → AreFrom (suc from) sequences paths
    later-from from s sequences path paths here are = record {
      rise = are.rise.1;
      least = AllByRecursion-weaker (λ (other : Cited). path.place < other.place) (λ (other : Cited). suc from ≤ other.place) (λ other less. omega (arith, less, here)) paths are.rise.0;
      weighs = λ k t found. (let there : from + suc k ≡ suc from + k = omega arith in subst (λ n. weight n ≡ t.weight) there (are.weighs (suc k) t found));
      all = λ k t found has. (let there : from + suc k ≡ suc from + k = omega arith in
          let held = are.all (suc k) t found has in
          elim (Contains-cases path.place (map (λ (p : Cited). p.place) paths) (from + suc k) held) [
            | inl same ↦ absurd (omega (arith, same, here))
            | inr other ↦ subst (Contains (map (λ (p : Cited). p.place) paths)) there other
          ]);
    }

    -- where none is at the first sequence
    none-from : (from : ℕ) (s : Sequence A) (sequences : List (Sequence A)) (paths : List Cited) → AllByRecursion (λ (path : Cited). suc from ≤ path.place) paths
        → AreFrom from (s ∷ sequences) paths → AreFrom (suc from) sequences paths
    none-from from s sequences paths least are = record {
      rise = are.rise;
      least = least;
      weighs = λ k t found. (let there : from + suc k ≡ suc from + k = omega arith in subst (λ n. weight n ≡ t.weight) there (are.weighs (suc k) t found));
      all = λ k t found has. (let there : from + suc k ≡ suc from + k = omega arith in
          subst (Contains (map (λ (p : Cited). p.place) paths)) there (are.all (suc k) t found has));
    }

    all-above : (from : ℕ) (path : Cited) (paths : List Cited) → path.place ≢ from → from ≤ path.place
        → AllByRecursion (λ (o : Cited). path.place < o.place) paths → AllByRecursion (λ (p : Cited). suc from ≤ p.place) (path ∷ paths)
    all-above from path paths other least rise = (
      omega (arith, least, other),
      AllByRecursion-weaker (λ (o : Cited). path.place < o.place) (λ (o : Cited). suc from ≤ o.place) (λ o less. omega (arith, less, least)) paths rise,
    )

    not-later : (from : ℕ) (paths : List Cited) → AllByRecursion (λ (path : Cited). suc from ≤ path.place) paths → Contains (map (λ (p : Cited). p.place) paths) (from + 0) → ⊥
    not-later from paths least held =
        let (path, inside, is) = Contains-from (λ (p : Cited). p.place) paths (from + 0) held in
        let above = AllByRecursion-contained (λ (p : Cited). suc from ≤ p.place) paths path least inside in
        omega (arith, above, is)

    pub full-weigh : (from : ℕ) (sequences : List (Sequence A)) (paths : List Cited) (n : ℕ) → AreFrom from sequences paths → Counts Has sequences n → n ≤ weights paths
    full-weigh from [] paths n are counted = omega (arith, counted)
    full-weigh from (s ∷ sequences) [] n are (inl p) = absurd (Contains-none (from + 0) (are.all 0 s refl p.0))
    full-weigh from (s ∷ sequences) [] n are (inr p) = full-weigh (suc from) sequences [] n (none-from from s sequences [] tt are) p.1
    full-weigh from (s ∷ sequences) (path ∷ paths) n are (inl p) = elim (cases_eq path.place from) [
      | inl here ↦
          let e : path.place ≡ from + 0 = omega (arith, here) in
          let first : weight path.place ≡ s.weight = subst (λ m. weight m ≡ s.weight) (sym e) (are.weighs 0 s refl) in
          let behind = full-weigh (suc from) sequences paths p.1.0 (later-from from s sequences path paths here are) p.1.2 in
          let sum = p.1.1 in
          omega (arith, behind, sum, first)
      | inr other ↦ absurd (not-later from (path ∷ paths) (all-above from path paths other are.least.0 are.rise.0) (are.all 0 s refl p.0))
    ]
    full-weigh from (s ∷ sequences) (path ∷ paths) n are (inr p) = elim (cases_eq path.place from) [
      | inl here ↦ let behind = full-weigh (suc from) sequences paths n (later-from from s sequences path paths here are) p.1 in omega (arith, behind)
      | inr other ↦ full-weigh (suc from) sequences (path ∷ paths) n (none-from from s sequences (path ∷ paths) (all-above from path paths other are.least.0 are.rise.0) are) p.1
    ]
