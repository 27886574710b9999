-- Sequences that are merged by a key.
use Rattle.std.proofs.Common.{◌≡◌, ◌≢◌, ℕ, ◌+◌, inl, inr, List, [], ◌∷◌, ◌++◌, sym, ap, ◌∙◌, subst, arith, IsPermutation}
use Rattle.std.specs.List.{AllByRecursion, Contains}
use Rattle.std.proofs.lemmas.List.Elements.{Contains-append_cases, Contains-append_left, Contains-append_right}
use Rattle.std.proofs.lemmas.List.Sums.{sum_by-cons}
use Rattle.std.proofs.lemmas.List.Sorted.{IsPermutation-refl, IsPermutation-append, IsPermutation-trans, IsPermutation-sym, IsPermutation-cons, IsPermutation-middle, Contains-permutation}
use Rattle.mine_model.specs.declared.item.Item.{Item}
use Rattle.mine_model.specs.Support.{Sequence, Counts}
use Rattle.mine_model.proofs.ListLemmas.{Contains-cases, Contains-first, Contains-other, Contains-none, AllByRecursion-contained, AllByRecursion-from, AllByRecursion-weaker, AllPairs-head, AllPairs-tail}
use Rattle.mine_model.proofs.ElementLemmas.{no_members}
use Rattle.mining_job.specs.declared.bound.Bound.{Bound}
use Rattle.mining_job.specs.Problems.{Problem}
use Rattle.part_windows.specs.Patterns.{HaveSamePatterns}
use Rattle.part_windows.specs.Entries.{weight_of, AreEntries, IsKey, AreMergedBy}
use Rattle.part_windows.proofs.EntryLemmas.{joined, Counts-moved, Counts-split, Counts-nothing}

-- the sequences that have a property, and the others
dealt : (Has : List Item → Type 0) (sequences : List (Sequence Item)) (n : ℕ) → Counts Has sequences n
    → (some : List (Sequence Item)) × (others : List (Sequence Item)) × IsPermutation sequences (some ++ others)
    × AllByRecursion (λ (s : Sequence Item). Has s.items) some × AllByRecursion (λ (s : Sequence Item). Has s.items → ⊥) others × (n ≡ weight_of some)
dealt Has [] n none = ([], [], IsPermutation-refl [], tt, tt, none)
dealt Has (s ∷ sequences) n (inl (has, (rest, is, counted))) =
    let (some, others, moved, all, lack, weight) = dealt Has sequences rest counted in (
      s ∷ some,
      others,
      IsPermutation-cons s sequences (some ++ others) moved,
      (has, all),
      lack,
      is ∙ ap (λ k. s.weight + k) weight ∙ sym (sum_by-cons (λ (x : Sequence Item). x.weight) s some),
    )
dealt Has (s ∷ sequences) n (inr (lacks, counted)) =
    let (some, others, moved, all, lack, weight) = dealt Has sequences n counted in (
      some,
      s ∷ others,
      IsPermutation-trans (s ∷ sequences) (s ∷ (some ++ others)) (some ++ s ∷ others) (IsPermutation-cons s sequences (some ++ others) moved)
          (IsPermutation-sym (some ++ s ∷ others) (s ∷ (some ++ others)) (IsPermutation-middle some s others)),
      all,
      (lacks, lack),
      weight,
    )

module _ (key : List Item → List ℕ) where
  abbrev HasKey : Sequence Item → List Item → Type 0
  HasKey entry items = key items ≡ key entry.items

  -- without those of the first entry, the sequences are merged into the others
  rest-merged : (entry : Sequence Item) (entries sequences some others : List (Sequence Item)) → AreMergedBy key sequences (entry ∷ entries)
      → IsPermutation sequences (some ++ others) → AllByRecursion (λ (s : Sequence Item). HasKey entry s.items) some
      → AllByRecursion (λ (s : Sequence Item). HasKey entry s.items → ⊥) others → AreMergedBy key others entries
  rest-merged entry entries sequences some others are moved all lack = record {
    different = AllPairs-tail (λ (one other : Sequence Item). key one.items ≢ key other.items) entry entries are.different;
    weights = λ e held.
        let (a, b, sum, first, last) = Counts-split (HasKey e) some others e.weight
        (Counts-moved (HasKey e) sequences (some ++ others) e.weight moved (are.weights e (Contains-other entry entries e held))) in
        let none : a ≡ 0 = Counts-nothing (HasKey e) some a
        (AllByRecursion-weaker (λ (s : Sequence Item). HasKey entry s.items) (λ (s : Sequence Item). HasKey e s.items → ⊥)
        (λ s is also. apart e held (sym is ∙ also)) some all) first in
        let same : b ≡ e.weight = omega (arith, sum, none) in
        subst (Counts (HasKey e) others) same last;
    all = λ s held.
        let (e, among, is) = are.all s (Contains-permutation (some ++ others) sequences s (IsPermutation-sym sequences (some ++ others) moved) (Contains-append_right some others s held)) in
        elim (Contains-cases entry entries e among) [
          | inl same ↦ absurd (AllByRecursion-contained (λ (x : Sequence Item). HasKey entry x.items → ⊥) others s lack held
              (is ∙ ap (λ (x : Sequence Item). key x.items) same))
          | inr other ↦ (e, other, is)
        ];
    some = λ e held.
        let (s, among, is) = are.some e (Contains-other entry entries e held) in
        elim (Contains-append_cases some others s (Contains-permutation sequences (some ++ others) s moved among)) [
          | inl here ↦ absurd (apart e held (sym (AllByRecursion-contained (λ (x : Sequence Item). HasKey entry x.items) some s all here) ∙ is))
          | inr there ↦ (s, there, is)
        ];
  }
    where
      apart : (e : Sequence Item) → Contains entries e → key entry.items ≢ key e.items
      apart e held = AllPairs-head (λ (one other : Sequence Item). key one.items ≢ key other.items) entry entries are.different e held

  pub merged-entries : (problem : Problem) (bound : Bound) (entries sequences : List (Sequence Item)) → IsKey problem bound key sequences entries
      → AreMergedBy key sequences entries → AreEntries problem bound sequences entries
  merged-entries problem bound [] sequences is_key are =
      let none : sequences ≡ [] = no_members sequences (λ s held. let (e, among, is) = are.all s held in Contains-none e among) in
      record { groups = []; all = subst (IsPermutation sequences) none (IsPermutation-refl sequences); each = tt }
  merged-entries problem bound (entry ∷ entries) sequences is_key are =
      let (some, others, moved, all, lack, weight) = dealt (HasKey entry) sequences entry.weight (are.weights entry (Contains-first entry entries)) in
      let back : IsPermutation (some ++ others) sequences = IsPermutation-sym sequences (some ++ others) moved in
      let rest = merged-entries problem bound entries others
      (λ s e held among is. is_key s e (Contains-permutation (some ++ others) sequences s back (Contains-append_right some others s held)) (Contains-other entry entries e among) is)
      (rest-merged entry entries sequences some others are moved all lack) in
      record {
        groups = some ∷ rest.groups;
        all = IsPermutation-trans sequences (some ++ others) (some ++ joined rest.groups) moved
            (IsPermutation-append some some others (joined rest.groups) (IsPermutation-refl some) rest.all);
        each = (
          record {
            some = λ none.
                let (s, among, is) = are.some entry (Contains-first entry entries) in
                let there : Contains others s = subst (λ l. Contains (l ++ others) s) none (Contains-permutation sequences (some ++ others) s moved among) in
                AllByRecursion-contained (λ (x : Sequence Item). HasKey entry x.items → ⊥) others s lack there is;
            same = AllByRecursion-from (λ (s : Sequence Item). HaveSamePatterns problem bound s.items entry.items) some
                (λ s held. is_key s entry (Contains-permutation (some ++ others) sequences s back (Contains-append_left some others s held)) (Contains-first entry entries)
                (AllByRecursion-contained (λ (x : Sequence Item). HasKey entry x.items) some s all held));
            weight = weight;
          },
          rest.each,
        );
      }
