-- Entries that are made sequence by sequence.
use Rattle.std.proofs.Common.{◌≡◌, ◌≢◌, ℕ, suc, zero, ◌+◌, List, [], ◌∷◌, ◌++◌, map, set, refl, sym, ap, ◌∙◌, subst, arith, append_assoc, IsPermutation, Some, slice_get}
use Rattle.std.specs.List.{AllZip}
use Rattle.std.proofs.lemmas.List.Sums.{sum_by-append, sum_by-cons}
use Rattle.std.proofs.lemmas.List.Sorted.{IsPermutation-refl, IsPermutation-append, IsPermutation-append_comm, IsPermutation-trans}
use Rattle.std.proofs.lemmas.Grind.{flat_map-append}
use Rattle.std.proofs.lemmas.Option.{same_Some}
use Rattle.mine_model.specs.declared.item.Item.{Item}
use Rattle.mine_model.specs.Support.{Sequence}
use Rattle.mine_model.proofs.ListLemmas.{of_both}
use Rattle.mining_job.specs.declared.bound.Bound.{Bound}
use Rattle.mining_job.specs.Problems.{Problem}
use Rattle.part_windows.specs.Patterns.{HaveSamePatterns}
use Rattle.part_windows.specs.Entries.{weight_of, IsEntryOf, AreEntries}
use Rattle.part_windows.proofs.EntryLemmas.{joined}

zip-push : {X Y : Type 0} (R : X → Y → Type 0) (xs : List X) (ys : List Y) (x : X) (y : Y) → AllZip R xs ys → R x y → AllZip R (xs ++ x ∷ []) (ys ++ y ∷ [])
zip-push R [] [] x y each is = (is, tt)
zip-push R [] (z ∷ ys) x y each is = absurd each
zip-push R (z ∷ xs) [] x y each is = absurd each
zip-push R (z ∷ xs) (w ∷ ys) x y (first, each) is = (first, zip-push R xs ys x y each is)

not-empty : (xs : List (Sequence Item)) (s : Sequence Item) → xs ++ s ∷ [] ≢ []
not-empty [] s none = absurd (cc)
not-empty (x ∷ xs) s none = absurd (cc)

-- one more behind the first of two lists is one more behind both
behind-first : (xs ys : List (Sequence Item)) (s : Sequence Item) → IsPermutation ((xs ++ ys) ++ s ∷ []) ((xs ++ s ∷ []) ++ ys)
behind-first xs ys s =
    subst (λ l. IsPermutation l ((xs ++ s ∷ []) ++ ys)) (sym (append_assoc xs ys (s ∷ [])))
    (subst (IsPermutation (xs ++ (ys ++ s ∷ []))) (sym (append_assoc xs (s ∷ []) ys))
    (IsPermutation-append xs xs (ys ++ s ∷ []) (s ∷ [] ++ ys) (IsPermutation-refl xs) (IsPermutation-append_comm ys (s ∷ []))))

module _ (problem : Problem) (bound : Bound) where
  abbrev Each : List (List (Sequence Item)) → List (Sequence Item) → Type 0
  Each groups entries = AllZip (IsEntryOf problem bound) groups entries

  own-entry : (s : Sequence Item) → IsEntryOf problem bound (s ∷ []) s
  own-entry s = record {
    some = λ none. absurd (cc);
    same = ((λ pattern. ((λ is. is), (λ is. is))), tt);
    weight = sym (sum_by-cons (λ (x : Sequence Item). x.weight) s [] ∙ (let e : s.weight + weight_of [] ≡ s.weight = omega arith in e));
  }

  pub no-entries : AreEntries problem bound [] []
  no-entries = record { groups = []; all = IsPermutation-refl []; each = tt }

  pub one-own : (sequences entries : List (Sequence Item)) → AreEntries problem bound sequences entries → (s : Sequence Item)
      → AreEntries problem bound (sequences ++ s ∷ []) (entries ++ s ∷ [])
  one-own sequences entries are s = record {
    groups = are.groups ++ (s ∷ []) ∷ [];
    all = subst (IsPermutation (sequences ++ s ∷ [])) (sym (flat_map-append (λ (group : List (Sequence Item)). group) are.groups ((s ∷ []) ∷ [])))
        (IsPermutation-append sequences (joined are.groups) (s ∷ []) (s ∷ []) are.all (IsPermutation-refl (s ∷ [])));
    each = zip-push (IsEntryOf problem bound) are.groups entries (s ∷ []) s are.each (own-entry s);
  }

  -- an entry of one sequence more
  abbrev heavier : Sequence Item → Sequence Item → Sequence Item
  heavier entry s = record entry { weight = entry.weight + s.weight }

  wider : (group : List (Sequence Item)) (entry s : Sequence Item) → IsEntryOf problem bound group entry → HaveSamePatterns problem bound s.items entry.items
      → IsEntryOf problem bound (group ++ s ∷ []) (heavier entry s)
  wider group entry s is same = record {
    some = not-empty group s;
    same = of_both (λ (x : Sequence Item). HaveSamePatterns problem bound x.items entry.items) group (s ∷ []) is.same (same, tt);
    weight = omega (arith, is.weight, sum_by-append (λ (x : Sequence Item). x.weight) group (s ∷ []), sum_by-cons (λ (x : Sequence Item). x.weight) s []);
  }

  more-in : (groups : List (List (Sequence Item))) (entries : List (Sequence Item)) → Each groups entries → (s : Sequence Item) (k : ℕ) (entry : Sequence Item)
      → slice_get entries k ≡ Some entry → HaveSamePatterns problem bound s.items entry.items
      → (after : List (List (Sequence Item))) × IsPermutation (joined groups ++ s ∷ []) (joined after) × Each after (set entries k (heavier entry s))
  more-in [] [] each s k entry at same = absurd (cc)
  more-in [] (e ∷ entries) each s k entry at same = absurd each
  more-in (group ∷ groups) [] each s k entry at same = absurd each
  more-in (group ∷ groups) (e ∷ entries) (is, each) s zero entry at same =
      let first : e ≡ entry = same_Some e entry at in (
        (group ++ s ∷ []) ∷ groups,
        behind-first group (joined groups) s,
        (wider group entry s (subst (IsEntryOf problem bound group) first is) same, each),
      )
  more-in (group ∷ groups) (e ∷ entries) (is, each) s (suc k) entry at same =
      let (after, moved, still) = more-in groups entries each s k entry at same in (
        group ∷ after,
        subst (λ l. IsPermutation l (group ++ joined after)) (sym (append_assoc group (joined groups) (s ∷ [])))
            (IsPermutation-append group group (joined groups ++ s ∷ []) (joined after) (IsPermutation-refl group) moved),
        (is, still),
      )

  pub one-more : (sequences entries : List (Sequence Item)) → AreEntries problem bound sequences entries → (s : Sequence Item) (k : ℕ) (entry : Sequence Item)
      → slice_get entries k ≡ Some entry → HaveSamePatterns problem bound s.items entry.items
      → AreEntries problem bound (sequences ++ s ∷ []) (set entries k (record entry { weight = entry.weight + s.weight }))
  one-more sequences entries are s k entry at same =
      let (after, moved, still) = more-in are.groups entries are.each s k entry at same in
      record {
        groups = after;
        all = IsPermutation-trans (sequences ++ s ∷ []) (joined are.groups ++ s ∷ []) (joined after)
            (IsPermutation-append sequences (joined are.groups) (s ∷ []) (s ∷ []) are.all (IsPermutation-refl (s ∷ []))) moved;
        each = still;
      }

  abbrev alone : List (Sequence Item) → List (List (Sequence Item))
  alone sequences = map (λ (s : Sequence Item). s ∷ []) sequences

  alone-joined : (sequences : List (Sequence Item)) → joined (alone sequences) ≡ sequences
  alone-joined [] = refl
  alone-joined (s ∷ sequences) = ap (λ l. s ∷ l) (alone-joined sequences)

  alone-each : (sequences : List (Sequence Item)) → Each (alone sequences) sequences
  alone-each [] = tt
  alone-each (s ∷ sequences) = (own-entry s, alone-each sequences)

  pub all-own : (sequences : List (Sequence Item)) → AreEntries problem bound sequences sequences
  all-own sequences = record {
    groups = alone sequences;
    all = subst (IsPermutation sequences) (sym (alone-joined sequences)) (IsPermutation-refl sequences);
    each = alone-each sequences;
  }
