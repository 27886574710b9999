-- Codes of sequences, merged, are the groups of the sequences.
use Rattle.std.proofs.Common.{◌≡◌, ◌≢◌, ℕ, ◌+◌, ◌≤◌, ◌<◌, inl, inr, Bool, true, false, cond, nat_eq, List, [], ◌∷◌, map, get_or, sum_by, refl, sym, subst, arith, true≢false}
use Rattle.std.specs.Bool.{Decides}
use Rattle.std.specs.List.{AllZip}
use Rattle.std.specs.Cmp.Lexicographic.{pointwise}
use Rattle.std.proofs.lemmas.List.{length-map, get_or-map}
use Rattle.std.proofs.lemmas.List.Sums.{sum_by-append}
use Rattle.mine_model.specs.declared.item.Item.{Item}
use Rattle.mine_model.specs.Support.{Sequence, Counts}
use Rattle.mine_model.specs.Answer.{Data}
use Rattle.mine_model.proofs.SumLemmas.{sum_by-most}
use Rattle.mine_model.specs.Lists.{IsEarlier}
use Rattle.mine_model.proofs.ElementLemmas.{decides}
use Rattle.automaton_model.specs.declared.groups.Group.{Group}
use Rattle.automaton_model.specs.Members.{IsPivotCode}
use Rattle.automaton_model.specs.Groups.{AreGroups}
use Rattle.automaton_model.specs.Merges.{IsCodedBy, weight_at, weight_in, AreMerged}
use Rattle.automaton_model.proofs.MergeLemmas.{weight-here, weight-none, min-cases}
use Rattle.automaton_model.proofs.PivotLemmas.{one_code}
use Rattle.automaton_model.proofs.ZipLemmas.{zip-first, zip-second}

module _ (d : Data Item) (order : List Item) (pivot : ℕ) where
  -- the parts with a code count what the sequences with it weigh
  coded_count : (sequences : List (Sequence Item)) (parts : List Group) (code : List ℕ) → AllZip (IsCodedBy d order pivot) sequences parts
      → Counts (IsPivotCode d order pivot code) sequences (weight_in parts code)
  coded_count [] [] code zip = refl
  coded_count [] (p ∷ parts) code zip = absurd zip
  coded_count (s ∷ sequences) [] code zip = absurd zip
  coded_count (s ∷ sequences) (p ∷ parts) code zip =
      by (pointwise nat_eq p.automaton code) (decides p.automaton code) (coded_count sequences parts code zip.1) (sum_by-append (weight_at code) (p ∷ []) parts)
    where
      by : (test : Bool) → Decides test (p.automaton ≡ code) → Counts (IsPivotCode d order pivot code) sequences (weight_in parts code)
          → weight_in (p ∷ parts) code ≡ weight_in (p ∷ []) code + weight_in parts code → Counts (IsPivotCode d order pivot code) (s ∷ sequences) (weight_in (p ∷ parts) code)
      by true decides rest both =
          let same : p.automaton ≡ code = decides.0 refl in
          let here : weight_at code p ≡ p.count = weight-here p code same in
          let alone : weight_in (p ∷ []) code ≡ 0 + weight_at code p = refl in
          inl (subst (λ (l : List ℕ). IsPivotCode d order pivot l s.items) same zip.0.0, (weight_in parts code, omega (arith, both, alone, here, zip.0.1), rest))
      by false decides rest both =
          let other : p.automaton ≢ code = λ same. true≢false (sym (decides.1 same)) in
          let here : weight_at code p ≡ 0 = weight-none p code other in
          let alone : weight_in (p ∷ []) code ≡ 0 + weight_at code p = refl in
          let same : weight_in parts code ≡ weight_in (p ∷ parts) code = omega (arith, both, alone, here) in
          inr ((λ coded. other (one_code d order pivot s.items p.automaton code zip.0.0 coded)), subst (Counts (IsPivotCode d order pivot code) sequences) same rest)

  weight_most : (parts : List Group) (code : List ℕ) → weight_in parts code ≤ sum_by (λ (part : Group). part.count) parts
  weight_most parts code = sum_by-most (weight_at code) (λ (part : Group). part.count) parts (λ part held. by part (pointwise nat_eq part.automaton code))
    where
      by : (part : Group) (test : Bool) → cond test part.count 0 ≤ part.count
      by part true = omega arith
      by part false = omega arith

  -- MERGED CODES of sequences are their groups, where no count stops at the limit
  pub coded-groups : (sequences : List (Sequence Item)) (parts groups : List Group) → AllZip (IsCodedBy d order pivot) sequences parts
      → sum_by (λ (part : Group). part.count) parts < 18446744073709551616 → AreMerged parts groups → AreGroups d order pivot sequences groups
  coded-groups sequences parts groups zip few are = record {
    rising = λ i j e less inside.
        let code : Group → List ℕ = λ (group : Group). group.automaton in
        let rises = are.rising i j e.automaton less (omega (arith, inside, length-map groups code)) in
        subst (λ (l : List ℕ). IsEarlier l (get_or groups j e).automaton) (get_or-map code groups i e e.automaton (omega (arith, less, inside)))
        (subst (IsEarlier (get_or (map code groups) i e.automaton)) (get_or-map code groups j e e.automaton inside) rises);
    group = λ group held.
        (let is = are.each group held in
        let (sequence, inside, coded) = zip-second (IsCodedBy d order pivot) sequences parts zip is.part is.held in
        let whole : weight_in parts group.automaton ≡ group.count = elim (min-cases (weight_in parts group.automaton) 18446744073709551615) [
          | inl low ↦ omega (arith, low, is.counted)
          | inr high ↦ omega (arith, high, is.counted, few, weight_most parts group.automaton)
        ] in
        record {
          one = sequence;
          held = inside;
          coded = subst (λ (l : List ℕ). IsPivotCode d order pivot l sequence.items) is.same coded.0;
          counted = subst (Counts (IsPivotCode d order pivot group.automaton) sequences) whole (coded_count sequences parts group.automaton zip);
        });
    all = λ sequence held.
        (let (part, inside, coded) = zip-first (IsCodedBy d order pivot) sequences parts zip sequence held in
        let (group, there, same) = are.all part inside in
        (group, there, subst (λ (l : List ℕ). IsPivotCode d order pivot l sequence.items) same coded.0));
  }
