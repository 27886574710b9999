-- Groups of a part, and what they weigh.
use Rattle.std.proofs.Common.{◌≡◌, ℕ, ◌+◌, ◌*◌, ◌≤◌, ◌<◌, List, [], ◌∷◌, ◌++◌, length, get_or, sum_by, refl, sym, subst, arith}
use Rattle.std.specs.List.{All, AllByRecursion, AllZip, Contains}
use Rattle.std.proofs.lemmas.List.{length-map}
use Rattle.std.proofs.lemmas.List.Sums.{sum_by-cons}
use Rattle.std.proofs.lemmas.List.Elements.{Contains-get_or}
use Rattle.mine_model.specs.declared.item.Item.{Item}
use Rattle.mine_model.specs.Database.{sequence_at, IsWithinLimits}
use Rattle.mine_model.specs.Limits.{most_weight}
use Rattle.mine_model.specs.Support.{Sequence}
use Rattle.mine_model.specs.Answer.{Data}
use Rattle.mine_model.proofs.ListLemmas.{Contains-from, AllByRecursion-from}
use Rattle.mine_model.proofs.FrequencyLemmas.{Counts-most}
use Rattle.automaton_model.specs.declared.groups.Group.{Group}
use Rattle.automaton_model.specs.Members.{IsPivotCode}
use Rattle.snapshot_project.proofs.PartLemmas.{rising-few}
use Rattle.automaton_model.specs.Groups.{AreGroups, AreOfPivot, grouped, part_of}
use Rattle.automaton_model.specs.Merges.{IsCodedBy}
use Rattle.automaton_model.proofs.PivotLemmas.{one_code, codes-apart}
use Rattle.automaton_model.proofs.CountLemmas.{IsIn, groups-sequences}
use Rattle.cand_automaton.proofs.PartLemmas.{Counts-whole}

-- the sequences of a part are sequences of the data
pub part-held : (d : Data Item) (numbers : List ℕ) → ((i : ℕ) → Contains numbers i → i < length d.sequences) → (s : Sequence Item) → Contains (part_of d numbers) s → Contains d.sequences s
part-held d numbers within s held =
    let (i, inside, same) = Contains-from (λ i. sequence_at d.sequences i) numbers s held in
    subst (Contains d.sequences) (sym same) (Contains-get_or d.sequences i (record { items = []; weight = 0 }) (within i inside))

pub held-limits : (sequences : List (Sequence Item)) → All IsWithinLimits sequences → (s : Sequence Item) → Contains sequences s → IsWithinLimits s
held-limits sequences limits s (k, inside, is) = subst IsWithinLimits is (limits k s inside)

grouped-sum : (groups : List Group) → sum_by (λ (s : Sequence ℕ). s.weight) (grouped groups) ≡ sum_by (λ (group : Group). group.count) groups
grouped-sum [] = refl
grouped-sum (g ∷ groups) =
    let one : Sequence ℕ = record { items = g.automaton; weight = g.count } in
    let first : sum_by (λ (s : Sequence ℕ). s.weight) (grouped (g ∷ groups)) ≡ g.count + sum_by (λ (s : Sequence ℕ). s.weight) (grouped groups) = sum_by-cons (λ (s : Sequence ℕ). s.weight) one (grouped groups) in
    let second : sum_by (λ (group : Group). group.count) (g ∷ groups) ≡ g.count + sum_by (λ (group : Group). group.count) groups = sum_by-cons (λ (group : Group). group.count) g groups in
    omega (arith, first, second, grouped-sum groups)

module _ (d : Data Item) (order : List Item) (pivot : ℕ) (sequences : List (Sequence Item)) (groups : List Group) (are : AreGroups d order pivot sequences groups) where
  -- groups weigh no more than their sequences may
  pub groups-most : ((s : Sequence Item) → Contains sequences s → s.weight ≤ most_weight) → sum_by (λ (group : Group). group.count) groups ≤ length sequences * most_weight
  groups-most light =
      let All_codes : List ℕ → Type 0 = λ (code : List ℕ). Unit {0} in
      let whole = Counts-whole All_codes (grouped groups) (λ s held. tt) in
      let counted = groups-sequences (IsPivotCode d order pivot) (one_code d order pivot) All_codes sequences groups (codes-apart d order pivot sequences groups are) (λ group held. (are.group group held).counted)
      (sum_by (λ (s : Sequence ℕ). s.weight) (grouped groups)) whole in
      let most = Counts-most (IsIn (IsPivotCode d order pivot) (one_code d order pivot) All_codes groups) most_weight sequences (sum_by (λ (s : Sequence ℕ). s.weight) (grouped groups))
      (λ k e inside. light (get_or sequences k e) (Contains-get_or sequences k e inside)) counted in
      omega (arith, most, grouped-sum groups)

-- parts of coded sequences count what these weigh
pub coded-sum : (d : Data Item) (order : List Item) (pivot : ℕ) (sequences : List (Sequence Item)) (parts : List Group) → AllZip (IsCodedBy d order pivot) sequences parts
    → sum_by (λ (part : Group). part.count) parts ≡ sum_by (λ (s : Sequence Item). s.weight) sequences
coded-sum d order pivot [] [] zip = refl
coded-sum d order pivot [] (p ∷ parts) zip = absurd zip
coded-sum d order pivot (s ∷ sequences) [] zip = absurd zip
coded-sum d order pivot (s ∷ sequences) (p ∷ parts) zip =
    let first = sum_by-cons (λ (part : Group). part.count) p parts in
    let second = sum_by-cons (λ (t : Sequence Item). t.weight) s sequences in
    omega (arith, first, second, zip.0.1, coded-sum d order pivot sequences parts zip.1)

-- one part more
pub coded-more : (d : Data Item) (order : List Item) (pivot : ℕ) (sequences : List (Sequence Item)) (parts : List Group) (one : Sequence Item) (part : Group)
    → AllZip (IsCodedBy d order pivot) sequences parts → IsCodedBy d order pivot one part → AllZip (IsCodedBy d order pivot) (sequences ++ one ∷ []) (parts ++ part ∷ [])
coded-more d order pivot [] [] one part zip is = (is, tt)
coded-more d order pivot [] (p ∷ parts) one part zip is = absurd zip
coded-more d order pivot (s ∷ sequences) [] one part zip is = absurd zip
coded-more d order pivot (s ∷ sequences) (p ∷ parts) one part zip is = (zip.0, coded-more d order pivot sequences parts one part zip.1 is)

-- a part has no more sequences than all
pub part-few : (d : Data Item) (order : List Item) (pivot : ℕ) (numbers : List ℕ) → AreOfPivot d order pivot numbers → length (part_of d numbers) ≤ length d.sequences
part-few d order pivot numbers are =
    let within : AllByRecursion (λ i. i < length d.sequences) numbers = AllByRecursion-from (λ i. i < length d.sequences) numbers (λ i held. ((are.exact i).0 held).0) in
    let few = rising-few numbers (length d.sequences) are.rising within in
    omega (arith, few, length-map numbers (λ (i : ℕ). sequence_at d.sequences i))
