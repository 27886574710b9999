-- Sequences that weigh enough together, and prefixes that are alive.
use Rattle.std.proofs.Common.{◌≡◌, ◌↔◌, ℕ, suc, ◌+◌, ◌-◌, ◌≤◌, ◌<◌, inl, inr, List, [], ◌∷◌, ◌++◌, map, length, sym, ap, subst, arith, append_assoc}
use Rattle.std.specs.List.{AllPairs, Contains}
use Rattle.std.proofs.lemmas.Bool.{cases_eq}
use Rattle.std.proofs.lemmas.List.{append-nil}
use Rattle.mine_model.specs.declared.item.Item.{Item}
use Rattle.mine_model.specs.Database.{sequence_at}
use Rattle.mine_model.specs.Generation.{IsPatternOf}
use Rattle.mine_model.specs.Support.{Sequence, Counts}
use Rattle.mine_model.specs.Answer.{Data, IsFrequent}
use Rattle.mine_model.specs.Growth.{WeighAtLeast, HasPatternBehind, IsAlive}
use Rattle.mine_model.proofs.ListLemmas.{Contains-cases, Contains-first, Contains-other, Contains-none, AllPairs-head, AllPairs-tail, map-same}

-- Weights

module _ {A : Type 0} (Has : List A → Type 0) where
  weigh_forth : (sequences : List (Sequence A)) (n m : ℕ) → Counts Has sequences n → WeighAtLeast Has sequences m → m ≤ n
  weigh_forth [] n m counted weigh = omega arith
  weigh_forth (s ∷ sequences) n m (inl p) (inl q) =
      let less : m - s.weight ≤ p.1.0 = weigh_forth sequences p.1.0 (m - s.weight) p.1.2 q.1 in omega (arith, less, p.1.1)
  weigh_forth (s ∷ sequences) n m (inl p) (inr q) =
      let less : m ≤ p.1.0 = weigh_forth sequences p.1.0 m p.1.2 q in omega (arith, less, p.1.1)
  weigh_forth (s ∷ sequences) n m (inr p) (inl q) = absurd (p.0 q.0)
  weigh_forth (s ∷ sequences) n m (inr p) (inr q) = weigh_forth sequences n m p.1 q

  weigh_back : (sequences : List (Sequence A)) (n m : ℕ) → Counts Has sequences n → m ≤ n → WeighAtLeast Has sequences m
  weigh_back [] n m counted most = omega (arith, counted, most)
  weigh_back (s ∷ sequences) n m (inl p) most = inl (p.0, weigh_back sequences p.1.0 (m - s.weight) p.1.2 (omega (arith, p.1.1, most)))
  weigh_back (s ∷ sequences) n m (inr p) most = inr (weigh_back sequences n m p.1 most)

  -- the sequences that have a property weigh at least so much where that is at most what they weigh
  pub WeighAtLeast-counted : (sequences : List (Sequence A)) (n m : ℕ) → Counts Has sequences n → WeighAtLeast Has sequences m ↔ m ≤ n
  WeighAtLeast-counted sequences n m counted = (weigh_forth sequences n m counted, weigh_back sequences n m counted)

  -- what weighs so much weighs at least what is less
  pub WeighAtLeast-less : (sequences : List (Sequence A)) (m k : ℕ) → k ≤ m → WeighAtLeast Has sequences m → WeighAtLeast Has sequences k
  WeighAtLeast-less [] m k less weigh = omega (arith, less, weigh)
  WeighAtLeast-less (s ∷ sequences) m k less (inl p) = inl (p.0, WeighAtLeast-less sequences (m - s.weight) (k - s.weight) (omega (arith, less)) p.1)
  WeighAtLeast-less (s ∷ sequences) m k less (inr p) = inr (WeighAtLeast-less sequences m k less p)

  -- where something weighs, a sequence has the property
  pub WeighAtLeast-some : (sequences : List (Sequence A)) (m : ℕ) → 1 ≤ m → WeighAtLeast Has sequences m → (s : Sequence A) × Contains sequences s × Has s.items
  WeighAtLeast-some [] m some weigh = absurd (omega (arith, some, weigh))
  WeighAtLeast-some (s ∷ sequences) m some (inl p) = (s, Contains-first s sequences, p.0)
  WeighAtLeast-some (s ∷ sequences) m some (inr p) =
      let (other, held, has) = WeighAtLeast-some sequences m some p in (other, Contains-other s sequences other held, has)

-- what more sequences have weighs no less
pub WeighAtLeast-weaker : {A : Type 0} (Has Also : List A → Type 0) → ((items : List A) → Has items → Also items)
    → (sequences : List (Sequence A)) (m : ℕ) → WeighAtLeast Has sequences m → WeighAtLeast Also sequences m
WeighAtLeast-weaker Has Also follows [] m weigh = weigh
WeighAtLeast-weaker Has Also follows (s ∷ sequences) m (inl p) = inl (follows s.items p.0, WeighAtLeast-weaker Has Also follows sequences (m - s.weight) p.1)
WeighAtLeast-weaker Has Also follows (s ∷ sequences) m (inr p) = inr (WeighAtLeast-weaker Has Also follows sequences m p)

-- Sequences by their numbers

-- the sequence with this number, where the first has the number `from`
abbrev numbered : ℕ → List (Sequence Item) → ℕ → Sequence Item
numbered from sequences i = sequence_at sequences (i - from)

module _ (Has : List Item → Type 0) where
  counts_first : (s : Sequence Item) (xs ys : List (Sequence Item)) → ((n : ℕ) → Counts Has xs n → Counts Has ys n)
      → (n : ℕ) → Counts Has (s ∷ xs) n → Counts Has (s ∷ ys) n
  counts_first s xs ys rest n (inl p) = inl (p.0, (p.1.0, p.1.1, rest p.1.0 p.1.2))
  counts_first s xs ys rest n (inr p) = inr (p.0, rest n p.1)

  first_is : (from : ℕ) (s : Sequence Item) (sequences : List (Sequence Item)) → numbered from (s ∷ sequences) from ≡ s
  first_is from s sequences = let none : from - from ≡ 0 = omega arith in ap (sequence_at (s ∷ sequences)) none

  counts_skip : (s : Sequence Item) (xs : List (Sequence Item)) → (Has s.items → ⊥) → (n : ℕ) → Counts Has (s ∷ xs) n → Counts Has xs n
  counts_skip s xs hasnt n (inl p) = absurd (hasnt p.0)
  counts_skip s xs hasnt n (inr p) = p.1

  weigh_first : (s : Sequence Item) (xs ys : List (Sequence Item)) → ((m : ℕ) → WeighAtLeast Has xs m → WeighAtLeast Has ys m)
      → (m : ℕ) → WeighAtLeast Has (s ∷ xs) m → WeighAtLeast Has (s ∷ ys) m
  weigh_first s xs ys rest m (inl p) = inl (p.0, rest (m - s.weight) p.1)
  weigh_first s xs ys rest m (inr p) = inr (rest m p)

  weigh_skip : (s : Sequence Item) (xs : List (Sequence Item)) → (Has s.items → ⊥) → (m : ℕ) → WeighAtLeast Has (s ∷ xs) m → WeighAtLeast Has xs m
  weigh_skip s xs hasnt m (inl p) = absurd (hasnt p.0)
  weigh_skip s xs hasnt m (inr p) = p

  -- the numbers are those of some of the sequences, among them all that have the property
  record AreNumbers (from : ℕ) (sequences : List (Sequence Item)) (numbers : List ℕ) : Type 0 where
    rising : AllPairs (λ low high. low < high) numbers
    least : (i : ℕ) → Contains numbers i → from ≤ i
    most : (i : ℕ) → Contains numbers i → i < from + length sequences
    all : (i : ℕ) → from ≤ i → i < from + length sequences → Has (numbered from sequences i).items → Contains numbers i

  later : (from : ℕ) (s : Sequence Item) (sequences : List (Sequence Item)) (i : ℕ) → from < i
      → numbered from (s ∷ sequences) i ≡ numbered (suc from) sequences i
  later from s sequences i above =
      let back : i - from ≡ suc (i - suc from) = omega (arith, above) in ap (sequence_at (s ∷ sequences)) back

  numbers_later : (from : ℕ) (s : Sequence Item) (sequences : List (Sequence Item)) (numbers : List ℕ)
      → ((i : ℕ) → Contains numbers i → from < i)
      → map (numbered from (s ∷ sequences)) numbers ≡ map (numbered (suc from) sequences) numbers
  numbers_later from s sequences numbers above =
      map-same (numbered from (s ∷ sequences)) (numbered (suc from) sequences) numbers (λ i held. later from s sequences i (above i held))

  -- the numbers of the later sequences, where the first is among them or not
  numbers_rest : (from : ℕ) (s : Sequence Item) (sequences : List (Sequence Item)) (numbers more : List ℕ) → AreNumbers from (s ∷ sequences) numbers
      → AllPairs (λ low high. low < high) more → ((i : ℕ) → Contains more i → Contains numbers i × (from < i))
      → ((i : ℕ) → Contains numbers i → from < i → Contains more i) → AreNumbers (suc from) sequences more
  numbers_rest from s sequences numbers more are rising among all = record {
    rising = rising;
    least = λ i held. (among i held).1;
    most = λ i held. omega (arith, are.most i (among i held).0);
    all = λ i above below has.
        let more_than : from < i = above in
        all i (are.all i (omega (arith, above)) (omega (arith, below)) (subst (λ (t : Sequence Item). Has t.items) (sym (later from s sequences i more_than)) has)) above;
  }

  part_from : (from : ℕ) (sequences : List (Sequence Item)) (numbers : List ℕ) → AreNumbers from sequences numbers
      → ((n : ℕ) → Counts Has (map (numbered from sequences) numbers) n → Counts Has sequences n)
      × ((n : ℕ) → Counts Has sequences n → Counts Has (map (numbered from sequences) numbers) n)
      × ((m : ℕ) → WeighAtLeast Has sequences m → WeighAtLeast Has (map (numbered from sequences) numbers) m)
  part_from from [] [] are = ((λ n c. c), (λ n c. c), (λ m w. w))
  part_from from [] (i ∷ numbers) are =
      absurd (omega (arith, are.least i (Contains-first i numbers), are.most i (Contains-first i numbers)))
  part_from from (s ∷ sequences) [] are =
      let rest = part_from (suc from) sequences [] (numbers_rest from s sequences [] [] are are.rising (λ i held. absurd (Contains-none i held)) (λ i held above. held)) in
      let hasnt : Has s.items → ⊥ = λ has. Contains-none from (are.all from (omega arith) (omega arith) (subst (λ (t : Sequence Item). Has t.items) (sym (first_is from s sequences)) has)) in (
        (λ n c. inr (hasnt, rest.0 n c)),
        (λ n c. rest.1 n (counts_skip s sequences hasnt n c)),
        (λ m w. rest.2 m (weigh_skip s sequences hasnt m w)),
      )
  part_from from (s ∷ sequences) (i ∷ numbers) are = elim (cases_eq i from) [
    | inl here ↦
        let above : (k : ℕ) → Contains numbers k → from < k = λ k held. (let less : i < k = AllPairs-head (λ low high. low < high) i numbers are.rising k held in omega (arith, less, here)) in
        let rest = part_from (suc from) sequences numbers (numbers_rest from s sequences (i ∷ numbers) numbers are (AllPairs-tail (λ low high. low < high) i numbers are.rising)
        (λ k held. (Contains-other i numbers k held, above k held))
        (λ k held more. elim (Contains-cases i numbers k held) [ inl same ↦ absurd (omega (arith, same, here, more)) | inr there ↦ there ])) in
        let first : numbered from (s ∷ sequences) i ≡ s = (let back : i - from ≡ 0 = omega (arith, here) in ap (sequence_at (s ∷ sequences)) back) in
        let same : map (numbered from (s ∷ sequences)) (i ∷ numbers) ≡ s ∷ map (numbered (suc from) sequences) numbers = (λ j. first j ∷ numbers_later from s sequences numbers above j) in (
          (λ n c. counts_first s (map (numbered (suc from) sequences) numbers) sequences rest.0 n (subst (λ l. Counts Has l n) same c)),
          (λ n c. subst (λ l. Counts Has l n) (sym same) (counts_first s sequences (map (numbered (suc from) sequences) numbers) rest.1 n c)),
          (λ m w. subst (λ l. WeighAtLeast Has l m) (sym same) (weigh_first s sequences (map (numbered (suc from) sequences) numbers) rest.2 m w)),
        )
    | inr other ↦
        let above : (k : ℕ) → Contains (i ∷ numbers) k → from < k = λ k held. (elim (Contains-cases i numbers k held) [
          | inl same ↦ omega (arith, are.least i (Contains-first i numbers), other, same)
          | inr there ↦ (let less : i < k = AllPairs-head (λ low high. low < high) i numbers are.rising k there in omega (arith, less, are.least i (Contains-first i numbers)))
        ]) in
        let rest = part_from (suc from) sequences (i ∷ numbers) (numbers_rest from s sequences (i ∷ numbers) (i ∷ numbers) are are.rising (λ k held. (held, above k held)) (λ k held more. held)) in
        let hasnt : Has s.items → ⊥ = λ has. (let is : from < from = above from (are.all from (omega arith) (omega arith) (subst (λ (t : Sequence Item). Has t.items) (sym (first_is from s sequences)) has)) in omega (arith, is)) in
        let same : map (numbered from (s ∷ sequences)) (i ∷ numbers) ≡ map (numbered (suc from) sequences) (i ∷ numbers) = numbers_later from s sequences (i ∷ numbers) above in (
          (λ n c. inr (hasnt, rest.0 n (subst (λ l. Counts Has l n) same c))),
          (λ n c. subst (λ l. Counts Has l n) (sym same) (rest.1 n (counts_skip s sequences hasnt n c))),
          (λ m w. subst (λ l. WeighAtLeast Has l m) (sym same) (rest.2 m (weigh_skip s sequences hasnt m w))),
        )
  ]

  numbers_of : (sequences : List (Sequence Item)) (numbers : List ℕ) → AllPairs (λ low high. low < high) numbers
      → ((i : ℕ) → Contains numbers i → i < length sequences)
      → ((i : ℕ) → i < length sequences → Has (sequence_at sequences i).items → Contains numbers i)
      → AreNumbers 0 sequences numbers
  numbers_of sequences numbers rising within all = record {
    rising = rising;
    least = λ i held. omega arith;
    most = λ i held. omega (arith, within i held);
    all = λ i above below has. all i (omega (arith, below)) (let e : i - 0 ≡ i = omega arith in subst (λ k. Has (sequence_at sequences k).items) e has);
  }

  numbered_all : (sequences : List (Sequence Item)) (numbers : List ℕ) → map (numbered 0 sequences) numbers ≡ map (λ i. sequence_at sequences i) numbers
  numbered_all sequences numbers =
      map-same (numbered 0 sequences) (λ i. sequence_at sequences i) numbers (λ i held. (let e : i - 0 ≡ i = omega arith in ap (sequence_at sequences) e))

  -- A part has the sequences with these numbers. Where it has all sequences with the property, these weigh in it
  -- what they weigh among all.
  pub Counts-part : (sequences : List (Sequence Item)) (numbers : List ℕ) → AllPairs (λ low high. low < high) numbers
      → ((i : ℕ) → Contains numbers i → i < length sequences)
      → ((i : ℕ) → i < length sequences → Has (sequence_at sequences i).items → Contains numbers i)
      → (n : ℕ) → Counts Has (map (λ i. sequence_at sequences i) numbers) n ↔ Counts Has sequences n
  Counts-part sequences numbers rising within all n =
      let parts = part_from 0 sequences numbers (numbers_of sequences numbers rising within all) in (
        (λ c. parts.0 n (subst (λ l. Counts Has l n) (sym (numbered_all sequences numbers)) c)),
        (λ c. subst (λ l. Counts Has l n) (numbered_all sequences numbers) (parts.1 n c)),
      )

  -- and in it they weigh at least what they weigh at least among all
  pub WeighAtLeast-part : (sequences : List (Sequence Item)) (numbers : List ℕ) → AllPairs (λ low high. low < high) numbers
      → ((i : ℕ) → Contains numbers i → i < length sequences)
      → ((i : ℕ) → i < length sequences → Has (sequence_at sequences i).items → Contains numbers i)
      → (m : ℕ) → WeighAtLeast Has sequences m → WeighAtLeast Has (map (λ i. sequence_at sequences i) numbers) m
  WeighAtLeast-part sequences numbers rising within all m weigh =
      subst (λ l. WeighAtLeast Has l m) (numbered_all sequences numbers)
      ((part_from 0 sequences numbers (numbers_of sequences numbers rising within all)).2 m weigh)

-- Prefixes

module _ {A : Type 0} (d : Data A) where
  -- items with a pattern behind a longer prefix have one behind the shorter
  pub HasPatternBehind-shorter : (IsWithin : List A → Type 0) (prefix more items : List A)
      → HasPatternBehind d IsWithin (prefix ++ more) items → HasPatternBehind d IsWithin prefix items
  HasPatternBehind-shorter IsWithin prefix more items (rest, pattern, within) =
      let same : (prefix ++ more) ++ rest ≡ prefix ++ (more ++ rest) = append_assoc prefix more rest in
      (more ++ rest, subst (IsPatternOf d.links d.expression items) same pattern, subst IsWithin same within)

  -- what begins an alive prefix is alive
  pub IsAlive-shorter : (IsWithin : List A → Type 0) (prefix more : List A) → IsAlive d IsWithin (prefix ++ more) → IsAlive d IsWithin prefix
  IsAlive-shorter IsWithin prefix more alive =
      WeighAtLeast-weaker (HasPatternBehind d IsWithin (prefix ++ more)) (HasPatternBehind d IsWithin prefix)
      (HasPatternBehind-shorter IsWithin prefix more) d.sequences d.threshold alive

  -- a prefix stays alive within a wider bound
  pub IsAlive-weaker : (IsWithin Also : List A → Type 0) → ((items : List A) → IsWithin items → Also items)
      → (prefix : List A) → IsAlive d IsWithin prefix → IsAlive d Also prefix
  IsAlive-weaker IsWithin Also follows prefix alive =
      WeighAtLeast-weaker (HasPatternBehind d IsWithin prefix) (HasPatternBehind d Also prefix)
      (λ items (more, pattern, within). (more, pattern, follows (prefix ++ more) within)) d.sequences d.threshold alive

  -- a prefix is alive where the sequences with a pattern behind it reach the threshold
  pub IsAlive-counted : (IsWithin : List A → Type 0) (prefix : List A) (n : ℕ) → Counts (HasPatternBehind d IsWithin prefix) d.sequences n
      → IsAlive d IsWithin prefix ↔ d.threshold ≤ n
  IsAlive-counted IsWithin prefix n counted =
      WeighAtLeast-counted (HasPatternBehind d IsWithin prefix) d.sequences n d.threshold counted

  -- an alive prefix has a pattern behind it in some sequence
  pub IsAlive-some : (IsWithin : List A → Type 0) (prefix : List A) → 1 ≤ d.threshold → IsAlive d IsWithin prefix
      → (s : Sequence A) × Contains d.sequences s × HasPatternBehind d IsWithin prefix s.items
  IsAlive-some IsWithin prefix least alive = WeighAtLeast-some (HasPatternBehind d IsWithin prefix) d.sequences d.threshold least alive

  -- a frequent pattern within the bound is an alive prefix
  pub IsAlive-frequent : (IsWithin : List A → Type 0) (pattern : List A) (support : ℕ) → IsFrequent d pattern support → IsWithin pattern
      → IsAlive d IsWithin pattern
  IsAlive-frequent IsWithin pattern support frequent within =
      let Has : List A → Type 0 = λ items. IsPatternOf d.links d.expression items pattern in
      let same : pattern ≡ pattern ++ [] = sym (append-nil pattern) in
      WeighAtLeast-weaker Has (HasPatternBehind d IsWithin pattern)
      (λ items is. ([], subst (IsPatternOf d.links d.expression items) same is, subst IsWithin same within))
      d.sequences d.threshold ((WeighAtLeast-counted Has d.sequences support d.threshold frequent.exact).1 frequent.enough)
