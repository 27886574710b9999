-- What is asked of sequences by their patterns weighs the same over the entries.
use Rattle.std.proofs.Common.{◌≡◌, ◌↔◌, ℕ, suc, zero, ◌+◌, ◌-◌, ◌≤◌, ◌<◌, ◌⊎◌, inl, inr, List, [], ◌∷◌, ◌++◌, map, length, set, swap, refl, sym, ap, ◌∙◌, subst, arith, sum_by, flat_map, IsPermutation, get_or}
use Rattle.std.specs.List.{AllByRecursion, AllZip}
use Rattle.std.proofs.Math.ListN.{get_or-map}
use Rattle.std.proofs.lemmas.List.{map-set, length-map}
use Rattle.std.proofs.lemmas.List.Elements.{recursion_from_All, All-from_recursion}
use Rattle.std.proofs.lemmas.List.Sums.{sum_by-cons}
use Rattle.std.proofs.lemmas.List.Sorted.{All-permutation, IsPermutation-keeps, IsPermutation-refl, IsPermutation-trans, IsPermutation-sym, sum_by-IsPermutation}
use Rattle.mine_model.specs.declared.item.Item.{Item}
use Rattle.mine_model.specs.Support.{Sequence, Counts}
use Rattle.mine_model.specs.Growth.{WeighAtLeast}
use Rattle.mine_model.proofs.AliveLemmas.{WeighAtLeast-less, WeighAtLeast-some}
use Rattle.mine_model.proofs.FrequencyLemmas.{Counts-append, Counts-none}
use Rattle.mine_model.proofs.ListLemmas.{AllByRecursion-contained, AllByRecursion-weaker}
use Rattle.mine_model.proofs.SupportLemmas.{Counts-unique}
use Rattle.mining_job.specs.declared.bound.Bound.{Bound}
use Rattle.mining_job.specs.Problems.{Problem}
use Rattle.part_windows.specs.Patterns.{HaveSamePatterns}
use Rattle.part_windows.specs.Entries.{weight_of, IsEntryOf, AreEntries}

-- ---- what stands beside the elements of a list moves with them

map-swap : {X Y : Type 0} (f : X → Y) (xs : List X) (i j : ℕ) → map f (swap xs i j) ≡ swap (map f xs) i j
map-swap f [] i j = refl
map-swap f (d ∷ xs) i j =
    map-set f (set (d ∷ xs) i (get_or (d ∷ xs) j d)) j (get_or (d ∷ xs) i d)
    ∙ ap (λ l. set l j (f (get_or (d ∷ xs) i d))) (map-set f (d ∷ xs) i (get_or (d ∷ xs) j d))
    ∙ ap (λ y. set (set (map f (d ∷ xs)) i y) j (f (get_or (d ∷ xs) i d))) (sym (get_or-map f (d ∷ xs) j d))
    ∙ ap (λ y. set (set (map f (d ∷ xs)) i (get_or (map f (d ∷ xs)) j (f d))) j y) (sym (get_or-map f (d ∷ xs) i d))

one-swap : {X : Type 0} (xs : List X) (i j : ℕ) → i < length xs → j < length xs → IsPermutation xs (swap xs i j)
one-swap xs i j first second = record { moves = (i, j) ∷ []; below = (first, second, tt); is = refl }

moved-with : {X Y : Type 0} (f : Y → X) (ps : List Y) (xs : List X) → IsPermutation (map f ps) xs
    → (qs : List Y) × (map f qs ≡ xs) × IsPermutation ps qs
moved-with {X} {Y} f ps xs moved =
    IsPermutation-keeps (map f ps) (λ (l : List X). (qs : List Y) × (map f qs ≡ l) × IsPermutation ps qs) (ps, refl, IsPermutation-refl ps)
    (λ l i j first second (qs, same, by).
    let long : length qs ≡ length l = sym (length-map qs f) ∙ ap length same in (
      swap qs i j,
      map-swap f qs i j ∙ ap (λ k. swap k i j) same,
      IsPermutation-trans ps qs (swap qs i j) by (one-swap qs i j (omega (arith, long, first)) (omega (arith, long, second))),
    ))
    xs moved

-- ---- sequences in another order weigh the same

-- a sequence, and what it adds to a sum
abbrev Mark : Type 0
Mark = Sequence Item × ℕ

abbrev sequences_in : List Mark → List (Sequence Item)
sequences_in marks = map (λ (m : Mark). m.0) marks

abbrev sum_in : List Mark → ℕ
sum_in marks = sum_by (λ (m : Mark). m.1) marks

module _ (Has Other : List Item → Type 0) where
  -- it adds its weight where it has the property, and else nothing
  abbrev Tells : Mark → Type 0
  Tells m = (Has m.0.items × (m.1 ≡ m.0.weight)) ⊎ (Other m.0.items × (m.1 ≡ 0))

  marks-moved : (marks : List Mark) (sequences : List (Sequence Item)) → AllByRecursion Tells marks → IsPermutation (sequences_in marks) sequences
      → (others : List Mark) × (sequences_in others ≡ sequences) × AllByRecursion Tells others × (sum_in others ≡ sum_in marks)
  marks-moved marks sequences all moved =
      let (others, same, by) = moved-with (λ (m : Mark). m.0) marks sequences moved in (
        others,
        same,
        recursion_from_All Tells others (All-permutation Tells marks others by (All-from_recursion Tells marks all)),
        sum_by-IsPermutation (λ (m : Mark). m.1) marks others by,
      )

module _ (Has : List Item → Type 0) where
  abbrev Lacks : List Item → Type 0
  Lacks items = Has items → ⊥

  abbrev Any : List Item → Type 0
  Any items = Unit {0}

  counts-marks : (sequences : List (Sequence Item)) (n : ℕ) → Counts Has sequences n
      → (marks : List Mark) × (sequences_in marks ≡ sequences) × AllByRecursion (Tells Has Lacks) marks × (sum_in marks ≡ n)
  counts-marks [] n none = ([], refl, tt, sym none)
  counts-marks (s ∷ sequences) n (inl (has, (rest, is, counted))) =
      let (marks, same, all, sum) = counts-marks sequences rest counted in
      ((s, s.weight) ∷ marks, ap (λ l. s ∷ l) same, (inl (has, refl), all), sum_by-cons (λ (m : Mark). m.1) (s, s.weight) marks ∙ ap (λ k. s.weight + k) sum ∙ sym is)
  counts-marks (s ∷ sequences) n (inr (lacks, counted)) =
      let (marks, same, all, sum) = counts-marks sequences n counted in
      ((s, 0) ∷ marks, ap (λ l. s ∷ l) same, (inr (lacks, refl), all), omega (arith, sum_by-cons (λ (m : Mark). m.1) (s, 0) marks, sum))

  marks-count : (marks : List Mark) → AllByRecursion (Tells Has Lacks) marks → Counts Has (sequences_in marks) (sum_in marks)
  marks-count [] all = refl
  marks-count (m ∷ marks) (inl (has, is), all) = inl (has, (sum_in marks, sum_by-cons (λ (k : Mark). k.1) m marks ∙ ap (λ w. w + sum_in marks) is, marks-count marks all))
  marks-count (m ∷ marks) (inr (lacks, none), all) =
      let same : sum_in marks ≡ sum_in (m ∷ marks) = omega (arith, sum_by-cons (λ (k : Mark). k.1) m marks, none) in
      inr (lacks, subst (Counts Has (sequences_in marks)) same (marks-count marks all))

  pub Counts-moved : (sequences others : List (Sequence Item)) (n : ℕ) → IsPermutation sequences others → Counts Has sequences n → Counts Has others n
  Counts-moved sequences others n moved counted =
      let (marks, same, all, sum) = counts-marks sequences n counted in
      let (after, are, still, total) = marks-moved Has Lacks marks others all (subst (λ l. IsPermutation l others) (sym same) moved) in
      subst (λ l. Counts Has l n) are (subst (Counts Has (sequences_in after)) (total ∙ sum) (marks-count after still))

  weigh-marks : (sequences : List (Sequence Item)) (n : ℕ) → WeighAtLeast Has sequences n
      → (marks : List Mark) × (sequences_in marks ≡ sequences) × AllByRecursion (Tells Has Any) marks × (n ≤ sum_in marks)
  weigh-marks [] n none = ([], refl, tt, omega (arith, none))
  weigh-marks (s ∷ sequences) n (inl (has, weigh)) =
      let (marks, same, all, most) = weigh-marks sequences (n - s.weight) weigh in
      ((s, s.weight) ∷ marks, ap (λ l. s ∷ l) same, (inl (has, refl), all), omega (arith, sum_by-cons (λ (m : Mark). m.1) (s, s.weight) marks, most))
  weigh-marks (s ∷ sequences) n (inr weigh) =
      let (marks, same, all, most) = weigh-marks sequences n weigh in
      ((s, 0) ∷ marks, ap (λ l. s ∷ l) same, (inr (tt, refl), all), omega (arith, sum_by-cons (λ (m : Mark). m.1) (s, 0) marks, most))

  marks-weigh : (marks : List Mark) → AllByRecursion (Tells Has Any) marks → (n : ℕ) → n ≤ sum_in marks → WeighAtLeast Has (sequences_in marks) n
  marks-weigh [] all n most = omega (arith, most)
  marks-weigh (m ∷ marks) (inl (has, is), all) n most =
      let less : n - m.0.weight ≤ sum_in marks = omega (arith, sum_by-cons (λ (k : Mark). k.1) m marks, is, most) in
      inl (has, marks-weigh marks all (n - m.0.weight) less)
  marks-weigh (m ∷ marks) (inr (any, none), all) n most =
      let less : n ≤ sum_in marks = omega (arith, sum_by-cons (λ (k : Mark). k.1) m marks, none, most) in
      inr (marks-weigh marks all n less)

  pub WeighAtLeast-moved : (sequences others : List (Sequence Item)) (n : ℕ) → IsPermutation sequences others → WeighAtLeast Has sequences n → WeighAtLeast Has others n
  WeighAtLeast-moved sequences others n moved weigh =
      let (marks, same, all, most) = weigh-marks sequences n weigh in
      let (after, are, still, total) = marks-moved Has Any marks others all (subst (λ l. IsPermutation l others) (sym same) moved) in
      let enough : n ≤ sum_in after = omega (arith, total, most) in
      subst (λ l. WeighAtLeast Has l n) are (marks-weigh after still n enough)

  -- ---- parts of a list

  pub Counts-split : (xs ys : List (Sequence Item)) (n : ℕ) → Counts Has (xs ++ ys) n → (a : ℕ) × (b : ℕ) × (n ≡ a + b) × Counts Has xs a × Counts Has ys b
  Counts-split [] ys n counted = (0, n, omega arith, refl, counted)
  Counts-split (s ∷ xs) ys n (inl (has, (rest, is, counted))) =
      let (a, b, sum, first, last) = Counts-split xs ys rest counted in (s.weight + a, b, omega (arith, is, sum), inl (has, (a, refl, first)), last)
  Counts-split (s ∷ xs) ys n (inr (lacks, counted)) =
      let (a, b, sum, first, last) = Counts-split xs ys n counted in (a, b, sum, inr (lacks, first), last)

  WeighAtLeast-split : (xs ys : List (Sequence Item)) (n : ℕ) → WeighAtLeast Has (xs ++ ys) n → (a : ℕ) × (b : ℕ) × (n ≤ a + b) × WeighAtLeast Has xs a × WeighAtLeast Has ys b
  WeighAtLeast-split [] ys n weigh = (0, n, omega arith, refl, weigh)
  WeighAtLeast-split (s ∷ xs) ys n (inl (has, weigh)) =
      let (a, b, sum, first, last) = WeighAtLeast-split xs ys (n - s.weight) weigh in
      let same : a ≡ (s.weight + a) - s.weight = omega arith in
      (s.weight + a, b, omega (arith, sum), inl (has, subst (WeighAtLeast Has xs) same first), last)
  WeighAtLeast-split (s ∷ xs) ys n (inr weigh) =
      let (a, b, sum, first, last) = WeighAtLeast-split xs ys n weigh in (a, b, sum, inr first, last)

  -- sequences that all have it are all taken
  WeighAtLeast-all : (xs ys : List (Sequence Item)) (n : ℕ) → AllByRecursion (λ (s : Sequence Item). Has s.items) xs → WeighAtLeast Has ys (n - weight_of xs) → WeighAtLeast Has (xs ++ ys) n
  WeighAtLeast-all [] ys n all weigh = let same : n - weight_of [] ≡ n = omega arith in subst (WeighAtLeast Has ys) same weigh
  WeighAtLeast-all (s ∷ xs) ys n (has, all) weigh =
      let same : n - weight_of (s ∷ xs) ≡ (n - s.weight) - weight_of xs = omega (arith, sum_by-cons (λ (x : Sequence Item). x.weight) s xs) in
      inl (has, WeighAtLeast-all xs ys (n - s.weight) all (subst (WeighAtLeast Has ys) same weigh))

  WeighAtLeast-skip : (xs ys : List (Sequence Item)) (n : ℕ) → WeighAtLeast Has ys n → WeighAtLeast Has (xs ++ ys) n
  WeighAtLeast-skip [] ys n weigh = weigh
  WeighAtLeast-skip (s ∷ xs) ys n weigh = inr (WeighAtLeast-skip xs ys n weigh)

  WeighAtLeast-most : (xs : List (Sequence Item)) (n : ℕ) → WeighAtLeast Has xs n → n ≤ weight_of xs
  WeighAtLeast-most [] n none = omega (arith, none)
  WeighAtLeast-most (s ∷ xs) n (inl (has, weigh)) =
      let less : n - s.weight ≤ weight_of xs = WeighAtLeast-most xs (n - s.weight) weigh in omega (arith, sum_by-cons (λ (x : Sequence Item). x.weight) s xs, less)
  WeighAtLeast-most (s ∷ xs) n (inr weigh) =
      let less : n ≤ weight_of xs = WeighAtLeast-most xs n weigh in omega (arith, sum_by-cons (λ (x : Sequence Item). x.weight) s xs, less)

  Counts-all : (xs : List (Sequence Item)) → AllByRecursion (λ (s : Sequence Item). Has s.items) xs → Counts Has xs (weight_of xs)
  Counts-all [] all = refl
  Counts-all (s ∷ xs) (has, all) = inl (has, (weight_of xs, sum_by-cons (λ (x : Sequence Item). x.weight) s xs, Counts-all xs all))

  pub Counts-nothing : (xs : List (Sequence Item)) (n : ℕ) → AllByRecursion (λ (s : Sequence Item). Has s.items → ⊥) xs → Counts Has xs n → n ≡ 0
  Counts-nothing xs n none counted = Counts-unique Has xs n 0 counted (Counts-none Has xs none)

-- ---- entries

abbrev pub joined : List (List (Sequence Item)) → List (Sequence Item)
joined groups = flat_map (λ (group : List (Sequence Item)). group) groups

module _ (problem : Problem) (bound : Bound) (Has : List Item → Type 0)
    (follows : (items others : List Item) → HaveSamePatterns problem bound items others → Has items → Has others) where
  back : (items others : List Item) → HaveSamePatterns problem bound items others → Has others → Has items
  back items others same = follows others items (λ pattern. ((same pattern).1, (same pattern).0))

  -- the sequences of an entry have it where the entry has
  all-have : (group : List (Sequence Item)) (entry : Sequence Item) → IsEntryOf problem bound group entry → Has entry.items → AllByRecursion (λ (s : Sequence Item). Has s.items) group
  all-have group entry is has =
      AllByRecursion-weaker (λ (s : Sequence Item). HaveSamePatterns problem bound s.items entry.items) (λ (s : Sequence Item). Has s.items)
      (λ s same. back s.items entry.items same has) group is.same

  none-have : (group : List (Sequence Item)) (entry : Sequence Item) → IsEntryOf problem bound group entry → (Has entry.items → ⊥) → AllByRecursion (λ (s : Sequence Item). Has s.items → ⊥) group
  none-have group entry is lacks =
      AllByRecursion-weaker (λ (s : Sequence Item). HaveSamePatterns problem bound s.items entry.items) (λ (s : Sequence Item). Has s.items → ⊥)
      (λ s same has. lacks (follows s.items entry.items same has)) group is.same

  decided : (group : List (Sequence Item)) (entry : Sequence Item) (n : ℕ) → IsEntryOf problem bound group entry → Counts Has group n
      → Has entry.items ⊎ (Has entry.items → ⊥)
  decided [] entry n is counted = absurd (is.some refl)
  decided (s ∷ group) entry n is (inl (has, counted)) = inl (follows s.items entry.items is.same.0 has)
  decided (s ∷ group) entry n is (inr (lacks, counted)) = inr (λ has. lacks (back s.items entry.items is.same.0 has))

  counted-once : (groups : List (List (Sequence Item))) (entries : List (Sequence Item)) → AllZip (IsEntryOf problem bound) groups entries
      → (n : ℕ) → Counts Has (joined groups) n → Counts Has entries n
  counted-once [] [] each n counted = counted
  counted-once [] (entry ∷ entries) each n counted = absurd each
  counted-once (group ∷ groups) [] each n counted = absurd each
  counted-once (group ∷ groups) (entry ∷ entries) (is, each) n counted =
      let (a, b, sum, first, last) = Counts-split Has group (joined groups) n counted in
      let rest = counted-once groups entries each b last in
      elim (decided group entry a is first) [
        | inl has ↦
            let all : a ≡ weight_of group = Counts-unique Has group a (weight_of group) first (Counts-all Has group (all-have group entry is has)) in
            inl (has, (b, omega (arith, sum, all, is.weight), rest))
        | inr lacks ↦
            let none : a ≡ 0 = Counts-nothing Has group a (none-have group entry is lacks) first in
            let same : b ≡ n = omega (arith, sum, none) in
            inr (lacks, subst (Counts Has entries) same rest)
      ]

  counted-all : (groups : List (List (Sequence Item))) (entries : List (Sequence Item)) → AllZip (IsEntryOf problem bound) groups entries
      → (n : ℕ) → Counts Has entries n → Counts Has (joined groups) n
  counted-all [] [] each n counted = counted
  counted-all [] (entry ∷ entries) each n counted = absurd each
  counted-all (group ∷ groups) [] each n counted = absurd each
  counted-all (group ∷ groups) (entry ∷ entries) (is, each) n (inl (has, (rest, sum, counted))) =
      let same : weight_of group + rest ≡ n = omega (arith, sum, is.weight) in
      subst (Counts Has (group ++ joined groups)) same
      (Counts-append Has group (joined groups) (weight_of group) rest (Counts-all Has group (all-have group entry is has)) (counted-all groups entries each rest counted))
  counted-all (group ∷ groups) (entry ∷ entries) (is, each) n (inr (lacks, counted)) =
      let same : 0 + n ≡ n = omega arith in
      subst (Counts Has (group ++ joined groups)) same
      (Counts-append Has group (joined groups) 0 n (Counts-none Has group (none-have group entry is lacks)) (counted-all groups entries each n counted))

  -- an entry weighs where one of its sequences does
  group-weighed : (group rest : List (Sequence Item)) (entry : Sequence Item) (entries : List (Sequence Item)) (n : ℕ) → IsEntryOf problem bound group entry
      → ((m : ℕ) → WeighAtLeast Has rest m → WeighAtLeast Has entries m) → WeighAtLeast Has (group ++ rest) n → WeighAtLeast Has (entry ∷ entries) n
  group-weighed group rest entry entries n is others weigh = go (WeighAtLeast-split Has group rest n weigh)
    where
      go : ((a : ℕ) × (b : ℕ) × (n ≤ a + b) × WeighAtLeast Has group a × WeighAtLeast Has rest b) → WeighAtLeast Has (entry ∷ entries) n
      go (zero, b, sum, first, last) = inr (WeighAtLeast-less Has entries b n (omega (arith, sum)) (others b last))
      go (suc a, b, sum, first, last) =
          let (s, held, has) = WeighAtLeast-some Has group (suc a) (omega arith) first in
          let same = AllByRecursion-contained (λ (x : Sequence Item). HaveSamePatterns problem bound x.items entry.items) group s is.same held in
          let most : suc a ≤ weight_of group = WeighAtLeast-most Has group (suc a) first in
          inl (follows s.items entry.items same has, WeighAtLeast-less Has entries b (n - entry.weight) (omega (arith, sum, most, is.weight)) (others b last))

  weighed-once : (groups : List (List (Sequence Item))) (entries : List (Sequence Item)) → AllZip (IsEntryOf problem bound) groups entries
      → (n : ℕ) → WeighAtLeast Has (joined groups) n → WeighAtLeast Has entries n
  weighed-once [] [] each n weigh = weigh
  weighed-once [] (entry ∷ entries) each n weigh = absurd each
  weighed-once (group ∷ groups) [] each n weigh = absurd each
  weighed-once (group ∷ groups) (entry ∷ entries) (is, each) n weigh =
      group-weighed group (joined groups) entry entries n is (λ m. weighed-once groups entries each m) weigh

  weighed-all : (groups : List (List (Sequence Item))) (entries : List (Sequence Item)) → AllZip (IsEntryOf problem bound) groups entries
      → (n : ℕ) → WeighAtLeast Has entries n → WeighAtLeast Has (joined groups) n
  weighed-all [] [] each n weigh = weigh
  weighed-all [] (entry ∷ entries) each n weigh = absurd each
  weighed-all (group ∷ groups) [] each n weigh = absurd each
  weighed-all (group ∷ groups) (entry ∷ entries) (is, each) n (inl (has, weigh)) =
      let same : n - entry.weight ≡ n - weight_of group = ap (λ w. n - w) is.weight in
      WeighAtLeast-all Has group (joined groups) n (all-have group entry is has)
      (subst (WeighAtLeast Has (joined groups)) same (weighed-all groups entries each (n - entry.weight) weigh))
  weighed-all (group ∷ groups) (entry ∷ entries) (is, each) n (inr weigh) =
      WeighAtLeast-skip Has group (joined groups) n (weighed-all groups entries each n weigh)

  -- what is asked by the patterns within the bound is counted over the entries as over the sequences
  pub entries-count : (sequences entries : List (Sequence Item)) → AreEntries problem bound sequences entries
      → (n : ℕ) → Counts Has entries n ↔ Counts Has sequences n
  entries-count sequences entries are n = (
    (λ counted. Counts-moved Has (joined are.groups) sequences n (IsPermutation-sym sequences (joined are.groups) are.all) (counted-all are.groups entries are.each n counted)),
    (λ counted. counted-once are.groups entries are.each n (Counts-moved Has sequences (joined are.groups) n are.all counted)),
  )

  -- and it weighs at least as much
  pub entries-weigh : (sequences entries : List (Sequence Item)) → AreEntries problem bound sequences entries
      → (n : ℕ) → WeighAtLeast Has entries n ↔ WeighAtLeast Has sequences n
  entries-weigh sequences entries are n = (
    (λ weigh. WeighAtLeast-moved Has (joined are.groups) sequences n (IsPermutation-sym sequences (joined are.groups) are.all) (weighed-all are.groups entries are.each n weigh)),
    (λ weigh. weighed-once are.groups entries are.each n (WeighAtLeast-moved Has sequences (joined are.groups) n are.all weigh)),
  )
