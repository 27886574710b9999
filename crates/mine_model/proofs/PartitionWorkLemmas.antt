-- The work of a search by pivots: there is at most one, and that by items is that by names.
use Rattle.std.proofs.Common.{◌≡◌, ◌⊎◌, ◌↔◌, ℕ, ◌-◌, ◌≤◌, inl, inr, false, List, [], ◌∷◌, ◌++◌, map, refl, sym, ap, ◌∙◌, subst}
use Rattle.std.specs.List.{AllByRecursion, Contains}
use Rattle.std.proofs.lemmas.List.{map-append}
use Rattle.mine_model.specs.declared.mined.Work.{Work}
use Rattle.mine_model.specs.Hierarchy.{Link, IsAncestor}
use Rattle.mine_model.specs.Expression.{tree_by, named_in}
use Rattle.mine_model.specs.Generation.{IsPatternOf}
use Rattle.mine_model.specs.Support.{Sequence, Counts, HoldsUnder, HasFrequency}
use Rattle.mine_model.specs.Answer.{Data}
use Rattle.mine_model.specs.Candidates.{IsFrequentItem}
use Rattle.mine_model.specs.Names.{sequence_by}
use Rattle.mine_model.specs.Growth.{WeighAtLeast, HasPatternBehind, IsAlive}
use Rattle.mine_model.proofs.ListLemmas.{Contains-by, Contains-from, AllByRecursion-contained, front_of_both}
use Rattle.mine_model.proofs.NumberingLemmas.{Renames, renamed_data, pattern-forth, pattern-back, one_to_one-lists, generated-in}
use Rattle.mine_model.proofs.NumberLemmas.{IsNumberOf-by, IsNumberOf-unique}
use Rattle.mine_model.proofs.AliveLemmas.{IsAlive-some}
use Rattle.mine_model.specs.PartitionWork.{RanksBefore, IsPivotOf, IsPartitionWork}

-- a search by pivots has one work
pub IsPartitionWork-unique : {A : Type 0} (Ties : A → A → Type 0) (d : Data A) (first second : Work)
    → IsPartitionWork Ties d first → IsPartitionWork Ties d second → first ≡ second
IsPartitionWork-unique {A} Ties d first second one other =
    let nodes : first.nodes ≡ second.nodes =
    IsNumberOf-unique (λ (label : A × List A). IsAlive d (IsPivotOf Ties d label.0) label.1) first.nodes second.nodes one.nodes other.nodes in
    let parts : first.parts ≡ second.parts =
    IsNumberOf-unique (λ pivot. IsAlive d (IsPivotOf Ties d pivot) []) first.parts second.parts one.parts other.parts in
    let candidates : first.candidates ≡ second.candidates = one.candidates ∙ sym other.candidates in
    λ i. record { nodes = nodes i; parts = parts i; candidates = candidates i }

-- Under other names of the items

-- what agrees at each item agrees of all
all-same : {A B : Type 0} (f : A → B) (P Q : A → Type 0) (R : B → Type 0) → ((w : A) → P w → Q w ↔ R (f w))
    → (items : List A) → AllByRecursion P items → AllByRecursion Q items ↔ AllByRecursion R (map f items)
all-same f P Q R each [] inside = ((λ all. all), (λ all. all))
all-same f P Q R each (w ∷ items) inside =
    let one = each w inside.0 in
    let more = all-same f P Q R each items inside.1 in
    ((λ all. (one.0 all.0, more.0 all.1)), (λ all. (one.1 all.0, more.1 all.1)))

module _ {A B : Type 0} (f : A → B) (P : A → Type 0) (Has : List A → Type 0) (Also : List B → Type 0)
    (same : (items : List A) → AllByRecursion P items → Has items ↔ Also (map f items)) where
  counts-same : (sequences : List (Sequence A)) → AllByRecursion (λ s. AllByRecursion P s.items) sequences
      → (n : ℕ) → Counts Has sequences n ↔ Counts Also (map (sequence_by f) sequences) n
  counts-same [] all n = ((λ none. none), (λ none. none))
  counts-same (s ∷ sequences) all n =
      let here = same s.items all.0 in
      let rest = counts-same sequences all.1 in (
        (λ counted. elim counted [
          | inl p ↦ inl (here.0 p.0, (p.1.0, p.1.1, (rest p.1.0).0 p.1.2))
          | inr p ↦ inr ((λ also. p.0 (here.1 also)), (rest n).0 p.1)
        ]),
        (λ counted. elim counted [
          | inl p ↦ inl (here.1 p.0, (p.1.0, p.1.1, (rest p.1.0).1 p.1.2))
          | inr p ↦ inr ((λ has. p.0 (here.0 has)), (rest n).1 p.1)
        ]),
      )

  weigh-same : (sequences : List (Sequence A)) → AllByRecursion (λ s. AllByRecursion P s.items) sequences
      → (n : ℕ) → WeighAtLeast Has sequences n ↔ WeighAtLeast Also (map (sequence_by f) sequences) n
  weigh-same [] all n = ((λ none. none), (λ none. none))
  weigh-same (s ∷ sequences) all n =
      let here = same s.items all.0 in
      let rest = weigh-same sequences all.1 in (
        (λ weigh. elim weigh [ inl p ↦ inl (here.0 p.0, (rest (n - s.weight)).0 p.1) | inr p ↦ inr ((rest n).0 p) ]),
        (λ weigh. elim weigh [ inl p ↦ inl (here.1 p.0, (rest (n - s.weight)).1 p.1) | inr p ↦ inr ((rest n).1 p) ]),
      )

module _ {A B : Type 0} (f : A → B) (others : List (Link B)) (d : Data A) (P : A → Type 0) (renames : Renames d.links others P f)
    (named : AllByRecursion P (named_in d.expression)) (all : AllByRecursion (λ (s : Sequence A). AllByRecursion P s.items) d.sequences)
    (Ties : B → B → Type 0) where
  abbrev pub Earlier : A → A → Type 0
  Earlier = RanksBefore (λ v w. Ties (f v) (f w)) d

  abbrev pub EarlierNamed : B → B → Type 0
  EarlierNamed = RanksBefore Ties (renamed_data f others d)

  abbrev pub IsPivot : A → List A → Type 0
  IsPivot = IsPivotOf (λ v w. Ties (f v) (f w)) d

  abbrev pub IsPivotNamed : B → List B → Type 0
  IsPivotNamed = IsPivotOf Ties (renamed_data f others d)

  holds-same : (w : A) → P w → (items : List A) → AllByRecursion P items → HoldsUnder d.links w items ↔ HoldsUnder others (f w) (map f items)
  holds-same w p items inside = (
    (λ (t, held, above). (f t, Contains-by f items t held, renames.forth w t p (AllByRecursion-contained P items t inside held) above)),
    (λ (v, held, above).
        let (t, own, same) = Contains-from f items v held in
        (t, own, renames.back w t p (AllByRecursion-contained P items t inside own) (subst (IsAncestor others (f w)) same above))),
  )

  frequency-same : (w : A) → P w → (n : ℕ) → HasFrequency d.links d.sequences w n ↔ HasFrequency others (map (sequence_by f) d.sequences) (f w) n
  frequency-same w p = counts-same f P (HoldsUnder d.links w) (HoldsUnder others (f w)) (holds-same w p) d.sequences all

  pub frequent-same : (w : A) → P w → IsFrequentItem d.links d.sequences d.threshold w ↔ IsFrequentItem others (map (sequence_by f) d.sequences) d.threshold (f w)
  frequent-same w p = (
    (λ is. record { frequency = is.frequency; exact = (frequency-same w p is.frequency).0 is.exact; enough = is.enough }),
    (λ is. record { frequency = is.frequency; exact = (frequency-same w p is.frequency).1 is.exact; enough = is.enough }),
  )

  pub earlier-same : (v w : A) → P v → P w → Earlier v w ↔ EarlierNamed (f v) (f w)
  earlier-same v w p q = (
    (λ is. record {
      first = is.first;
      second = is.second;
      of_first = (frequency-same v p is.first).0 is.of_first;
      of_second = (frequency-same w q is.second).0 is.of_second;
      before = is.before;
    }),
    (λ is. record {
      first = is.first;
      second = is.second;
      of_first = (frequency-same v p is.first).1 is.of_first;
      of_second = (frequency-same w q is.second).1 is.of_second;
      before = is.before;
    }),
  )

  -- what is generated from named items is named
  written-named : (items pattern : List A) → AllByRecursion P items → IsPatternOf d.links d.expression items pattern → AllByRecursion P pattern
  written-named items pattern inside is = generated-in d.links others P f renames d.expression false items pattern is.1 inside

  -- what begins a list of names are the names of what begins the list
  split : (front back : List B) (own : List A) → AllByRecursion P own → front ++ back ≡ map f own
      → (first : List A) × (rest : List A) × (own ≡ first ++ rest) × (front ≡ map f first) × AllByRecursion P first
  split [] back own inside same = ([], own, refl, refl, tt)
  split (v ∷ front) back [] inside same = absurd (cc)
  split (v ∷ front) back (w ∷ own) inside same =
      let heads : v ≡ f w = cc in
      let tails : front ++ back ≡ map f own = cc in
      let (first, rest, cut, fronts, within) = split front back own inside.1 tails in
      (w ∷ first, rest, ap (λ l. w ∷ l) cut, (λ i. heads i ∷ fronts i), (inside.0, within))

  module _ (pivot : A) (p : P pivot) where
    last-same : (v : A) → P v → ((v ≡ pivot) ⊎ Earlier v pivot) ↔ ((f v ≡ f pivot) ⊎ EarlierNamed (f v) (f pivot))
    last-same v q = (
      (λ is. elim is [ inl same ↦ inl (ap f same) | inr earlier ↦ inr ((earlier-same v pivot q p).0 earlier) ]),
      (λ is. elim is [ inl same ↦ inl (renames.one_to_one v pivot q p same) | inr earlier ↦ inr ((earlier-same v pivot q p).1 earlier) ]),
    )

    pivot-same : (items : List A) → AllByRecursion P items → IsPivot pivot items ↔ IsPivotNamed (f pivot) (map f items)
    pivot-same items inside =
        let frequent = all-same f P (IsFrequentItem d.links d.sequences d.threshold) (IsFrequentItem others (map (sequence_by f) d.sequences) d.threshold) frequent-same items inside in
        let last = all-same f P (λ v. (v ≡ pivot) ⊎ Earlier v pivot) (λ v. (v ≡ f pivot) ⊎ EarlierNamed v (f pivot)) last-same items inside in (
          (λ is. record { frequent = frequent.0 is.frequent; held = Contains-by f items pivot is.held; last = last.0 is.last }),
          (λ is.
              let (v, held, same) = Contains-from f items (f pivot) is.held in
              let one : v ≡ pivot = renames.one_to_one v pivot (AllByRecursion-contained P items v inside held) p (sym same) in
              record { frequent = frequent.1 is.frequent; held = subst (Contains items) one held; last = last.1 is.last }),
        )

    behind-same : (prefix : List A) → AllByRecursion P prefix → (items : List A) → AllByRecursion P items
        → HasPatternBehind d (IsPivot pivot) prefix items ↔ HasPatternBehind (renamed_data f others d) (IsPivotNamed (f pivot)) (map f prefix) (map f items)
    behind-same prefix inside items within = (
      (λ (more, pattern, is).
          let cut : map f (prefix ++ more) ≡ map f prefix ++ map f more = map-append f prefix more in (
            map f more,
            subst (IsPatternOf others (tree_by f d.expression) (map f items)) cut
                (pattern-forth d.links others P f renames d.expression named items (prefix ++ more) within pattern),
            subst (IsPivotNamed (f pivot)) cut ((pivot-same (prefix ++ more) (written-named items (prefix ++ more) within pattern)).0 is),
          )),
      (λ (more, pattern, is).
          let (own, same, made, named_own) = pattern-back d.links others P f renames d.expression named items (map f prefix ++ more) within pattern in
          let (front, rest, cut, fronts, named_front) = split (map f prefix) more own named_own same in
          let one : front ≡ prefix = one_to_one-lists d.links others P f renames front prefix named_front inside (sym fronts) in
          let whole : own ≡ prefix ++ rest = cut ∙ ap (λ l. l ++ rest) one in (
            rest,
            subst (IsPatternOf d.links d.expression items) whole made,
            subst (IsPivot pivot) whole ((pivot-same own named_own).1 (subst (IsPivotNamed (f pivot)) same is)),
          )),
    )

    pub alive-same : (prefix : List A) → AllByRecursion P prefix → IsAlive d (IsPivot pivot) prefix ↔ IsAlive (renamed_data f others d) (IsPivotNamed (f pivot)) (map f prefix)
    alive-same prefix inside =
        weigh-same f P (HasPatternBehind d (IsPivot pivot) prefix) (HasPatternBehind (renamed_data f others d) (IsPivotNamed (f pivot)) (map f prefix))
        (behind-same prefix inside) d.sequences all d.threshold

  module _ (least : 1 ≤ d.threshold) where
    pub label-named : (pivot : A) (prefix : List A) → IsAlive d (IsPivot pivot) prefix → P pivot × AllByRecursion P prefix
    label-named pivot prefix alive =
        let (s, held, (more, pattern, is)) = IsAlive-some d (IsPivot pivot) prefix least alive in
        let inside = written-named s.items (prefix ++ more) (AllByRecursion-contained (λ (t : Sequence A). AllByRecursion P t.items) d.sequences s all held) pattern in
        (AllByRecursion-contained P (prefix ++ more) pivot inside is.held, front_of_both P prefix more inside)

    -- an alive label over names is that of items
    pub label-own : (v : B) (prefix : List B) → IsAlive (renamed_data f others d) (IsPivotNamed v) prefix
        → (pivot : A) × (own : List A) × (v ≡ f pivot) × (prefix ≡ map f own) × P pivot × AllByRecursion P own
    label-own v prefix alive =
        let (s, held, (more, pattern, is)) = IsAlive-some (renamed_data f others d) (IsPivotNamed v) prefix least alive in
        let (t, inside, same) = Contains-from (sequence_by f) d.sequences s held in
        let items : s.items ≡ map f t.items = ap (λ (s : Sequence B). s.items) same in
        let (own, is_own, made, own_inside) = pattern-back d.links others P f renames d.expression named t.items (prefix ++ more)
        (AllByRecursion-contained (λ (t : Sequence A). AllByRecursion P t.items) d.sequences t all inside)
        (subst (λ l. IsPatternOf others (tree_by f d.expression) l (prefix ++ more)) items pattern) in
        let (front, rest, cut, fronts, named_front) = split prefix more own own_inside is_own in
        let (pivot, pivot_held, is_pivot) = Contains-from f own v (subst (λ l. Contains l v) is_own is.held) in
        (pivot, front, is_pivot, fronts, AllByRecursion-contained P own pivot own_inside pivot_held, named_front)

    -- THE WORK by items is that by names
    pub partition-names : (work : Work) → IsPartitionWork (λ v w. Ties (f v) (f w)) d work
        → IsPartitionWork Ties (renamed_data f others d) work
    partition-names work is = record {
      nodes = IsNumberOf-by (λ (label : A × List A). IsAlive d (IsPivot label.0) label.1) (λ (label : B × List B). IsAlive (renamed_data f others d) (IsPivotNamed label.0) label.1)
          (λ label. (f label.0, map f label.1)) work.nodes
          (λ x y here there same.
          let (p, inside) = label-named x.0 x.1 here in
          let (q, within) = label-named y.0 y.1 there in
          let first : x.0 ≡ y.0 = renames.one_to_one x.0 y.0 p q (ap (λ l. l.0) same) in
          let rest : x.1 ≡ y.1 = one_to_one-lists d.links others P f renames x.1 y.1 inside within (ap (λ l. l.1) same) in
          λ i. (first i, rest i))
          (λ x alive. let (p, inside) = label-named x.0 x.1 alive in (alive-same x.0 p x.1 inside).0 alive)
          (λ y alive.
          let (pivot, own, same, fronts, p, inside) = label-own y.0 y.1 alive in
          let both : y ≡ (f pivot, map f own) = λ i. (same i, fronts i) in
          ((pivot, own), both, (alive-same pivot p own inside).1 (subst (λ (l : B × List B). IsAlive (renamed_data f others d) (IsPivotNamed l.0) l.1) both alive)))
          is.nodes;
      parts = IsNumberOf-by (λ pivot. IsAlive d (IsPivot pivot) []) (λ pivot. IsAlive (renamed_data f others d) (IsPivotNamed pivot) []) f work.parts
          (λ x y here there same. renames.one_to_one x y (label-named x [] here).0 (label-named y [] there).0 same)
          (λ x alive. (alive-same x (label-named x [] alive).0 [] tt).0 alive)
          (λ y alive.
          let (pivot, own, same, fronts, p, inside) = label-own y [] alive in
          (pivot, same, (alive-same pivot p [] tt).1 (subst (λ v. IsAlive (renamed_data f others d) (IsPivotNamed v) []) same alive)))
          is.parts;
      candidates = is.candidates;
    }
