-- Shares under other names of the items: their work by items is that by names, and so are their lists of ranks.
use Rattle.std.proofs.Common.{◌≡◌, ℕ, ◌-◌, ◌≤◌, inl, inr, Option, Some, None, List, [], ◌∷◌, map, option_map, refl, sym, ap, ◌∙◌, subst, arith}
use Rattle.std.specs.List.{AllByRecursion, AllPairs, Contains, slice_get}
use Rattle.std.proofs.lemmas.Option.{slice_get-map, slice_get_within, get_or_from_slice_get}
use Rattle.mine_model.specs.declared.mined.Work.{Work}
use Rattle.mine_model.specs.Hierarchy.{Link, IsAncestor}
use Rattle.mine_model.specs.Expression.{named_in}
use Rattle.mine_model.specs.Support.{Sequence, Counts, HoldsUnder}
use Rattle.mine_model.specs.Answer.{Data}
use Rattle.mine_model.specs.Candidates.{IsFrequentItem}
use Rattle.mine_model.specs.Names.{sequence_by}
use Rattle.mine_model.specs.Growth.{IsAlive}
use Rattle.mine_model.specs.PartitionWork.{IsPivotOf}
use Rattle.mine_model.proofs.ListLemmas.{Contains-by, Contains-from, AllByRecursion-contained, AllByRecursion-from, AllPairs-head, AllPairs-tail}
use Rattle.std.proofs.lemmas.List.Kept.{AllPairs-cons}
use Rattle.mine_model.proofs.NumberingLemmas.{Renames, renamed_data, one_to_one-lists}
use Rattle.mine_model.proofs.NumberLemmas.{IsNumberOf-by}
use Rattle.mine_model.proofs.SupportLemmas.{Counts-some}
use Rattle.mine_model.proofs.PartitionWorkLemmas.{Earlier, EarlierNamed, frequent-same, earlier-same, alive-same, label-named, label-own}
use Rattle.command_line.specs.declared.share.Share.{Share}
use Rattle.split_merge.specs.Shares.{IsRankList, HasPlace, IsRankedTo, IsPivot}
use Rattle.desq_run.proofs.HierarchyLemmas.{all-of}
use Rattle.desq_run.specs.Parts.{HasItem, IsShareWork}

-- what stands for each pair of a list stands for each pair of its images
pairs_by : {X Y : Type 0} (f : X → Y) (P : X → Type 0) (R : X → X → Type 0) (S : Y → Y → Type 0) → ((x y : X) → P x → P y → R x y → S (f x) (f y))
    → (xs : List X) → AllByRecursion P xs → AllPairs R xs → AllPairs S (map f xs)
pairs_by f P R S one [] all pairs = λ i j e less inside. absurd (omega (arith, inside))
pairs_by f P R S one (x ∷ xs) all pairs =
    AllPairs-cons S (f x) (map f xs)
    (all-of (S (f x)) (map f xs) (λ y held.
    let (z, inside, same) = Contains-from f xs y held in
    subst (S (f x)) (sym same) (one x z all.0 (AllByRecursion-contained P xs z all.1 inside) (AllPairs-head R x xs pairs z inside))))
    (pairs_by f P R S one xs all.1 (AllPairs-tail R x xs pairs))

mapped : {X Y : Type 0} (f : X → Y) (o : Option X) (y : Y) → option_map f o ≡ Some y → (x : X) × (o ≡ Some x) × (y ≡ f x)
mapped f None y same = absurd (cc)
mapped f (Some x) y same = (x, refl, (let e : f x ≡ y = cc in sym e))

-- an element of a list has the place of its image, and an image that of an element
place-forth : {X Y : Type 0} (f : X → Y) (order : List X) (v : X) (rank : ℕ) → HasPlace order v rank → HasPlace (map f order) (f v) rank
place-forth f order v rank has = (has.0, slice_get-map f order (rank - 1) ∙ ap (option_map f) has.1)

place-back : {X Y : Type 0} (f : X → Y) (order : List X) (w : Y) (rank : ℕ) → HasPlace (map f order) w rank → (v : X) × HasPlace order v rank × (w ≡ f v)
place-back f order w rank has =
    let (v, is, same) = mapped f (slice_get order (rank - 1)) w (sym (slice_get-map f order (rank - 1)) ∙ has.1) in
    (v, (has.0, is), same)

place-held : {X : Type 0} (order : List X) (v : X) (rank : ℕ) → HasPlace order v rank → Contains order v
place-held order v rank has = (rank - 1, slice_get_within order (rank - 1) v has.1, get_or_from_slice_get order (rank - 1) v v has.1)

-- a node of the work of a share: a pivot of it, and a prefix that is alive within the bound of this pivot
abbrev IsNode : {A : Type 0} → (A → A → Type 0) → Data A → Share → List A → A × List A → Type 0
IsNode Ties d share order label = HasItem share order label.0 × IsAlive d (IsPivotOf Ties d label.0) label.1

module _ {A B : Type 0} (f : A → B) (others : List (Link B)) (d : Data A) (P : A → Type 0) (renames : Renames d.links others P f)
    (named : AllByRecursion P (named_in d.expression)) (all : AllByRecursion (λ (s : Sequence A). AllByRecursion P s.items) d.sequences)
    (Ties : B → B → Type 0) where
  module _ (least : 1 ≤ d.threshold) where
    -- the list of the ranks by items
    module _ (order : List A) (list : IsRankList (λ v w. Ties (f v) (f w)) d order) where
      in_order : (v : A) → Contains order v → P v
      in_order v held =
          let is = (list.frequent v).0 held in
          let (items, (t, inside, above), within) = Counts-some (HoldsUnder d.links v) (AllByRecursion P) d.sequences is.frequency is.exact (omega (arith, least, is.enough)) all in
          renames.up v t above (AllByRecursion-contained P items t within inside)

      own_item : (w : B) → IsFrequentItem others (map (sequence_by f) d.sequences) d.threshold w → (v : A) × P v × (w ≡ f v)
      own_item w is = found d.sequences all is.frequency is.exact (omega (arith, least, is.enough))
        where
          held_by : (items : List A) → AllByRecursion P items → HoldsUnder others w (map f items) → (v : A) × P v × (w ≡ f v)
          held_by items within (u, held, above) =
              let (t, inside, same) = Contains-from f items u held in
              renames.upward w t (AllByRecursion-contained P items t within inside) (subst (IsAncestor others w) same above)

          found : (sequences : List (Sequence A)) → AllByRecursion (λ s. AllByRecursion P s.items) sequences → (n : ℕ)
              → Counts (HoldsUnder others w) (map (sequence_by f) sequences) n → 1 ≤ n → (v : A) × P v × (w ≡ f v)
          found [] within n none some = absurd (omega (arith, none, some))
          found (s ∷ sequences) within n (inl p) some = held_by s.items within.0 p.0
          found (s ∷ sequences) within n (inr p) some = found sequences within.1 n p.1 some

      all_named : AllByRecursion P order
      all_named = AllByRecursion-from P order in_order

      pub list-named : IsRankList Ties (renamed_data f others d) (map f order)
      list-named = record {
        frequent = λ w. (
          (λ held.
              let (v, inside, same) = Contains-from f order w held in
              subst (IsFrequentItem others (map (sequence_by f) d.sequences) d.threshold) (sym same) ((frequent-same f others d P renames named all Ties v (in_order v inside)).0 ((list.frequent v).0 inside))),
          (λ is.
              let (v, p, same) = own_item w is in
              subst (Contains (map f order)) (sym same)
              (Contains-by f order v ((list.frequent v).1 ((frequent-same f others d P renames named all Ties v p).1 (subst (IsFrequentItem others (map (sequence_by f) d.sequences) d.threshold) same is))))),
        );
        falling = pairs_by f P (Earlier f others d P renames named all Ties) (EarlierNamed f others d P renames named all Ties) (λ v w p q is. (earlier-same f others d P renames named all Ties v w p q).0 is) order all_named list.falling;
      }

      place-own : (v : A) → P v → (rank : ℕ) → HasPlace (map f order) (f v) rank → HasPlace order v rank
      place-own v p rank has =
          let (u, is, same) = place-back f order (f v) rank has in
          let one : u ≡ v = renames.one_to_one u v (in_order u (place-held order u rank is)) p (sym same) in
          subst (λ x. HasPlace order x rank) one is

      -- the pivot of a pattern
      pub of-share-forth : (pattern : List A) (pivot : ℕ) → IsPivot order pattern pivot → IsPivot (map f order) (map f pattern) pivot
      of-share-forth pattern pivot is = record {
        item = f is.item;
        held = Contains-by f pattern is.item is.held;
        rank = place-forth f order is.item pivot is.rank;
        greatest = up pattern is.greatest;
      }
        where
          up : (items : List A) → AllByRecursion (IsRankedTo order pivot) items → AllByRecursion (IsRankedTo (map f order) pivot) (map f items)
          up [] tops = tt
          up (v ∷ items) tops = ((tops.0.0, place-forth f order v tops.0.0 tops.0.1, tops.0.2), up items tops.1)

      pub of-share-back : (pattern : List A) (pivot : ℕ) → AllByRecursion P pattern → IsPivot (map f order) (map f pattern) pivot → IsPivot order pattern pivot
      of-share-back pattern pivot inside is =
          let (v, held, same) = Contains-from f pattern is.item is.held in
          record {
            item = v;
            held = held;
            rank = place-own v (AllByRecursion-contained P pattern v inside held) pivot (subst (λ w. HasPlace (map f order) w pivot) same is.rank);
            greatest = down pattern inside is.greatest;
          }
        where
          down : (items : List A) → AllByRecursion P items → AllByRecursion (IsRankedTo (map f order) pivot) (map f items) → AllByRecursion (IsRankedTo order pivot) items
          down [] within tops = tt
          down (v ∷ items) within tops = ((tops.0.0, place-own v within.0 tops.0.0 tops.0.1, tops.0.2), down items within.1 tops.1)

      item-forth : (share : Share) (v : A) → HasItem share order v → HasItem share (map f order) (f v)
      item-forth share v (rank, has, inside) = (rank, place-forth f order v rank has, inside)

      item-back : (share : Share) (v : A) → P v → HasItem share (map f order) (f v) → HasItem share order v
      item-back share v p (rank, has, inside) = (rank, place-own v p rank has, inside)

    -- THE WORK of a share by items is that by names
    pub share-names : (share : Share) (work : Work) → IsShareWork (λ v w. Ties (f v) (f w)) d share work
        → IsShareWork Ties (renamed_data f others d) share work
    share-names share work is = record {
      order = map f is.order;
      list = list-named is.order is.list;
      nodes = IsNumberOf-by (IsNode (λ v w. Ties (f v) (f w)) d share is.order) (IsNode Ties (renamed_data f others d) share (map f is.order))
          (λ label. (f label.0, map f label.1)) work.nodes
          (λ x y here there same.
          let (p, inside) = own-named x.0 x.1 here.1 in
          let (q, within) = own-named y.0 y.1 there.1 in
          let first : x.0 ≡ y.0 = renames.one_to_one x.0 y.0 p q (ap (λ l. l.0) same) in
          let rest : x.1 ≡ y.1 = one_to_one-lists d.links others P f renames x.1 y.1 inside within (ap (λ l. l.1) same) in
          λ i. (first i, rest i))
          (λ x has. let (p, inside) = own-named x.0 x.1 has.1 in node-forth x p inside has)
          (λ y has.
          let (pivot, own, same, fronts, p, inside) = label-own f others d P renames named all Ties least y.0 y.1 has.1 in
          let both : y ≡ (f pivot, map f own) = λ i. (same i, fronts i) in
          ((pivot, own), both, node-back (pivot, own) p inside (subst (IsNode Ties (renamed_data f others d) share (map f is.order)) both has)))
          is.nodes;
      parts = IsNumberOf-by (λ pivot. IsNode (λ v w. Ties (f v) (f w)) d share is.order (pivot, []))
          (λ pivot. IsNode Ties (renamed_data f others d) share (map f is.order) (pivot, [])) f work.parts
          (λ x y here there same. renames.one_to_one x y (own-named x [] here.1).0 (own-named y [] there.1).0 same)
          (λ x has. node-forth (x, []) (own-named x [] has.1).0 tt has)
          (λ y has.
          let (pivot, own, same, fronts, p, inside) = label-own f others d P renames named all Ties least y [] has.1 in
          (pivot, same, node-back (pivot, []) p tt (subst (λ v. IsNode Ties (renamed_data f others d) share (map f is.order) (v, [])) same has)))
          is.parts;
      candidates = is.candidates;
    }
      where
        own-named : (pivot : A) (prefix : List A) → IsAlive d (IsPivotOf (λ v w. Ties (f v) (f w)) d pivot) prefix → P pivot × AllByRecursion P prefix
        own-named = label-named f others d P renames named all Ties least

        node-forth : (x : A × List A) → P x.0 → AllByRecursion P x.1 → IsNode (λ v w. Ties (f v) (f w)) d share is.order x
            → IsNode Ties (renamed_data f others d) share (map f is.order) (f x.0, map f x.1)
        node-forth x p inside has = (item-forth is.order is.list share x.0 has.0, (alive-same f others d P renames named all Ties x.0 p x.1 inside).0 has.1)

        node-back : (x : A × List A) → P x.0 → AllByRecursion P x.1 → IsNode Ties (renamed_data f others d) share (map f is.order) (f x.0, map f x.1)
            → IsNode (λ v w. Ties (f v) (f w)) d share is.order x
        node-back x p inside has = (item-back is.order is.list share x.0 p has.0, (alive-same f others d P renames named all Ties x.0 p x.1 inside).1 has.1)
