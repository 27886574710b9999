-- Items and their ranks, one by one.
use Rattle.std.proofs.Common.{◌≡◌, ◌≢◌, ℕ, zero, suc, ◌-◌, ◌<◌, ◌≤◌, inl, inr, Some, List, [], ◌∷◌, ◌++◌, length, get_or, refl, sym, ap, ◌∙◌, arith, ◌↔◌}
use Rattle.std.specs.List.{AllByRecursion, AllPairs, Contains, slice_get}
use Rattle.std.proofs.lemmas.Option.{slice_get-get_or, slice_get_within, get_or_from_slice_get}
use Rattle.std.proofs.lemmas.Bool.{cases_lt}
use Rattle.mine_model.specs.declared.item.Item.{Item}
use Rattle.mine_model.specs.Ranks.{HasRank, AreRanked, AreAllRanked}
use Rattle.mine_model.proofs.ListLemmas.{Contains-cases}
use Rattle.mine_model.proofs.RankLemmas.{HasRank-held, HasRank-most}
use Rattle.mine_model.specs.Pivots.{IsRankedUpTo, IsWithinPivot, IsWithin}

pub ranked-none : (order : List Item) (ranks : List ℕ) → AreRanked order [] ranks → ranks ≡ []
ranked-none order [] ranked = refl
ranked-none order (rank ∷ ranks) ranked = absurd ranked

-- the ranks of an item and of those behind it
pub ranked-first : (order : List Item) (v : Item) (items : List Item) (ranks : List ℕ) → AreRanked order (v ∷ items) ranks
    → (rank : ℕ) × (others : List ℕ) × (ranks ≡ rank ∷ others) × HasRank order v rank × AreRanked order items others
ranked-first order v items [] ranked = absurd ranked
ranked-first order v items (rank ∷ others) ranked = (rank, others, refl, ranked.0, ranked.1)

-- a list of ranks is that of one list of items
pub ranked-same : (order items others : List Item) (ranks : List ℕ) → AreRanked order items ranks → AreRanked order others ranks → items ≡ others
ranked-same order [] [] [] p q = refl
ranked-same order [] (w ∷ others) [] p q = absurd q
ranked-same order (v ∷ items) others [] p q = absurd p
ranked-same order [] others (rank ∷ ranks) p q = absurd p
ranked-same order (v ∷ items) [] (rank ∷ ranks) p q = absurd q
ranked-same order (v ∷ items) (w ∷ others) (rank ∷ ranks) p q =
    let left = p.0.place in
    let right = q.0.place in
    let same : v ≡ w = cc in
    ap (λ x. x ∷ items) same ∙ ap (λ l. w ∷ l) (ranked-same order items others ranks p.1 q.1)

pub ranked-push : (order items : List Item) (ranks : List ℕ) (v : Item) (rank : ℕ) → AreRanked order items ranks → HasRank order v rank
    → AreRanked order (items ++ v ∷ []) (ranks ++ rank ∷ [])
ranked-push order [] [] v rank p has = (has, tt)
ranked-push order [] (r ∷ ranks) v rank p has = absurd p
ranked-push order (w ∷ items) [] v rank p has = absurd p
ranked-push order (w ∷ items) (r ∷ ranks) v rank p has = (p.0, ranked-push order items ranks v rank p.1 has)

pub AreAllRanked-length : (order : List Item) (patterns : List (List Item)) (lists : List (List ℕ)) → AreAllRanked order patterns lists → length patterns ≡ length lists
AreAllRanked-length order [] [] p = refl
AreAllRanked-length order [] (ranks ∷ lists) p = absurd p
AreAllRanked-length order (items ∷ patterns) [] p = absurd p
AreAllRanked-length order (items ∷ patterns) (ranks ∷ lists) p = ap suc (AreAllRanked-length order patterns lists p.1)

pub AreAllRanked-at : (order : List Item) (patterns : List (List Item)) (lists : List (List ℕ)) (i : ℕ) (d : List Item) (e : List ℕ) → AreAllRanked order patterns lists
    → i < length patterns → AreRanked order (get_or patterns i d) (get_or lists i e)
AreAllRanked-at order [] lists i d e p inside = absurd (omega arith)
AreAllRanked-at order (items ∷ patterns) [] i d e p inside = absurd p
AreAllRanked-at order (items ∷ patterns) (ranks ∷ lists) zero d e p inside = p.0
AreAllRanked-at order (items ∷ patterns) (ranks ∷ lists) (suc i) d e p inside = AreAllRanked-at order patterns lists i d e p.1 (omega arith)

pub AreAllRanked-push : (order : List Item) (patterns : List (List Item)) (lists : List (List ℕ)) (items : List Item) (ranks : List ℕ) → AreAllRanked order patterns lists
    → AreRanked order items ranks → AreAllRanked order (patterns ++ items ∷ []) (lists ++ ranks ∷ [])
AreAllRanked-push order [] [] items ranks p has = (has, tt)
AreAllRanked-push order [] (r ∷ lists) items ranks p has = absurd p
AreAllRanked-push order (x ∷ patterns) [] items ranks p has = absurd p
AreAllRanked-push order (x ∷ patterns) (r ∷ lists) items ranks p has = (p.0, AreAllRanked-push order patterns lists items ranks p.1 has)

-- items of the order have ranks
pub ranked-all : (order items : List Item) → AllByRecursion (Contains order) items → (ranks : List ℕ) × AreRanked order items ranks
ranked-all order [] held = ([], tt)
ranked-all order (v ∷ items) held =
    let (k, inside, is) = held.0 in
    let (ranks, ranked) = ranked-all order items held.1 in
    let at : slice_get order k ≡ Some v = slice_get-get_or order k v inside ∙ ap (λ x. Some x) is in
    let back : suc k - 1 ≡ k = omega arith in
    (suc k ∷ ranks, (record { least = omega arith; place = ap (λ n. slice_get order n) back ∙ at }, ranked))

-- items with ranks are items of the order
pub ranked-held : (order items : List Item) (ranks : List ℕ) → AreRanked order items ranks → AllByRecursion (Contains order) items
ranked-held order [] ranks p = tt
ranked-held order (v ∷ items) [] p = absurd p
ranked-held order (v ∷ items) (rank ∷ ranks) p = (HasRank-held order v rank p.0, ranked-held order items ranks p.1)

pub ranked-bounds : (order items : List Item) (ranks : List ℕ) → AreRanked order items ranks → (rank : ℕ) → Contains ranks rank → (1 ≤ rank) × (rank ≤ length order)
ranked-bounds order items [] p rank (k, inside, is) = absurd (omega (arith, inside))
ranked-bounds order [] (r ∷ ranks) p rank inside = absurd p
ranked-bounds order (v ∷ items) (r ∷ ranks) p rank inside = elim (Contains-cases r ranks rank inside) [
  | inl same ↦ let least = p.0.least in let most = HasRank-most order v r p.0 in (omega (arith, least, same), omega (arith, most, same))
  | inr other ↦ ranked-bounds order items ranks p.1 rank other
]

at_place : (order : List Item) (v : Item) (rank : ℕ) (d : Item) → HasRank order v rank → get_or order (rank - 1) d ≡ v
at_place order v rank d has = get_or_from_slice_get order (rank - 1) v d has.place

below : (order : List Item) → AllPairs (λ v w. v ≢ w) order → (v : Item) (x y : ℕ) → HasRank order v x → HasRank order v y → x < y → ⊥
below order different v x y first second less =
    different (x - 1) (y - 1) v (omega (arith, less, first.least)) (slice_get_within order (y - 1) v second.place)
    (at_place order v x v first ∙ sym (at_place order v y v second))

-- the rank of an item
pub item_rank : (order : List Item) → AllPairs (λ v w. v ≢ w) order → (v : Item) (x y : ℕ) → HasRank order v x → HasRank order v y → x ≡ y
item_rank order different v x y first second = elim (cases_lt x y) [
  | inl less ↦ absurd (below order different v x y first second less)
  | inr more ↦ elim (cases_lt y x) [
    | inl less ↦ absurd (below order different v y x second first less)
    | inr least ↦ omega (arith, more, least)
  ]
]

-- the ranks of items
pub same_ranks : (order : List Item) → AllPairs (λ v w. v ≢ w) order → (items : List Item) (xs ys : List ℕ) → AreRanked order items xs → AreRanked order items ys → xs ≡ ys
same_ranks order different [] [] [] first second = refl
same_ranks order different [] [] (y ∷ ys) first second = absurd second
same_ranks order different [] (x ∷ xs) ys first second = absurd first
same_ranks order different (v ∷ items) [] ys first second = absurd first
same_ranks order different (v ∷ items) (x ∷ xs) [] first second = absurd second
same_ranks order different (v ∷ items) (x ∷ xs) (y ∷ ys) first second =
    ap (λ r. r ∷ xs) (item_rank order different v x y first.0 second.0) ∙ ap (λ rs. y ∷ rs) (same_ranks order different items xs ys first.1 second.1)

pub ranked-length : (order items : List Item) (ranks : List ℕ) → AreRanked order items ranks → length items ≡ length ranks
ranked-length order [] [] ranked = refl
ranked-length order [] (r ∷ ranks) ranked = absurd ranked
ranked-length order (v ∷ items) [] ranked = absurd ranked
ranked-length order (v ∷ items) (r ∷ ranks) ranked = ap suc (ranked-length order items ranks ranked.1)

-- the items with the first ranks, and those with the others
pub ranked-split : (order items : List Item) (ranks others : List ℕ) → AreRanked order items (ranks ++ others)
    → (front : List Item) × (back : List Item) × (items ≡ front ++ back) × AreRanked order front ranks × AreRanked order back others
ranked-split order items [] others ranked = ([], items, refl, tt, ranked)
ranked-split order [] (r ∷ ranks) others ranked = absurd ranked
ranked-split order (v ∷ items) (r ∷ ranks) others ranked =
    let (front, back, same, first, rest) = ranked-split order items ranks others ranked.1 in
    (v ∷ front, back, ap (λ l. v ∷ l) same, (ranked.0, first), rest)

pub ranked-append : (order items more : List Item) (ranks others : List ℕ) → AreRanked order items ranks → AreRanked order more others
    → AreRanked order (items ++ more) (ranks ++ others)
ranked-append order [] more [] others first rest = rest
ranked-append order [] more (r ∷ ranks) others first rest = absurd first
ranked-append order (v ∷ items) more [] others first rest = absurd first
ranked-append order (v ∷ items) more (r ∷ ranks) others first rest = (first.0, ranked-append order items more ranks others first.1 rest)

-- the ranks of the first items, and those of the others
pub ranked-cut : (order items more : List Item) (ranks : List ℕ) → AreRanked order (items ++ more) ranks
    → (front : List ℕ) × (back : List ℕ) × (ranks ≡ front ++ back) × AreRanked order items front × AreRanked order more back
ranked-cut order [] more ranks ranked = ([], ranks, refl, tt, ranked)
ranked-cut order (v ∷ items) more [] ranked = absurd ranked
ranked-cut order (v ∷ items) more (r ∷ ranks) ranked =
    let (front, back, same, first, rest) = ranked-cut order items more ranks ranked.1 in
    (r ∷ front, back, ap (λ l. r ∷ l) same, (ranked.0, first), rest)

-- items with ranks up to a top have ranks
pub up-ranks : (order : List Item) (top : ℕ) (items : List Item) → AllByRecursion (IsRankedUpTo order top) items → (ranks : List ℕ) × AreRanked order items ranks
up-ranks order top [] all = ([], tt)
up-ranks order top (v ∷ items) ((rank, has, most), all) = let (ranks, ranked) = up-ranks order top items all in (rank ∷ ranks, (has, ranked))

pub within-ranks : (order : List Item) (pivot : ℕ) (items : List Item) → IsWithinPivot order pivot items → (ranks : List ℕ) × AreRanked order items ranks
within-ranks order zero items within = up-ranks order (length order) items within.ranked
within-ranks order (suc before) items within = up-ranks order (suc before) items within.ranked

-- a pivot is the top and is needed
pub within-top : (order : List Item) (rank : ℕ) → 1 ≤ rank → (items : List Item) → IsWithinPivot order rank items ↔ IsWithin order rank (Some rank) items
within-top order zero some items = absurd (omega (arith, some))
within-top order (suc rank) some items = ((λ is. is), (λ is. is))
