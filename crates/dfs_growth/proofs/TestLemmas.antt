-- The tests say what the words say of lists and of ranks.
use Rattle.std.proofs.Common.{◌≡◌, ◌≢◌, ℕ, zero, suc, ◌+◌, ◌-◌, ◌≤◌, ◌<◌, ◌==◌, inl, inr, Bool, true, ◌&&◌, List, [], ◌∷◌, ◌++◌, refl, sym, ◌∙◌, subst, arith, leb}
use Rattle.std.specs.Bool.{Decides}
use Rattle.std.specs.List.{AllByRecursion, AllPairs, Contains, list_any, list_all, range_with_len}
use Rattle.std.proofs.lemmas.Bool.{and_parts, and_from, or_cases, or_left, or_right, false≢true, eqb-true, eq-eqb, leb-true, le-leb}
use Rattle.std.proofs.lemmas.Bool.Decides.{Decides-eqb, Decides-like, Decides-and}
use Rattle.std.proofs.lemmas.List.Folds.{list_any-from_Any}
use Rattle.std.proofs.lemmas.List.FromFn.{length-range_with_len, get_or-range_with_len}
use Rattle.mine_model.specs.declared.item.Item.{Item}
use Rattle.mine_model.specs.Ranks.{HasRank, AreRanked}
use Rattle.mine_model.specs.Pivots.{IsRankedUpTo, HoldsRank, IsWithinPivot}
use Rattle.mine_model.proofs.ListLemmas.{Contains-cases, Contains-first, Contains-other, Contains-none}
use Rattle.mine_model.proofs.RankedLemmas.{item_rank}
use Rattle.search_tree.proofs.SearchAnswerLemmas.{ranked-within}
use Rattle.dfs_growth.specs.Tree.{begin_with, are_within}

pub any-back : {X : Type 0} (p : X → Bool) (xs : List X) (x : X) → Contains xs x → p x ≡ true → list_any p xs ≡ true
any-back p xs x (k, below, at) is = list_any-from_Any p xs (k, x, below, at, is)

pub range-forth : (n rank : ℕ) → Contains (range_with_len 1 n) rank → (1 ≤ rank) × (rank ≤ n)
range-forth n rank (k, below, at) =
    let short : k < n = omega (arith, below, length-range_with_len 1 n) in
    let is : 1 + k ≡ rank = sym (get_or-range_with_len 1 n k rank short) ∙ at in
    (omega (arith, is), omega (arith, is, short))

pub range-back : (n rank : ℕ) → 1 ≤ rank → rank ≤ n → Contains (range_with_len 1 n) rank
range-back n rank least most =
    let short : rank - 1 < n = omega (arith, least, most) in
    let is : 1 + (rank - 1) ≡ rank = omega (arith, least) in
    (rank - 1, omega (arith, short, length-range_with_len 1 n), get_or-range_with_len 1 n (rank - 1) rank short ∙ is)

pub range-rises : (n : ℕ) → AllPairs (λ low high. low < high) (range_with_len 1 n)
range-rises n i j d less within =
    let short : j < n = omega (arith, within, length-range_with_len 1 n) in
    omega (arith, less, get_or-range_with_len 1 n i d (omega (arith, less, short)), get_or-range_with_len 1 n j d short)

-- Ranks

pub begin_with-Decides : (prefix ranks : List ℕ) → Decides (begin_with prefix ranks) ((others : List ℕ) × (ranks ≡ prefix ++ others))
unfolding begin_with
begin_with-Decides [] ranks = ((λ e. (ranks, refl)), (λ is. refl))
begin_with-Decides (rank ∷ prefix) [] = ((λ e. absurd (false≢true e)), (λ (others, same). absurd (cc)))
begin_with-Decides (rank ∷ prefix) (other ∷ ranks) =
    Decides-like (rank == other && begin_with prefix ranks)
    (λ (first, (others, same)). (others, (λ i. sym first i ∷ same i)))
    (λ (others, same). (first_same others same, (others, rest_same others same)))
    (Decides-and (rank == other) (begin_with prefix ranks) (Decides-eqb rank other) (begin_with-Decides prefix ranks))
  where
    first_same : (others : List ℕ) → other ∷ ranks ≡ rank ∷ (prefix ++ others) → rank ≡ other
    first_same others same = cc

    rest_same : (others : List ℕ) → other ∷ ranks ≡ rank ∷ (prefix ++ others) → ranks ≡ prefix ++ others
    rest_same others same = cc

module _ (order : List Item) (different : AllPairs (λ v w. v ≢ w) order) where
  up-forth : (top : ℕ) (items : List Item) (ranks : List ℕ) → AreRanked order items ranks → list_all (λ rank. leb rank top) ranks ≡ true
      → AllByRecursion (IsRankedUpTo order top) items
  up-forth top [] ranks ranked all = tt
  up-forth top (v ∷ items) [] ranked all = absurd ranked
  up-forth top (v ∷ items) (r ∷ ranks) ranked all =
      let both = and_parts (leb r top) (list_all (λ rank. leb rank top) ranks) all in
      ((r, ranked.0, leb-true r top both.0), up-forth top items ranks ranked.1 both.1)

  up-back : (top : ℕ) (items : List Item) (ranks : List ℕ) → AreRanked order items ranks → AllByRecursion (IsRankedUpTo order top) items
      → list_all (λ rank. leb rank top) ranks ≡ true
  up-back top [] [] ranked all = refl
  up-back top [] (r ∷ ranks) ranked all = absurd ranked
  up-back top (v ∷ items) [] ranked all = absurd ranked
  up-back top (v ∷ items) (r ∷ ranks) ranked ((rank, has, most), all) =
      let same : r ≡ rank = item_rank order different v r rank ranked.0 has in
      and_from (leb r top) (list_all (λ rank. leb rank top) ranks) (le-leb r top (omega (arith, same, most))) (up-back top items ranks ranked.1 all)

  holds-forth : (need : ℕ) (items : List Item) (ranks : List ℕ) → AreRanked order items ranks → list_any (λ rank. rank == need) ranks ≡ true → HoldsRank order items need
  holds-forth need items [] ranked some = absurd (false≢true some)
  holds-forth need [] (r ∷ ranks) ranked some = absurd ranked
  holds-forth need (v ∷ items) (r ∷ ranks) ranked some = elim (or_cases (r == need) (list_any (λ rank. rank == need) ranks) some) [
    | inl here ↦ (v, Contains-first v items, subst (HasRank order v) (eqb-true r need here) ranked.0)
    | inr there ↦ (let (w, held, has) = holds-forth need items ranks ranked.1 there in (w, Contains-other v items w held, has))
  ]

  holds-back : (need : ℕ) (items : List Item) (ranks : List ℕ) → AreRanked order items ranks → HoldsRank order items need → list_any (λ rank. rank == need) ranks ≡ true
  holds-back need [] ranks ranked (w, held, has) = absurd (Contains-none w held)
  holds-back need (v ∷ items) [] ranked some = absurd ranked
  holds-back need (v ∷ items) (r ∷ ranks) ranked (w, held, has) = elim (Contains-cases v items w held) [
    | inl here ↦ or_left (r == need) (list_any (λ rank. rank == need) ranks)
        (eq-eqb r need (item_rank order different v r need ranked.0 (subst (λ t. HasRank order t need) here has)))
    | inr there ↦ or_right (r == need) (list_any (λ rank. rank == need) ranks) (holds-back need items ranks ranked.1 (w, there, has))
  ]

  pub within-Decides : (pivot : ℕ) (items : List Item) (ranks : List ℕ) → AreRanked order items ranks
      → Decides (are_within pivot ranks) (IsWithinPivot order pivot items)
  unfolding are_within
  within-Decides zero items ranks ranked = ((λ e. ranked-within order items ranks ranked), (λ within. refl))
  within-Decides (suc before) items ranks ranked = (
    (λ e. let both = and_parts (list_all (λ rank. leb rank (suc before)) ranks) (list_any (λ rank. rank == suc before) ranks) e in
        record { ranked = up-forth (suc before) items ranks ranked both.0; needed = holds-forth (suc before) items ranks ranked both.1 }),
    (λ within. and_from (list_all (λ rank. leb rank (suc before)) ranks) (list_any (λ rank. rank == suc before) ranks)
        (up-back (suc before) items ranks ranked within.ranked) (holds-back (suc before) items ranks ranked within.needed)),
  )
