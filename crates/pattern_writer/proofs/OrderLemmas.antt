-- Rows that are sorted and have patterns of their own rise.
use Rattle.std.proofs.Common.{◌≡◌, ◌≢◌, ℕ, ◌-◌, ◌<◌, suc, false, List, [], ◌∷◌, ◌++◌, length, map, take, drop, get_or, refl, sym, ap, ◌∙◌, inl, inr, arith, All, AllPairs, true≢false, length-drop}
use Rattle.std.specs.List.{AllByRecursion}
use Rattle.std.specs.List.Sorted.{IsPermutation, IsSortedBy}
use Rattle.std.specs.Bool.{Decides}
use Rattle.std.specs.Cmp.{IsTotalOrder, tied_itself}
use Rattle.std.specs.Cmp.Lexicographic.{pointwise, slice_cmp}
use Rattle.std.specs.Ordering.{nat_cmp, ordering_then, ordering_reverse, is_lt, is_eq, MatchOrdering}
use Rattle.std.specs.declared.cmp.Ordering.{Ordering}
use Rattle.std.specs.declared.cmp.Ordering.TheVariants.{Less, Equal, Greater}
use Rattle.std.proofs.lemmas.Cmp.{nat_cmp_total, then_total, back_total, on_total, lists_total, nat_list_cmp_total, ranked}
use Rattle.std.proofs.lemmas.List.Elements.{All-head, All-tail}
use Rattle.std.proofs.lemmas.List.{length-map, get_or-map, take-append-drop, take_all}
use Rattle.std.proofs.lemmas.List.MinMax.{ranks_by}
use Rattle.std.proofs.lemmas.List.Sorted.{IsPermutation-map, All-permutation, sorted_far}
use Rattle.std.proofs.lemmas.Map.Text.{is_eq-slice_cmp}
use Rattle.std.proofs.lemmas.Slice.Eq.{slice_eq-Decides, bytes_eq-Decides}
use Rattle.mine_model.specs.declared.item.Item.{Item}
use Rattle.mine_model.specs.declared.row.Row.{Row}
use Rattle.mine_model.specs.Answer.{NamedRow, ComesBefore, Rises}
use Rattle.mine_model.specs.Names.{name_of, HasName, AreDistinct, named_row}
use Rattle.mine_model.proofs.AnswerLemmas.{both_equal}
use Rattle.mine_model.proofs.ApartLemmas.{item_eq, item_eq-Decides, apart_by_permutation}
use Rattle.pattern_writer.specs.Order.{names_cmp, row_cmp}

-- the comparison of rows is an order
pub row_cmp_total : IsTotalOrder row_cmp
row_cmp_total =
    then_total (back_total (on_total (λ (row : NamedRow). row.support) nat_cmp_total)) (on_total (λ (row : NamedRow). row.pattern) (lists_total nat_list_cmp_total))

module _ (names : List (List ℕ)) where
  abbrev names_of : List Item → List (List ℕ)
  names_of items = map (name_of names) items

  -- what both begin with decides nothing
  behind_front : (front first second : List Item) → names_cmp (names_of (front ++ first)) (names_of (front ++ second)) ≡ names_cmp (names_of first) (names_of second)
  behind_front [] first second = refl
  behind_front (x ∷ front) first second = rw (tied_itself nat_list_cmp_total (name_of names x)) (behind_front front first second)

  pub behind_same : (first second : List Item) (n : ℕ) → take n first ≡ take n second
      → names_cmp (names_of (take (length first - n) (drop n first))) (names_of (take (length second - n) (drop n second))) ≡ names_cmp (names_of first) (names_of second)
  behind_same first second n same =
      let rest : take (length first - n) (drop n first) ≡ drop n first = take_all _ (drop n first) (omega (arith, length-drop n first)) in
      let others : take (length second - n) (drop n second) ≡ drop n second = take_all _ (drop n second) (omega (arith, length-drop n second)) in
      let whole : take n first ++ drop n first ≡ first = take-append-drop n first in
      let all : take n first ++ drop n second ≡ second = ap (λ w. w ++ drop n second) same ∙ take-append-drop n second in
      (λ i. names_cmp (names_of (rest i)) (names_of (others i)))
      ∙ sym (behind_front (take n first) (drop n first) (drop n second))
      ∙ (λ i. names_cmp (names_of (whole i)) (names_of (all i)))

module _ (names : List (List ℕ)) (distinct : AreDistinct names) where
  same_item : (first second : Item) → HasName names first → HasName names second → slice_cmp nat_cmp (name_of names first) (name_of names second) ≡ Equal → first ≡ second
  same_item first second in_first in_second e =
      let same_name : name_of names first ≡ name_of names second =
      (bytes_eq-Decides (name_of names first) (name_of names second)).0 (sym (is_eq-slice_cmp (name_of names first) (name_of names second)) ∙ ap is_eq e) in
      let e : first.0 ≡ second.0 = distinct first.0 second.0 in_first in_second same_name in
      λ i. record { 0 = e i }

  same_items : (first second : List Item) → All (HasName names) first → All (HasName names) second
      → names_cmp (map (name_of names) first) (map (name_of names) second) ≡ Equal → first ≡ second
  same_items [] [] in_first in_second e = refl
  same_items [] (y ∷ ys) in_first in_second e = cc
  same_items (x ∷ xs) [] in_first in_second e = cc
  same_items (x ∷ xs) (y ∷ ys) in_first in_second e =
      let both = both_equal (slice_cmp nat_cmp (name_of names x) (name_of names y)) (names_cmp (map (name_of names) xs) (map (name_of names) ys)) e in
      let head : x ≡ y = same_item x y (All-head (HasName names) x xs in_first) (All-head (HasName names) y ys in_second) both.0 in
      let tail : xs ≡ ys = same_items xs ys (All-tail (HasName names) x xs in_first) (All-tail (HasName names) y ys in_second) both.1 in
      λ i. head i ∷ tail i

  -- of two patterns the one that does not come later comes earlier
  earlier : (first second : List Item) → All (HasName names) first → All (HasName names) second → first ≢ second
      → is_lt (names_cmp (map (name_of names) second) (map (name_of names) first)) ≡ false
      → names_cmp (map (name_of names) first) (map (name_of names) second) ≡ Less
  earlier first second in_first in_second differ not_less = by (names_cmp (map (name_of names) second) (map (name_of names) first)) refl
    where
      by : (o : Ordering) → names_cmp (map (name_of names) second) (map (name_of names) first) ≡ o
          → names_cmp (map (name_of names) first) (map (name_of names) second) ≡ Less
      by Less e = absurd (true≢false (ap is_lt (sym e) ∙ not_less))
      by Equal e = absurd (differ (sym (same_items second first in_second in_first e)))
      by Greater e = (lists_total nat_list_cmp_total).antisymm (map (name_of names) first) (map (name_of names) second) ∙ ap ordering_reverse e

  comes_before : (first second : Row) → All (HasName names) first.pattern → All (HasName names) second.pattern → first.pattern ≢ second.pattern
      → is_lt (row_cmp (named_row names second) (named_row names first)) ≡ false → ComesBefore (named_row names first) (named_row names second)
  comes_before first second in_first in_second differ not_less = by (nat_cmp first.support second.support) refl (ranked first.support second.support (nat_cmp first.support second.support) refl)
    where
      by : (o : Ordering) → nat_cmp first.support second.support ≡ o → MatchOrdering o (first.support < second.support) (first.support ≡ second.support) (second.support < first.support)
          → ComesBefore (named_row names first) (named_row names second)
      by Less e less = absurd (true≢false (ap (λ o. is_lt (ordering_then o (names_cmp (map (name_of names) second.pattern) (map (name_of names) first.pattern)))) (sym e) ∙ not_less))
      by Equal e equal = inr (
        equal,
        earlier first.pattern second.pattern in_first in_second differ
            (ap (λ o. is_lt (ordering_then o (names_cmp (map (name_of names) second.pattern) (map (name_of names) first.pattern)))) (sym e) ∙ not_less),
      )
      by Greater e greater = inl greater

each : {X Y : Type 0} (P : Y → Type 0) (f : X → Y) (xs : List X) → All (λ x. P (f x)) xs → AllByRecursion P (map f xs)
each P f [] all = tt
each P f (x ∷ xs) all = (All-head (λ x. P (f x)) x xs all, each P f xs (All-tail (λ x. P (f x)) x xs all))

-- rows of which each comes before all later ones rise
Rises-from_AllPairs : (names : List (List ℕ)) (rows : List Row)
    → AllPairs (λ first second. ComesBefore (named_row names first) (named_row names second)) rows → Rises (map (named_row names) rows)
Rises-from_AllPairs names [] pairs = tt
Rises-from_AllPairs names (row ∷ rows) pairs = (
  each (ComesBefore (named_row names row)) (named_row names) rows (λ k d within. pairs 0 (suc k) d (omega arith) (omega arith)),
  Rises-from_AllPairs names rows (λ i j d less within. pairs (suc i) (suc j) d (omega arith) (omega arith)),
)

-- ---- patterns that differ still do in another order

pattern_eq-Decides : (first second : List Item) → Decides (pointwise item_eq first second) (first ≡ second)
pattern_eq-Decides first second = slice_eq-Decides item_eq-Decides first second (pointwise item_eq first second) refl

abbrev pattern_of : Row → List Item
pattern_of row = row.pattern

abbrev no_row : Row
no_row = record { pattern = []; support = 0 }

patterns_differ : (rows : List Row) → AllPairs (λ first second. first.pattern ≢ second.pattern) rows → AllPairs (λ first second. first ≢ second) (map pattern_of rows)
patterns_differ rows pairs i j d less within e =
    let j_within : j < length rows = omega (arith, length-map rows pattern_of) in
    let i_within : i < length rows = omega arith in
    pairs i j no_row less j_within (sym (get_or-map pattern_of rows i no_row d i_within) ∙ e ∙ get_or-map pattern_of rows j no_row d j_within)

rows_differ : (rows : List Row) → AllPairs (λ first second. first ≢ second) (map pattern_of rows) → AllPairs (λ first second. first.pattern ≢ second.pattern) rows
rows_differ rows pairs i j d less within e =
    let i_within : i < length rows = omega arith in
    let map_within : j < length (map pattern_of rows) = omega (arith, length-map rows pattern_of) in
    pairs i j [] less map_within (get_or-map pattern_of rows i d [] i_within ∙ e ∙ sym (get_or-map pattern_of rows j d [] within))

still_differ : (old new : List Row) → IsPermutation old new → AllPairs (λ first second. first.pattern ≢ second.pattern) old → AllPairs (λ first second. first.pattern ≢ second.pattern) new
still_differ old new moved pairs =
    rows_differ new (apart_by_permutation pattern_eq-Decides (map pattern_of old) (map pattern_of new) (IsPermutation-map pattern_of old new moved) (patterns_differ old pairs))

-- sorted rows with patterns of their own, all of whose items have names, rise
pub Rises-from_sort : (names : List (List ℕ)) (old new : List Row) → AreDistinct names → All (λ row. All (HasName names) row.pattern) old
    → AllPairs (λ first second. first.pattern ≢ second.pattern) old → IsPermutation old new
    → IsSortedBy (λ first second. is_lt (row_cmp (named_row names first) (named_row names second))) new → Rises (map (named_row names) new)
Rises-from_sort names old new distinct named pairs moved sorted =
    let named_new : All (λ row. All (HasName names) row.pattern) new = All-permutation (λ row. All (HasName names) row.pattern) old new moved named in
    let apart = still_differ old new moved pairs in
    Rises-from_AllPairs names new
    (λ i j d less within.
    let i_within : i < length new = omega arith in
    let not_less = sorted_far (λ first second. is_lt (row_cmp (named_row names first) (named_row names second))) (ranks_by row_cmp_total (named_row names)) new sorted i j d (omega arith) within in
    comes_before names distinct (get_or new i d) (get_or new j d) (named_new i d i_within) (named_new j d within) (apart i j d less within) not_less)
