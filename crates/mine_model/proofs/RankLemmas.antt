-- The table of ranks, filled place by place.
use Rattle.std.proofs.Common.{◌≡◌, ◌≢◌, ℕ, ◌+◌, ◌-◌, ◌≤◌, ◌<◌, inl, inr, List, [], ◌∷◌, ◌++◌, map, take, length, get_or, set, replicate, refl, sym, ap, ◌∙◌, subst, arith, Some, get_or-set_same, get_or-set_other}
use Rattle.std.specs.List.{slice_index, slice_get, All, AllPairs, Contains}
use Rattle.std.proofs.lemmas.List.{length-map, length-replicate, get_or-replicate, get_or_past, take_more, take_all}
use Rattle.std.proofs.lemmas.List.Elements.{Contains-append_cases, All-contains}
use Rattle.std.proofs.lemmas.Bool.{cases_eq, cases_lt, eqb-true}
use Rattle.std.proofs.lemmas.Bool.Decides.{Decides-eqb}
use Rattle.std.proofs.lemmas.Option.{slice_get_read, slice_get_within, get_or_from_slice_get}
use Rattle.std.proofs.lemmas.Map.Steps.{length-le_from_distinct_below}
use Rattle.std.proofs.lemmas.Map.Made.{IsDistinct-from_AllPairs}
use Rattle.std.proofs.lemmas.Map.Views.{Contains-from_any}
use Rattle.mine_model.specs.declared.item.Item.{Item}
use Rattle.mine_model.specs.Ranks.{HasRank, IsRankTable}
use Rattle.mine_model.proofs.ListLemmas.{Contains-cases, Contains-none, Contains-from, apart_by_image}
use Rattle.mine_model.proofs.AncestryLemmas.{Item-same}

-- different items with numbers below n are at most n
pub length-le_from_items : (order : List Item) (n : ℕ) → AllPairs (λ v w. v ≢ w) order → All (λ w. w.0 < n) order → length order ≤ n
length-le_from_items order n different within =
    let number : Item → ℕ = λ w. w.0 in
    let apart : AllPairs (λ x y. x ≢ y) (map number order) = apart_by_image number Item-same order different in
    let few : length (map number order) ≤ n = length-le_from_distinct_below (map number order) n (IsDistinct-from_AllPairs Decides-eqb (map number order) apart)
    (λ q found.
    let (w, held, same) = Contains-from number order q (Contains-from_any (λ x y. eqb-true x y) q (map number order) found) in
    let below : w.0 < n = All-contains (λ w. w.0 < n) order w within held in
    omega arith) in
    omega (arith, few, length-map order number)

-- as many times 0 have 0 everywhere
pub zeros-everywhere : (zeros : List ℕ) (n : ℕ) → zeros ≡ replicate n 0 → (k : ℕ) → slice_index zeros k ≡ 0
zeros-everywhere zeros n are k = elim (cases_lt k n) [
  | inl below ↦ ap (λ xs. slice_index xs k) are ∙ get_or-replicate n k 0 0 below
  | inr past ↦ ap (λ xs. slice_index xs k) are ∙ get_or_past (replicate n 0) k 0 (omega (arith, past, length-replicate {A = ℕ} n 0))
]

-- the table has the ranks of the first so many items
pub record IsFilled (order : List Item) (count : ℕ) (table : List ℕ) : Type 0 where
  pub ranked : (w : Item) → (slice_index table w.0 ≡ 0 → ⊥) → HasRank order w (slice_index table w.0)
  pub unranked : (w : Item) → slice_index table w.0 ≡ 0 → Contains (take count order) w → ⊥

pub IsFilled-none : (order : List Item) (table : List ℕ) → ((k : ℕ) → slice_index table k ≡ 0) → IsFilled order 0 table
IsFilled-none order table zeros = record {
  ranked = λ w some. absurd (some (zeros w.0));
  unranked = λ w none held. Contains-none w held;
}

pub IsFilled-more : (order : List Item) (k : ℕ) (table : List ℕ) (item : Item) → IsFilled order k table → k < length order → item ≡ get_or order k item → item.0 < length table
    → IsFilled order (k + 1) (set table item.0 (k + 1))
IsFilled-more order k table item filled below is within =
    let here : slice_index (set table item.0 (k + 1)) item.0 ≡ k + 1 = get_or-set_same table item.0 (k + 1) 0 within in
    record {
      ranked = λ w some. elim (cases_eq w.0 item.0) [
        | inl same ↦
            let e : w ≡ item = Item-same w item same in
            let value : slice_index (set table item.0 (k + 1)) w.0 ≡ k + 1 = ap (slice_index (set table item.0 (k + 1))) same ∙ here in
            let place : k + 1 - 1 ≡ k = omega arith in
            rw value (record { least = omega arith; place = ap (slice_get order) place ∙ slice_get_read order (length order) k item refl below is ∙ ap Some (sym e) })
        | inr other ↦
            let value : slice_index (set table item.0 (k + 1)) w.0 ≡ slice_index table w.0 = get_or-set_other table item.0 w.0 (k + 1) 0 other in
            rw value (filled.ranked w (λ none. some (value ∙ none)))
      ];
      unranked = λ w none held. elim (cases_eq w.0 item.0) [
        | inl same ↦ let value : slice_index (set table item.0 (k + 1)) w.0 ≡ k + 1 = ap (slice_index (set table item.0 (k + 1))) same ∙ here in omega (arith, value, none)
        | inr other ↦
            let value : slice_index (set table item.0 (k + 1)) w.0 ≡ slice_index table w.0 = get_or-set_other table item.0 w.0 (k + 1) 0 other in
            let more : Contains (take k order ++ get_or order k item ∷ []) w = subst (λ xs. Contains xs w) (take_more order k item below) held in
            elim (Contains-append_cases (take k order) (get_or order k item ∷ []) w more) [
              | inl before ↦ filled.unranked w (sym value ∙ none) before
              | inr last ↦ elim (Contains-cases (get_or order k item) [] w last) [
                | inl e ↦ other (ap (λ (v : Item). v.0) (e ∙ sym is))
                | inr no' ↦ Contains-none w no'
              ]
            ]
      ];
    }

pub IsFilled-all : (order : List Item) (table : List ℕ) → IsFilled order (length order) table → IsRankTable order table
IsFilled-all order table filled = record {
  ranked = filled.ranked;
  unranked = λ w none held. filled.unranked w none (subst (λ xs. Contains xs w) (sym (take_all (length order) order (omega arith))) held);
}

-- an item with a rank stands in the order
pub HasRank-held : (order : List Item) (w : Item) (rank : ℕ) → HasRank order w rank → Contains order w
HasRank-held order w rank has =
    (rank - 1, slice_get_within order (rank - 1) w has.place, get_or_from_slice_get order (rank - 1) w w has.place)

pub HasRank-most : (order : List Item) (w : Item) (rank : ℕ) → HasRank order w rank → rank ≤ length order
HasRank-most order w rank has =
    let within : rank - 1 < length order = slice_get_within order (rank - 1) w has.place in
    omega (arith, within, has.least)
