-- Stands of many prefixes in one run.
use Rattle.std.proofs.Common.{◌≡◌, ℕ, zero, suc, ◌+◌, ◌<◌, Some, List, [], ◌∷◌, ◌++◌, length, map, take, set, get_or, sym, ap, subst, arith}
use Rattle.std.specs.List.{All, slice_get}
use Rattle.std.proofs.lemmas.List.{take_more}
use Rattle.std.proofs.lemmas.Option.{get_or_from_slice_get, slice_get_within, slice_get-get_or}
use Rattle.place_walk.specs.declared.stand.Stand.{Stand}
use Rattle.place_walk.specs.Codes.{stand_of}

-- one code is set
pub set-coded : (codes : List ℕ) (rest : List Stand) (index code : ℕ) (stand : Stand) → index < length codes → stand_of code ≡ stand
    → map stand_of (set codes index code) ++ rest ≡ set (map stand_of codes ++ rest) index stand
set-coded [] rest index code stand inside is = absurd (omega arith)
set-coded (other ∷ codes) rest zero code stand inside is = ap (λ s. s ∷ (map stand_of codes ++ rest)) is
set-coded (other ∷ codes) rest (suc index) code stand inside is = ap (λ l. stand_of other ∷ l) (set-coded codes rest index code stand (omega arith) is)

-- one element more
pub take-get : {X : Type 0} (xs : List X) (index : ℕ) (x : X) → slice_get xs index ≡ Some x → take index xs ++ x ∷ [] ≡ take (index + 1) xs
take-get xs index x is =
    let inside : index < length xs = slice_get_within xs index x is in
    let same : get_or xs index x ≡ x = get_or_from_slice_get xs index x x is in
    subst (λ y. take index xs ++ y ∷ [] ≡ take (index + 1) xs) same (sym (take_more xs index x inside))

-- what holds of each that is found holds of all
pub all-found : {X : Type 0} (P : X → Type 0) (xs : List X) → ((k : ℕ) (x : X) → slice_get xs k ≡ Some x → P x) → All P xs
all-found P xs each = λ k d inside. each k (get_or xs k d) (slice_get-get_or xs k d inside)
