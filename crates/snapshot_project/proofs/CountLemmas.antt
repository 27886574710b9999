-- What is counted among chosen sequences of a list, counted among all.
use Rattle.std.proofs.Common.{◌≡◌, ◌↔◌, ℕ, zero, suc, ◌+◌, ◌<◌, inl, inr, Some, List, [], ◌∷◌, refl, sym, ap, ◌∙◌, subst, arith}
use Rattle.std.specs.List.{AllPairs, AllZip, Contains, slice_get}
use Rattle.std.proofs.lemmas.Option.{slice_get_within, same_Some}
use Rattle.mine_model.specs.Support.{Sequence, Counts}
use Rattle.mine_model.proofs.ListLemmas.{Contains-cases, Contains-first, Contains-other, Contains-none, AllPairs-head, AllPairs-tail}

-- the one is counted just where the other is, and then weighs as much
pub record CountsAs {A B : Type 0} (Has : List A → Type 0) (Also : List B → Type 0) (one : Sequence A) (other : Sequence B) : Type 0 where
  pub same : Has one.items ↔ Also other.items
  pub weight : Also other.items → one.weight ≡ other.weight

-- the sequence at the place is counted as the other, where the first place has this number
abbrev pub IsChosen : {A B : Type 0} → (List A → Type 0) → (List B → Type 0) → List (Sequence A) → ℕ → ℕ → Sequence B → Type 0
IsChosen {A} Has Also all from place other =
    (k : ℕ) × (one : Sequence A) × (place ≡ from + k) × (slice_get all k ≡ Some one) × CountsAs Has Also one other

module _ {A B : Type 0} (Has : List A → Type 0) (Also : List B → Type 0) where
  -- places behind the first
  chosen-later : (from : ℕ) (s : Sequence A) (all : List (Sequence A)) (places : List ℕ) (chosen : List (Sequence B))
      → ((place : ℕ) → Contains places place → from < place) → AllZip (IsChosen Has Also (s ∷ all) from) places chosen
      → AllZip (IsChosen Has Also all (suc from)) places chosen
  chosen-later from s all [] [] above zip = tt
  chosen-later from s all [] (c ∷ chosen) above zip = absurd zip
  chosen-later from s all (place ∷ places) [] above zip = absurd zip
  chosen-later from s all (place ∷ places) (c ∷ chosen) above ((zero, one, is, at, counts), zip) =
      let less : from < place = above place (Contains-first place places) in absurd (omega arith)
  chosen-later from s all (place ∷ places) (c ∷ chosen) above ((suc k, one, is, at, counts), zip) = (
    (k, one, omega arith, at, counts),
    chosen-later from s all places chosen (λ other held. above other (Contains-other place places other held)) zip,
  )

  chosen-from : (from : ℕ) (all : List (Sequence A)) (places : List ℕ) (chosen : List (Sequence B)) → AllPairs (λ low high. low < high) places
      → AllZip (IsChosen Has Also all from) places chosen
      → ((k : ℕ) (s : Sequence A) → slice_get all k ≡ Some s → Has s.items → Contains places (from + k))
      → (n : ℕ) → Counts Also chosen n → Counts Has all n
  chosen-from from [] [] [] rising zip known n counts = counts
  chosen-from from [] [] (c ∷ chosen) rising zip known n counts = absurd zip
  chosen-from from [] (place ∷ places) [] rising zip known n counts = absurd zip
  chosen-from from [] (place ∷ places) (c ∷ chosen) rising ((k, one, is, at, like), zip) known n counts =
      absurd (let no' : k < 0 = slice_get_within [] k one at in omega arith)
  chosen-from from (s ∷ all) [] [] rising zip known n counts = inr (
    (λ has. Contains-none (from + 0) (known 0 s refl has)),
    chosen-from (suc from) all [] [] rising tt (λ k other at has. absurd (Contains-none (from + suc k) (known (suc k) other at has))) n counts,
  )
  chosen-from from (s ∷ all) [] (c ∷ chosen) rising zip known n counts = absurd zip
  chosen-from from (s ∷ all) (place ∷ places) [] rising zip known n counts = absurd zip
  chosen-from from (s ∷ all) (place ∷ places) (c ∷ chosen) rising ((zero, one, is, at, like), zip) known n counts =
      let above : (other : ℕ) → Contains places other → place < other = AllPairs-head (λ (low high : ℕ). low < high) place places rising in
      let here : CountsAs Has Also s c = subst (λ (z : Sequence A). CountsAs Has Also z c) (sym (same_Some s one at)) like in
      let rest : (m : ℕ) → Counts Also chosen m → Counts Has all m =
      chosen-from (suc from) all places chosen (AllPairs-tail (λ (low high : ℕ). low < high) place places rising)
      (chosen-later from s all places chosen (λ other held. (let less : place < other = above other held in omega arith)) zip)
      (λ k other there has. elim (Contains-cases place places (from + suc k) (known (suc k) other there has)) [
        | inl same ↦ absurd (omega arith)
        | inr behind ↦ subst (Contains places) (let next : from + suc k ≡ suc from + k = omega arith in next) behind
      ]) in
      elim counts [
        | inl (also, (m, sum, others)) ↦ inl (here.same.1 also, (m, sum ∙ ap (λ (w : ℕ). w + m) (sym (here.weight also)), rest m others))
        | inr (no', others) ↦ inr ((λ has. no' (here.same.0 has)), rest n others)
      ]
  chosen-from from (s ∷ all) (place ∷ places) (c ∷ chosen) rising ((suc k, one, is, at, like), zip) known n counts =
      let above : (other : ℕ) → Contains places other → place < other = AllPairs-head (λ (low high : ℕ). low < high) place places rising in (
      inr (
        (λ has. elim (Contains-cases place places (from + 0) (known 0 s refl has)) [
          | inl same ↦ absurd (omega arith)
          | inr behind ↦ let less : place < from + 0 = above (from + 0) behind in absurd (omega arith)
        ]),
        chosen-from (suc from) all (place ∷ places) (c ∷ chosen) rising (
          (k, one, (let next : place ≡ suc from + k = omega arith in next), at, like),
          chosen-later from s all places chosen (λ other held. (let less : place < other = above other held in omega arith)) zip,
        ) (λ i other there has. subst (Contains (place ∷ places)) (let next : from + suc i ≡ suc from + i = omega arith in next) (known (suc i) other there has)) n counts,
      )
      )

  -- Where some sequences are counted as chosen ones of all, and all that are to be counted are chosen, the
  -- sum over all is the same.
  pub counts-chosen : (all : List (Sequence A)) (places : List ℕ) (chosen : List (Sequence B)) → AllPairs (λ low high. low < high) places
      → AllZip (IsChosen Has Also all 0) places chosen
      → ((k : ℕ) (s : Sequence A) → slice_get all k ≡ Some s → Has s.items → Contains places k)
      → (n : ℕ) → Counts Also chosen n → Counts Has all n
  counts-chosen all places chosen rising zip known n counts =
      chosen-from 0 all places chosen rising zip
      (λ k s at has. subst (Contains places) (let same : k ≡ 0 + k = omega arith in same) (known k s at has)) n counts
