-- Labels that come once.
use Rattle.std.proofs.Common.{◌≡◌, ℕ, ◌+◌, ◌≤◌, ◌⊎◌, ◌≢◌, inl, inr, cond, List, [], ◌∷◌, get_or, refl, sym, ap, subst, arith, sum_by, Contains}
use Rattle.std.specs.Str.{bytes_eq}
use Rattle.std.proofs.lemmas.Slice.Eq.{bytes_eq-Decides}
use Rattle.std.proofs.lemmas.Bool.{cond-true, cond-false, cases_Bool, cases_lt}
use Rattle.std.proofs.lemmas.List.Sums.{sum_by-cons}
use Rattle.std.specs.List.{AllPairs}
use Rattle.std.proofs.lemmas.List.Elements.{Contains-get_or}
use Rattle.std.proofs.lemmas.List.Kept.{AllPairs-cons}
use Rattle.mine_model.proofs.ListLemmas.{Contains-cases, Contains-first, Contains-other, Contains-none, AllPairs-head, AllPairs-tail}
use Rattle.mine_model.specs.Labels.{times, IsOnce}

-- the weight of one label
pub one : List ℕ → List ℕ → ℕ
one label other = cond (bytes_eq label other) 1 0

pub times-one : (label : List ℕ) (labels : List (List ℕ)) → times label labels ≡ sum_by (one label) labels
unfolding one
times-one label labels = refl

pub one-same : (label other : List ℕ) → label ≡ other → one label other ≡ 1
unfolding one
one-same label other same = cond-true (bytes_eq label other) 1 0 ((bytes_eq-Decides label other).1 same)

pub one-cases : (label other : List ℕ) → (label ≡ other) ⊎ (one label other ≡ 0)
unfolding one
one-cases label other = elim (cases_Bool (bytes_eq label other)) [ inl is ↦ inl ((bytes_eq-Decides label other).0 is) | inr not ↦ inr (cond-false (bytes_eq label other) 1 0 not) ]

pub one-most : (label other : List ℕ) → one label other ≤ 1
unfolding one
one-most label other = elim (cases_Bool (bytes_eq label other)) [ inl is ↦ omega (arith, cond-true {A = ℕ} (bytes_eq label other) 1 0 is) | inr not ↦ omega (arith, cond-false {A = ℕ} (bytes_eq label other) 1 0 not) ]

-- a sum that is not 0 has a part that is not
pub some-part : {X : Type 0} (f : X → ℕ) (xs : List X) → (sum_by f xs ≡ 0) ⊎ ((x : X) × Contains xs x × (1 ≤ f x))
some-part f [] = inl refl
some-part f (x ∷ xs) = elim (cases_lt 0 (f x)) [
  | inl more ↦ inr (x, Contains-first x xs, omega arith)
  | inr none ↦ elim (some-part f xs) [
    | inl nothing ↦ inl (omega (arith, sum_by-cons f x xs))
    | inr part ↦ let (y, is, more) = part in inr (y, Contains-other x xs y is, more)
  ]
]

pub part-most : {X : Type 0} (f : X → ℕ) (xs : List X) (x : X) → Contains xs x → f x ≤ sum_by f xs
part-most f [] x is = absurd (Contains-none x is)
part-most f (y ∷ xs) x is = elim (Contains-cases y xs x is) [
  | inl here ↦ let same : f x ≡ f y = ap f here in omega (arith, sum_by-cons f y xs)
  | inr there ↦ omega (arith, sum_by-cons f y xs, part-most f xs x there)
]

pub one-held : (label : List ℕ) (labels : List (List ℕ)) → Contains labels label → 1 ≤ sum_by (one label) labels
one-held label labels is = omega (arith, part-most (one label) labels label is, one-same label label refl)

pub one-found : (label : List ℕ) (labels : List (List ℕ)) → (Contains labels label) ⊎ (sum_by (one label) labels ≡ 0)
one-found label labels = elim (some-part (one label) labels) [
  | inl none ↦ inr none
  | inr part ↦ let (other, is, more) = part in elim (one-cases label other) [
    | inl same ↦ inl (subst (Contains labels) (sym same) is)
    | inr none ↦ absurd (omega arith)
  ]
]

-- a list of numbers is another or is not
pub same_list_or_not : (xs ys : List ℕ) → (xs ≡ ys) ⊎ (xs ≢ ys)
same_list_or_not xs ys = elim (one-cases xs ys) [ inl same ↦ inl same | inr none ↦ inr (λ same. omega (arith, one-same xs ys same, none)) ]

pub list_or_not : (lists : List (List ℕ)) (list : List ℕ) → Contains lists list ⊎ (Contains lists list → ⊥)
list_or_not lists list = elim (one-found list lists) [
  | inl there ↦ inl there
  | inr none ↦ inr (λ held. omega (arith, one-held list lists held, none))
]

-- labels that come once differ
pub once-apart : (labels : List (List ℕ)) → IsOnce labels → AllPairs (λ first second. first ≢ second) labels
once-apart [] once = λ i j d less inside. absurd (omega (arith, inside))
once-apart (label ∷ labels) once =
    AllPairs-cons (λ first second. first ≢ second) label labels (λ k d below same. absurd (twice (get_or labels k d) (Contains-get_or labels k d below) same)) (once-apart labels rest)
  where
    rest : IsOnce labels
    rest other = omega (arith, once other, times-one other (label ∷ labels), times-one other labels, sum_by-cons (one other) label labels)

    twice : (other : List ℕ) → Contains labels other → label ≡ other → ⊥
    twice other held same =
        let here : one other label ≡ 1 = one-same other label (sym same) in
        omega (arith, here, one-held other labels held, once other, times-one other (label ∷ labels), sum_by-cons (one other) label labels)

-- labels that differ come once
pub apart-once : (labels : List (List ℕ)) → AllPairs (λ first second. first ≢ second) labels → IsOnce labels
apart-once [] apart label = omega (arith, times-one label [])
apart-once (first ∷ labels) apart label =
    let rest : sum_by (one label) labels ≤ 1 = omega (arith, times-one label labels, apart-once labels (AllPairs-tail (λ first second. first ≢ second) first labels apart) label) in
    let whole : sum_by (one label) (first ∷ labels) ≡ one label first + sum_by (one label) labels = sum_by-cons (one label) first labels in
    elim (one-cases label first) [
      | inr none ↦ omega (arith, times-one label (first ∷ labels), whole, rest, none)
      | inl same ↦ elim (one-found label labels) [
        | inr none ↦ omega (arith, times-one label (first ∷ labels), whole, none, one-most label first)
        | inl held ↦ absurd (AllPairs-head (λ first second. first ≢ second) first labels apart label held (sym same))
      ]
    ]
