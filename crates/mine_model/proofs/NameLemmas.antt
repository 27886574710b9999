-- Lemmas on lists of names that grow.
use Rattle.std.proofs.Common.{◌≡◌, ◌≢◌, ℕ, suc, ◌≤◌, ◌<◌, inl, inr, List, [], ◌∷◌, ◌++◌, length, get_or, refl, sym, ap, ◌∙◌, subst, arith, append_assoc, length-append, AllPairs, All, Contains}
use Rattle.std.specs.List.{Contains}
use Rattle.std.proofs.lemmas.List.{append-nil, get_or_append_left, get_or_push, length_push, get_or_default}
use Rattle.std.proofs.lemmas.Bool.{cases_lt}
use Rattle.std.proofs.lemmas.List.Elements.{Contains-append_left, Contains-append_right, Contains-append_cases, Contains-get_or, All-push}
use Rattle.std.proofs.lemmas.List.Quantifiers.{all_pairs_push}
use Rattle.mine_model.specs.declared.item.Item.{Item}
use Rattle.mine_model.specs.Names.{name_of, HasName, AreDistinct, GrowBy}
use Rattle.mine_model.specs.Refusal.{HasMoreNames}
use Rattle.mine_model.proofs.ListLemmas.{Contains-cases, Contains-none, cut_at}

-- another element stands before it or behind it
stands_else : {X : Type 0} (front back : List X) (x y : X) → (x ≡ y → ⊥) → Contains (front ++ x ∷ back) y → Contains (front ++ back) y
stands_else front back x y apart inside = elim (Contains-append_cases front (x ∷ back) y inside) [
  | inl here ↦ Contains-append_left front back y here
  | inr there ↦ elim (Contains-cases x back y there) [
    | inl same ↦ absurd (apart (sym same))
    | inr behind ↦ Contains-append_right front back y behind
  ]
]

-- different elements of a list are no more than it has
pub distinct_fit : {X : Type 0} (some xs : List X) → AllPairs (λ a b. a ≢ b) some → All (λ a. Contains xs a) some → length some ≤ length xs
distinct_fit [] xs apart inside = omega arith
distinct_fit {X} (x ∷ some) xs apart inside =
    let (front, back, is) = cut_at xs x (inside 0 x (omega arith)) in
    let fewer = distinct_fit some (front ++ back)
    (λ i j d lt within. apart (suc i) (suc j) d (omega arith) (omega arith))
    (λ k d within. stands_else front back x (get_or some k d) (apart 0 (suc k) d (omega arith) (omega arith)) (subst (λ (w : List X). Contains w (get_or some k d)) is (inside (suc k) d (omega arith)))) in
    let whole = ap length is ∙ length-append front (x ∷ back) in
    let others = length-append front back in
    omega (arith, fewer, whole, others)

-- names that differ, and one that is none of them
pub AreDistinct-push : (names : List (List ℕ)) (name : List ℕ) → AreDistinct names → (Contains names name → ⊥) → AreDistinct (names ++ name ∷ [])
AreDistinct-push names name distinct new i j i_in j_in same =
    let more = length_push names name in
    elim (cases_lt i (length names)) [
      | inl i_old ↦ elim (cases_lt j (length names)) [
        | inl j_old ↦ distinct i j i_old j_old (sym (old i i_old) ∙ same ∙ old j j_old)
        | inr j_last ↦ absurd (is_new i i_old (sym (old i i_old) ∙ same ∙ last j (omega (arith, more, j_in))))
      ]
      | inr i_last ↦ elim (cases_lt j (length names)) [
        | inl j_old ↦ absurd (is_new j j_old (sym (old j j_old) ∙ sym same ∙ last i (omega (arith, more, i_in))))
        | inr j_last ↦ omega (arith, more, i_in, j_in)
      ]
    ]
  where
    old : (k : ℕ) → k < length names → get_or (names ++ name ∷ []) k [] ≡ get_or names k []
    old k within = get_or_append_left names (name ∷ []) [] k within

    last : (k : ℕ) → length names ≡ k → get_or (names ++ name ∷ []) k [] ≡ name
    last k is = get_or_push names name [] k is

    is_new : (k : ℕ) → k < length names → get_or names k [] ≡ name → ⊥
    is_new k within is = new (k, within, get_or_default names k name [] within ∙ is)

pub GrowBy-none : (names : List (List ℕ)) → GrowBy names [] names
GrowBy-none names = record {
  added = [];
  behind = sym (append-nil names);
  exact = λ name. (λ inside. Contains-append_left names [] name inside, λ inside. subst (λ (w : List (List ℕ)). Contains w name) (append-nil names) inside);
}

pub GrowBy-more : (old xs between ys new : List (List ℕ)) → GrowBy old xs between → GrowBy between ys new → GrowBy old (xs ++ ys) new
GrowBy-more old xs between ys new first second = record {
  added = first.added ++ second.added;
  behind = second.behind ∙ ap (λ w. w ++ second.added) first.behind ∙ append_assoc old first.added second.added;
  exact = λ name. (λ inside. forth name ((second.exact name).0 inside), λ inside. (second.exact name).1 (back name inside));
}
  where
    forth : (name : List ℕ) → Contains (between ++ ys) name → Contains (old ++ (xs ++ ys)) name
    forth name inside = elim (Contains-append_cases between ys name inside) [
      | inl here ↦ elim (Contains-append_cases old xs name ((first.exact name).0 here)) [
        | inl kept ↦ Contains-append_left old (xs ++ ys) name kept
        | inr more ↦ Contains-append_right old (xs ++ ys) name (Contains-append_left xs ys name more)
      ]
      | inr there ↦ Contains-append_right old (xs ++ ys) name (Contains-append_right xs ys name there)
    ]

    back : (name : List ℕ) → Contains (old ++ (xs ++ ys)) name → Contains (between ++ ys) name
    back name inside = elim (Contains-append_cases old (xs ++ ys) name inside) [
      | inl kept ↦ Contains-append_left between ys name ((first.exact name).1 (Contains-append_left old xs name kept))
      | inr more ↦ elim (Contains-append_cases xs ys name more) [
        | inl here ↦ Contains-append_left between ys name ((first.exact name).1 (Contains-append_right old xs name here))
        | inr there ↦ Contains-append_right between ys name there
      ]
    ]

-- a held name, and one that comes behind the others
pub GrowBy-held : (names : List (List ℕ)) (name : List ℕ) → Contains names name → GrowBy names (name ∷ []) names
GrowBy-held names name held = record {
  added = [];
  behind = sym (append-nil names);
  exact = λ other. (
    λ inside. Contains-append_left names (name ∷ []) other inside,
    λ inside. elim (Contains-append_cases names (name ∷ []) other inside) [
      | inl here ↦ here
      | inr one ↦ elim (Contains-cases name [] other one) [
        | inl same ↦ subst (Contains names) (sym same) held
        | inr none ↦ absurd (Contains-none other none)
      ]
    ],
  );
}

pub GrowBy-new : (names : List (List ℕ)) (name : List ℕ) → GrowBy names (name ∷ []) (names ++ name ∷ [])
GrowBy-new names name = record { added = name ∷ []; behind = refl; exact = λ other. (λ inside. inside, λ inside. inside) }

-- an item keeps its name
pub name_of-grown : (old names new : List (List ℕ)) (item : Item) → GrowBy old names new → HasName old item → name_of new item ≡ name_of old item
name_of-grown old names new item grown has = ap (λ w. name_of w item) grown.behind ∙ get_or_append_left old grown.added [] item.0 has

pub HasName-grown : (old names new : List (List ℕ)) (item : Item) → GrowBy old names new → HasName old item → HasName new item
HasName-grown old names new item grown has = let more = ap length grown.behind ∙ length-append old grown.added in omega (arith, more, has)

-- where so many names hold all, there are no more
pub no_more_names : (n : ℕ) (old names new : List (List ℕ)) → GrowBy old names new → length new ≤ n → HasMoreNames n (old ++ names) → ⊥
no_more_names n old names new grown few (some, apart, inside, more) =
    let fit = distinct_fit some new apart (λ k d within. (grown.exact (get_or some k d)).1 (inside k d within)) in omega (arith, fit, few, more)

-- so many different names and another one are more
pub more_names : (n : ℕ) (names all : List (List ℕ)) (name : List ℕ) → AreDistinct names → length names ≡ n → (Contains names name → ⊥) → ((other : List ℕ) → Contains names other → Contains all other)
    → Contains all name → HasMoreNames n all
more_names n names all name distinct full new within is = (names ++ name ∷ [], apart, inside, let more = length_push names name in omega (arith, more, full))
  where
    apart : AllPairs (λ a b. a ≢ b) (names ++ name ∷ [])
    apart = all_pairs_push (λ a b. a ≢ b) names name
        (λ i j d lt within_j same.
        let alike : get_or names i [] ≡ get_or names j [] = sym (get_or_default names i d [] (omega arith)) ∙ same ∙ get_or_default names j d [] within_j in
        let one : i ≡ j = distinct i j (omega arith) within_j alike in omega arith)
        (λ k d lt same. new (k, lt, get_or_default names k name d lt ∙ same))

    inside : All (λ a. Contains all a) (names ++ name ∷ [])
    inside = All-push (λ a. Contains all a) names name (λ k d lt. within (get_or names k d) (Contains-get_or names k d lt)) is

-- a name that is held has a number
pub number-of : (names : List (List ℕ)) (name : List ℕ) → Contains names name → (w : Item) × HasName names w × (name ≡ name_of names w)
number-of [] name inside = absurd (Contains-none name inside)
number-of (first ∷ names) name inside = elim (Contains-cases first names name inside) [
  | inl same ↦ (record { 0 = 0 }, omega arith, same)
  | inr other ↦ let (w, held, same) = number-of names name other in (record { 0 = suc w.0 }, omega (arith, held), same)
]
