-- Sums of lists that grow.
use Rattle.std.proofs.Common.{◌≡◌, ℕ, zero, suc, ◌+◌, ◌<◌, ◌⊎◌, inl, inr, Bool, true, false, cond, nat_eq, Some, List, [], ◌∷◌, ◌++◌, length, set, get_or, slice_get, refl, sym, ap, subst, ◌∙◌, arith, true≢false}
use Rattle.std.specs.List.{Contains}
use Rattle.std.specs.Cmp.Lexicographic.{pointwise}
use Rattle.std.proofs.lemmas.List.{append-nil, length_push}
use Rattle.std.proofs.lemmas.Option.{none-some, same_Some, slice_get_within, slice_get-get_or, get_or_from_slice_get}
use Rattle.mine_model.specs.Names.{AreDistinct}
use Rattle.mine_model.proofs.ListLemmas.{Contains-cases, Contains-none}
use Rattle.mine_model.proofs.ElementLemmas.{get_set_same, decides}
use Rattle.prefix_counts.specs.Prefixes.{Prefixes, ArePrefixes}
use Rattle.pattern_counts.specs.Tally.{sum_in}
use Rattle.prefix_counts.specs.Sums.{sum_of, IsTaken}

-- ---- beside a list

pub test-same : (xs ys : List ℕ) → xs ≡ ys → pointwise nat_eq xs ys ≡ true
test-same xs ys is = (decides xs ys).1 is

pub test-apart : (xs ys : List ℕ) → (xs ≡ ys → ⊥) → pointwise nat_eq xs ys ≡ false
test-apart xs ys apart =
    elim (pointwise nat_eq xs ys) as (λ b. (pointwise nat_eq xs ys ≡ b) → b ≡ false) [
      | true ↦ λ e. absurd (apart ((decides xs ys).0 e))
      | false ↦ λ e. refl
    ] refl

pub either-none : (b : Bool) (n : ℕ) → cond b n n ≡ n
either-none true n = refl
either-none false n = refl

-- a list behind the others, with no sum
sum-new : (lists : List (List ℕ)) (sums : List ℕ) (new list : List ℕ) → length sums ≡ length lists
    → sum_in (lists ++ new ∷ []) (sums ++ 0 ∷ []) list ≡ sum_in lists sums list
sum-new [] [] new list long = either-none (pointwise nat_eq new list) 0
sum-new [] (sum ∷ sums) new list long = absurd (omega (arith, long))
sum-new (first ∷ lists) [] new list long = absurd (omega (arith, long))
sum-new (first ∷ lists) (sum ∷ sums) new list long =
    ap (λ (n : ℕ). cond (pointwise nat_eq first list) sum n) (sum-new lists sums new list (omega (arith, long)))

-- of lists that are different the first is no later one, and the others are different
pub distinct-first : (first : List ℕ) (lists : List (List ℕ)) (k : ℕ) (list : List ℕ) → AreDistinct (first ∷ lists) → slice_get lists k ≡ Some list → first ≡ list → ⊥
distinct-first first lists k list distinct at same =
    let inside : k < length lists = slice_get_within lists k list at in
    let one : 0 ≡ suc k = distinct 0 (suc k) (omega arith) (omega (arith, inside)) (same ∙ sym (get_or_from_slice_get lists k list [] at)) in
    omega (arith, one)

pub distinct-rest : (first : List ℕ) (lists : List (List ℕ)) → AreDistinct (first ∷ lists) → AreDistinct lists
distinct-rest first lists distinct = λ i j i_in j_in same.
    (let next : suc i ≡ suc j = distinct (suc i) (suc j) (omega (arith, i_in)) (omega (arith, j_in)) same in omega (arith, next))

sum-here : (lists : List (List ℕ)) (sums : List ℕ) (k : ℕ) (list : List ℕ) (sum : ℕ) → AreDistinct lists → slice_get lists k ≡ Some list → slice_get sums k ≡ Some sum
    → sum_in lists sums list ≡ sum
sum-here [] sums k list sum distinct at is = absurd (none-some list at)
sum-here (first ∷ lists) [] k list sum distinct at is = absurd (none-some sum is)
sum-here (first ∷ lists) (s ∷ sums) zero list sum distinct at is =
    ap (λ (b : Bool). cond b s (sum_in lists sums list)) (test-same first list (same_Some first list at)) ∙ same_Some s sum is
sum-here (first ∷ lists) (s ∷ sums) (suc k) list sum distinct at is =
    ap (λ (b : Bool). cond b s (sum_in lists sums list)) (test-apart first list (distinct-first first lists k list distinct at))
    ∙ sum-here lists sums k list sum (distinct-rest first lists distinct) at is

sum-other : (lists : List (List ℕ)) (sums : List ℕ) (k : ℕ) (here list : List ℕ) (sum : ℕ) → slice_get lists k ≡ Some here → (list ≡ here → ⊥)
    → sum_in lists (set sums k sum) list ≡ sum_in lists sums list
sum-other [] sums k here list sum at other = refl
sum-other (first ∷ lists) [] k here list sum at other = refl
sum-other (first ∷ lists) (s ∷ sums) zero here list sum at other =
    let never : pointwise nat_eq first list ≡ false = test-apart first list (λ same. other (sym same ∙ same_Some first here at)) in
    ap (λ (b : Bool). cond b sum (sum_in lists sums list)) never ∙ sym (ap (λ (b : Bool). cond b s (sum_in lists sums list)) never)
sum-other (first ∷ lists) (s ∷ sums) (suc k) here list sum at other =
    ap (λ (n : ℕ). cond (pointwise nat_eq first list) s n) (sum-other lists sums k here list sum at other)

-- ---- by numbers

-- the sum of the list with a number
pub sum-at : (prefixes : Prefixes) (number : ℕ) (list : List ℕ) → ArePrefixes prefixes → slice_get prefixes.lists number ≡ Some list
    → slice_get prefixes.sums number ≡ Some (sum_of prefixes list)
sum-at prefixes number list are at =
    let inside : number < length prefixes.sums = omega (arith, slice_get_within prefixes.lists number list at, are.each) in
    let there : slice_get prefixes.sums number ≡ Some (get_or prefixes.sums number 0) = slice_get-get_or prefixes.sums number 0 inside in
    there ∙ ap (λ (n : ℕ). Some n) (sym (sum-here prefixes.lists prefixes.sums number list (get_or prefixes.sums number 0) are.distinct at there))

-- a list that ends with a rank is not the first
pub not-first : (prefixes : Prefixes) (number rank : ℕ) (list : List ℕ) → ArePrefixes prefixes → slice_get prefixes.lists number ≡ Some (list ++ rank ∷ []) → 0 < number
not-first prefixes zero rank list are at =
    let none : [] ≡ list ++ rank ∷ [] = same_Some [] (list ++ rank ∷ []) (sym are.first ∙ at) in
    absurd (omega (arith, ap (λ (xs : List ℕ). length xs) none, length_push list rank))
not-first prefixes (suc number) rank list are at = omega arith

-- ---- one list more

-- as the number of a longer list is told
abbrev pub IsGrown : Prefixes → Prefixes → ℕ → ℕ → Type 0
IsGrown before after number rank =
    (after ≡ before) ⊎ ((list : List ℕ) × (slice_get before.lists number ≡ Some list)
    × (after.lists ≡ before.lists ++ (list ++ rank ∷ []) ∷ []) × (after.sums ≡ before.sums ++ 0 ∷ []))

pub grown-sums : (before after : Prefixes) (number rank : ℕ) → IsGrown before after number rank → ArePrefixes after → (other : List ℕ)
    → sum_of after other ≡ sum_of before other
grown-sums before after number rank (inl same) are other = ap (λ (p : Prefixes). sum_of p other) same
grown-sums before after number rank (inr (list, at, lists, sums)) are other =
    let new : List ℕ = list ++ rank ∷ [] in
    let more_lists : length after.lists ≡ length before.lists + 1 = ap (λ (xs : List (List ℕ)). length xs) lists ∙ length_push before.lists new in
    let more_sums : length after.sums ≡ length before.sums + 1 = ap (λ (xs : List ℕ). length xs) sums ∙ length_push before.sums 0 in
    ap (λ (ls : List (List ℕ)). sum_in ls after.sums other) lists ∙ ap (λ (ss : List ℕ). sum_in (before.lists ++ new ∷ []) ss other) sums
    ∙ sum-new before.lists before.sums new other (omega (arith, are.each, more_lists, more_sums))

grown-kept : (before after : Prefixes) (number rank : ℕ) (list : List ℕ) → IsGrown before after number rank → slice_get before.lists number ≡ Some list
    → (more : List (List ℕ)) × (after.lists ≡ before.lists ++ more) × ((other : List ℕ) → Contains more other → other ≡ list ++ rank ∷ [])
grown-kept before after number rank list (inl same) at =
    ([], ap (λ (p : Prefixes). p.lists) same ∙ sym (append-nil before.lists), λ other held. absurd (Contains-none other held))
grown-kept before after number rank list (inr (one, there, lists, sums)) at = (
  (one ++ rank ∷ []) ∷ [],
  lists,
  λ other held. elim (Contains-cases (one ++ rank ∷ []) [] other held) [
    | inl same ↦ same ∙ ap (λ (xs : List ℕ). xs ++ rank ∷ []) (same_Some one list (sym there ∙ at))
    | inr none ↦ absurd (Contains-none other none)
  ],
)

-- what adding to a sum leaves
abbrev pub IsRaised : Prefixes → Prefixes → ℕ → ℕ → Bool → Type 0
IsRaised before after number weight ends =
    ((ends ≡ false) × (after ≡ before))
    ⊎ ((ends ≡ true) × (after.lists ≡ before.lists) × (after.sums ≡ set before.sums number (get_or before.sums number 0 + weight)))

module _ (before mid after : Prefixes) (number rank place weight : ℕ) (list : List ℕ) (grown : IsGrown before mid number rank) (are : ArePrefixes mid)
    (at : slice_get before.lists number ≡ Some list) (there : slice_get mid.lists place ≡ Some (list ++ rank ∷ [])) where
  pub taken-value : get_or mid.sums place 0 ≡ sum_of before (list ++ rank ∷ [])
  taken-value =
      get_or_from_slice_get mid.sums place (sum_of mid (list ++ rank ∷ [])) 0 (sum-at mid place (list ++ rank ∷ []) are there)
      ∙ grown-sums before mid number rank grown are (list ++ rank ∷ [])

  pub taken : (ends : Bool) → IsRaised mid after place weight ends → IsTaken (list ++ rank ∷ []) ends weight place before after
  taken ends (inl (never, same)) = record {
    number = subst (λ (p : Prefixes). slice_get p.lists place ≡ Some (list ++ rank ∷ [])) (sym same) there;
    kept =
        let (more, is, all) = grown-kept before mid number rank list grown at in
        (more, ap (λ (p : Prefixes). p.lists) same ∙ is, all);
    counted = λ does. absurd (true≢false (sym does ∙ never));
    others = λ other not. ap (λ (p : Prefixes). sum_of p other) same ∙ grown-sums before mid number rank grown are other;
  }
  taken ends (inr (does, lists, sums)) =
      let new : List ℕ = list ++ rank ∷ [] in
      let sum : ℕ = get_or mid.sums place 0 + weight in
      let whole : (other : List ℕ) → sum_of after other ≡ sum_in mid.lists (set mid.sums place sum) other = λ other.
      ap (λ (ls : List (List ℕ)). sum_in ls after.sums other) lists ∙ ap (λ (ss : List ℕ). sum_in mid.lists ss other) sums in
      record {
        number = subst (λ (ls : List (List ℕ)). slice_get ls place ≡ Some new) (sym lists) there;
        kept =
            let (more, is, all) = grown-kept before mid number rank list grown at in
            (more, lists ∙ is, all);
        counted = λ ends'.
            whole new
            ∙ sum-here mid.lists (set mid.sums place sum) place new sum are.distinct there (get_set_same mid.sums place (sum_of mid new) sum (sum-at mid place new are there))
            ∙ ap (λ (n : ℕ). n + weight) taken-value;
        others = λ other not.
            whole other ∙ sum-other mid.lists mid.sums place new other sum there (λ same. not same does) ∙ grown-sums before mid number rank grown are other;
      }
