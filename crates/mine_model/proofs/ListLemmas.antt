-- Lemmas on lists, what is contained in them and what holds of each element.
use Rattle.std.proofs.Common.{◌≡◌, ◌≢◌, ◌⊎◌, inl, inr, Bool, true, false, cond, Option, Some, None, List, [], ◌∷◌, ◌++◌, map, filter, length, get_or, take, drop, refl, sym, ap, ◌∙◌, subst, arith, suc, zero, true≢false, ℕ, ◌<◌, ◌+◌}
use Rattle.std.specs.List.{AllByRecursion, AllPairs, Contains, list_any, filter_map, cons_option, All}
use Rattle.std.proofs.Math.Seq.{take-append_seam}
use Rattle.std.proofs.lemmas.List.{get_or_default, append-nil, map-append, get_or-map, length-map, get_or_append_left, length-append}
use Rattle.std.proofs.lemmas.Bool.{cases_Bool}
use Rattle.std.proofs.lemmas.List.Elements.{Contains-append_cases}
use Rattle.std.proofs.lemmas.List.Kept.{AllPairs-cons}
pub use Rattle.flat_lists.proofs.CutLemmas.{slice_range-append}
use Rattle.mine_model.specs.Lists.{AddsTo}

-- an element is the first or one of the others
pub Contains-cases : {X : Type 0} (x : X) (xs : List X) (y : X) → Contains (x ∷ xs) y → (y ≡ x) ⊎ Contains xs y
Contains-cases x xs y (zero, lt, is) = inl (sym is)
Contains-cases x xs y (suc k, lt, is) = inr (k, omega arith, is)

pub Contains-first : {X : Type 0} (x : X) (xs : List X) → Contains (x ∷ xs) x
Contains-first x xs = (0, omega arith, refl)

pub Contains-other : {X : Type 0} (x : X) (xs : List X) (y : X) → Contains xs y → Contains (x ∷ xs) y
Contains-other x xs y (k, lt, is) = (suc k, omega arith, is)

pub Contains-none : {X : Type 0} (y : X) → Contains [] y → ⊥
Contains-none y (k, lt, is) = omega arith

-- what holds of each element holds of one that is contained
pub AllByRecursion-contained : {X : Type 0} (P : X → Type 0) (xs : List X) (y : X) → AllByRecursion P xs → Contains xs y → P y
AllByRecursion-contained P [] y all (k, lt, is) = absurd (omega arith)
AllByRecursion-contained P (x ∷ xs) y all inside =
    elim (Contains-cases x xs y inside) [
      | inl same ↦ subst P (sym same) all.0
      | inr other ↦ AllByRecursion-contained P xs y all.1 other
    ]

-- what holds of one that is contained holds of each element
pub AllByRecursion-from : {X : Type 0} (P : X → Type 0) (xs : List X) → ((x : X) → Contains xs x → P x) → AllByRecursion P xs
AllByRecursion-from P [] each = tt
AllByRecursion-from P (x ∷ xs) each = (each x (Contains-first x xs), AllByRecursion-from P xs (λ y held. each y (Contains-other x xs y held)))

pub all-from : {X : Type 0} (P : X → Type 0) (xs : List X) → ((x : X) → Contains xs x → P x) → All P xs
all-from P xs each k d below = each (get_or xs k d) (k, below, get_or_default xs k (get_or xs k d) d below)

-- where an element stands
pub cut_at : {X : Type 0} (xs : List X) (x : X) → Contains xs x → (front : List X) × (back : List X) × (xs ≡ front ++ x ∷ back)
cut_at [] x inside = absurd (Contains-none x inside)
cut_at (y ∷ xs) x inside = elim (Contains-cases y xs x inside) [
  | inl same ↦ ([], xs, ap (λ z. z ∷ xs) (sym same))
  | inr other ↦ let (front, back, is) = cut_at xs x other in (y ∷ front, back, ap (λ w. y ∷ w) is)
]

-- what holds of each element where P does
pub AllByRecursion-weaker : {X : Type 0} (P Q : X → Type 0) → ((x : X) → P x → Q x) → (xs : List X) → AllByRecursion P xs → AllByRecursion Q xs
AllByRecursion-weaker P Q follows [] all = tt
AllByRecursion-weaker P Q follows (x ∷ xs) all = (follows x all.0, AllByRecursion-weaker P Q follows xs all.1)

-- P holds of both parts of a list of which it holds
pub front_of_both : {X : Type 0} (P : X → Type 0) (xs ys : List X) → AllByRecursion P (xs ++ ys) → AllByRecursion P xs
front_of_both P [] ys all = tt
front_of_both P (x ∷ xs) ys all = (all.0, front_of_both P xs ys all.1)

pub back_of_both : {X : Type 0} (P : X → Type 0) (xs ys : List X) → AllByRecursion P (xs ++ ys) → AllByRecursion P ys
back_of_both P [] ys all = all
back_of_both P (x ∷ xs) ys all = back_of_both P xs ys all.1

pub of_both : {X : Type 0} (P : X → Type 0) (xs ys : List X) → AllByRecursion P xs → AllByRecursion P ys → AllByRecursion P (xs ++ ys)
of_both P [] ys p q = q
of_both P (x ∷ xs) ys p q = (p.0, of_both P xs ys p.1 q)

-- the image of an element is an element of a mapped list
pub Contains-by : {X Y : Type 0} (f : X → Y) (xs : List X) (x : X) → Contains xs x → Contains (map f xs) (f x)
Contains-by f [] x inside = absurd (Contains-none x inside)
Contains-by f (y ∷ xs) x inside = elim (Contains-cases y xs x inside) [
  | inl here ↦ subst (λ w. Contains (f y ∷ map f xs) (f w)) (sym here) (Contains-first (f y) (map f xs))
  | inr there ↦ Contains-other (f y) (map f xs) (f x) (Contains-by f xs x there)
]

-- an element of a mapped list is the image of an element
pub Contains-from : {X Y : Type 0} (f : X → Y) (xs : List X) (y : Y) → Contains (map f xs) y → (x : X) × Contains xs x × (y ≡ f x)
Contains-from f [] y inside = absurd (Contains-none y inside)
Contains-from f (x ∷ xs) y inside = elim (Contains-cases (f x) (map f xs) y inside) [
  | inl here ↦ (x, Contains-first x xs, here)
  | inr there ↦ let (z, held, same) = Contains-from f xs y there in (z, Contains-other x xs z held, same)
]

-- functions that give the same of each element give the same list
pub map-same : {X Y : Type 0} (f g : X → Y) (xs : List X) → ((x : X) → Contains xs x → f x ≡ g x) → map f xs ≡ map g xs
map-same f g [] same = refl
map-same f g (x ∷ xs) same = λ i. same x (Contains-first x xs) i ∷ map-same f g xs (λ y held. same y (Contains-other x xs y held)) i

-- what a filter leaves are the elements that pass
pub Contains-filter : {X : Type 0} (p : X → Bool) (xs : List X) (x : X) → Contains (filter p xs) x → Contains xs x × (p x ≡ true)
Contains-filter p [] x inside = absurd (Contains-none x inside)
Contains-filter {X} p (y ∷ xs) x inside =
    elim (p y) as (λ b. (p y ≡ b) → Contains (cond b (y ∷ filter p xs) (filter p xs)) x → Contains (y ∷ xs) x × (p x ≡ true)) [
      | true ↦ λ e h. elim (Contains-cases y (filter p xs) x h) [
        | inl same ↦ (subst (Contains (y ∷ xs)) (sym same) (Contains-first y xs), subst (λ z. p z ≡ true) (sym same) e)
        | inr other ↦ let rest = Contains-filter p xs x other in (Contains-other y xs x rest.0, rest.1)
      ]
      | false ↦ λ e h. let rest = Contains-filter p xs x h in (Contains-other y xs x rest.0, rest.1)
    ] refl inside

pub filter-Contains : {X : Type 0} (p : X → Bool) (xs : List X) (x : X) → Contains xs x → p x ≡ true → Contains (filter p xs) x
filter-Contains p [] x inside passes = absurd (Contains-none x inside)
filter-Contains {X} p (y ∷ xs) x inside passes =
    elim (p y) as (λ b. (p y ≡ b) → Contains (cond b (y ∷ filter p xs) (filter p xs)) x) [
      | true ↦ λ e. elim (Contains-cases y xs x inside) [
        | inl same ↦ subst (Contains (y ∷ filter p xs)) (sym same) (Contains-first y (filter p xs))
        | inr other ↦ Contains-other y (filter p xs) x (filter-Contains p xs x other passes)
      ]
      | false ↦ λ e. elim (Contains-cases y xs x inside) [
        | inl same ↦ absurd (true≢false (sym passes ∙ ap p same ∙ e))
        | inr other ↦ filter-Contains p xs x other passes
      ]
    ] refl

-- Lists of different elements

pub AllPairs-tail : {X : Type 0} (R : X → X → Type 0) (x : X) (xs : List X) → AllPairs R (x ∷ xs) → AllPairs R xs
AllPairs-tail R x xs pairs i j d less within = pairs (suc i) (suc j) d (omega arith) (omega arith)

-- the first element with each other one
pub AllPairs-head : {X : Type 0} (R : X → X → Type 0) (x : X) (xs : List X) → AllPairs R (x ∷ xs) → (y : X) → Contains xs y → R x y
AllPairs-head R x xs pairs y (k, below, is) = subst (R x) is (pairs 0 (suc k) y (omega arith) (omega arith))

pub AllPairs-append : {X : Type 0} (R : X → X → Type 0) (xs ys : List X) → AllPairs R xs → AllPairs R ys
    → ((x y : X) → Contains xs x → Contains ys y → R x y) → AllPairs R (xs ++ ys)
AllPairs-append R [] ys left right across = right
AllPairs-append R (x ∷ xs) ys left right across =
    AllPairs-cons R x (xs ++ ys)
    (λ k d below. elim (Contains-append_cases xs ys (get_or (xs ++ ys) k d) (k, below, get_or_default (xs ++ ys) k (get_or (xs ++ ys) k d) d below)) [
      | inl here ↦ AllPairs-head R x xs left (get_or (xs ++ ys) k d) here
      | inr there ↦ across x (get_or (xs ++ ys) k d) (Contains-first x xs) there
    ])
    (AllPairs-append R xs ys (AllPairs-tail R x xs left) right (λ y z here there. across y z (Contains-other x xs y here) there))

-- what holds of each element and each later one holds within a front
pub pairs-front : {X : Type 0} (R : X → X → Type 0) (xs ys : List X) → AllPairs R (xs ++ ys) → AllPairs R xs
pairs-front R xs ys pairs i j d less within =
    let all : length (xs ++ ys) ≡ length xs + length ys = length-append xs ys in
    subst (λ (x : _). R x (get_or xs j d)) (get_or_append_left xs ys d i (omega arith))
    (subst (R (get_or (xs ++ ys) i d)) (get_or_append_left xs ys d j within) (pairs i j d less (omega arith)))

-- and within what is behind it
pub pairs-back : {X : Type 0} (R : X → X → Type 0) (xs ys : List X) → AllPairs R (xs ++ ys) → AllPairs R ys
pairs-back R [] ys pairs = pairs
pairs-back R (x ∷ xs) ys pairs = pairs-back R xs ys (AllPairs-tail R x (xs ++ ys) pairs)

-- what holds of each element and each later one holds of their images
pub pairs-mapped : {X Y : Type 0} (f : X → Y) (R : Y → Y → Type 0) (xs : List X) → AllPairs (λ x y. R (f x) (f y)) xs → AllPairs R (map f xs)
pairs-mapped f R [] pairs i j d less within = absurd (omega arith)
pairs-mapped f R (x ∷ xs) pairs i j d less within =
    let long : length (map f (x ∷ xs)) ≡ length (x ∷ xs) = length-map (x ∷ xs) f in
    let one : get_or (map f (x ∷ xs)) i d ≡ f (get_or (x ∷ xs) i x) = get_or-map f (x ∷ xs) i x d (omega arith) in
    let other : get_or (map f (x ∷ xs)) j d ≡ f (get_or (x ∷ xs) j x) = get_or-map f (x ∷ xs) j x d (omega arith) in
    rw (one, other) (pairs i j x less (omega arith))

-- images of different elements are different, where no two have one image
pub apart_by_image : {X Y : Type 0} (f : X → Y) → ((x y : X) → f x ≡ f y → x ≡ y) → (xs : List X) → AllPairs (λ x y. x ≢ y) xs → AllPairs (λ x y. x ≢ y) (map f xs)
apart_by_image f one [] pairs = λ i j d less within. absurd (omega arith)
apart_by_image f one (x ∷ xs) pairs =
    AllPairs-cons (λ x y. x ≢ y) (f x) (map f xs)
    (λ k d below. λ same.
    let (y, held, is) = Contains-from f xs (get_or (map f xs) k d) (k, below, get_or_default (map f xs) k (get_or (map f xs) k d) d below) in
    AllPairs-head (λ x y. x ≢ y) x xs pairs y held (one x y (same ∙ is)))
    (apart_by_image f one xs (AllPairs-tail (λ x y. x ≢ y) x xs pairs))

-- the same of elements of the list alone
pub apart_within : {X Y : Type 0} (f : X → Y) (xs : List X) → ((x y : X) → Contains xs x → Contains xs y → f x ≡ f y → x ≡ y)
    → AllPairs (λ x y. x ≢ y) xs → AllPairs (λ x y. x ≢ y) (map f xs)
apart_within f [] one pairs = λ i j d less within. absurd (omega arith)
apart_within f (x ∷ xs) one pairs =
    AllPairs-cons (λ x y. x ≢ y) (f x) (map f xs)
    (λ k d below. λ same.
    let (y, held, is) = Contains-from f xs (get_or (map f xs) k d) (k, below, get_or_default (map f xs) k (get_or (map f xs) k d) d below) in
    AllPairs-head (λ x y. x ≢ y) x xs pairs y held (one x y (Contains-first x xs) (Contains-other x xs y held) (same ∙ is)))
    (apart_within f xs (λ y z here there same. one y z (Contains-other x xs y here) (Contains-other x xs z there) same) (AllPairs-tail (λ x y. x ≢ y) x xs pairs))

-- What a function gives of the elements, without those where it gives nothing

pub filter_map-forth : {X Y : Type 0} (f : X → Option Y) (xs : List X) (y : Y) → Contains (filter_map f xs) y → (x : X) × Contains xs x × (f x ≡ Some y)
filter_map-forth f [] y held = absurd (Contains-none y held)
filter_map-forth {X} {Y} f (x ∷ xs) y held = go (f x) refl (filter_map-forth f xs y) held
  where
    go : (o : Option Y) → f x ≡ o → (Contains (filter_map f xs) y → (z : X) × Contains xs z × (f z ≡ Some y))
        → Contains (cons_option o (filter_map f xs)) y → (z : X) × Contains (x ∷ xs) z × (f z ≡ Some y)
    go None gives rest held = let (z, inside, same) = rest held in (z, Contains-other x xs z inside, same)
    go (Some v) gives rest held = elim (Contains-cases v (filter_map f xs) y held) [
      | inl here ↦ (x, Contains-first x xs, gives ∙ ap Some (sym here))
      | inr there ↦ (let (z, inside, same) = rest there in (z, Contains-other x xs z inside, same))
    ]

pub filter_map-back : {X Y : Type 0} (f : X → Option Y) (xs : List X) (x : X) (y : Y) → Contains xs x → f x ≡ Some y → Contains (filter_map f xs) y
filter_map-back f [] x y held gives = absurd (Contains-none x held)
filter_map-back {X} {Y} f (z ∷ xs) x y held gives = elim (Contains-cases z xs x held) [
  | inl here ↦ subst (λ o. Contains (cons_option o (filter_map f xs)) y) (sym (ap f (sym here) ∙ gives)) (Contains-first y (filter_map f xs))
  | inr there ↦ behind (f z) (filter_map-back f xs x y there gives)
]
  where
    behind : (o : Option Y) → Contains (filter_map f xs) y → Contains (cons_option o (filter_map f xs)) y
    behind None inside = inside
    behind (Some v) inside = Contains-other v (filter_map f xs) y inside

-- what holds of each two of them, where something holds of each two elements
pub filter_map-pairs : {X Y : Type 0} (R : X → X → Type 0) (S : Y → Y → Type 0) (f : X → Option Y) (xs : List X)
    → ((x z : X) (u v : Y) → Contains xs x → Contains xs z → f x ≡ Some u → f z ≡ Some v → R x z → S u v)
    → AllPairs R xs → AllPairs S (filter_map f xs)
filter_map-pairs R S f [] follows pairs = λ i j d less within. absurd (omega (arith, within))
filter_map-pairs {X} {Y} R S f (x ∷ xs) follows pairs =
    go (f x) refl (filter_map-pairs R S f xs (λ y z u v here there. follows y z u v (Contains-other x xs y here) (Contains-other x xs z there)) (AllPairs-tail R x xs pairs))
  where
    go : (o : Option Y) → f x ≡ o → AllPairs S (filter_map f xs) → AllPairs S (cons_option o (filter_map f xs))
    go None gives rest = rest
    go (Some u) gives rest =
        AllPairs-cons S u (filter_map f xs)
        (λ k d below.
        let v : Y = get_or (filter_map f xs) k d in
        let (z, inside, same) = filter_map-forth f xs v (k, below, get_or_default (filter_map f xs) k v d below) in
        follows x z u v (Contains-first x xs) (Contains-other x xs z inside) gives same (AllPairs-head R x xs pairs z inside))
        rest

-- what a slice of all elements wrote back is the whole
pub written_back : {X : Type 0} (new old : List X) (n : ℕ) → n ≡ length new → take n (new ++ drop (length new) old) ≡ new
written_back new old n whole = ap (λ m. take m (new ++ drop (length new) old)) whole ∙ take-append_seam new (drop (length new) old)

-- lists that rise in one order and have the same members are one
module _ {X : Type 0} (R : X → X → Type 0) (one_way : (x y : X) → R x y → R y x → ⊥) where
  heads-same : (x y : X) (xs ys : List X) → AllPairs R (x ∷ xs) → AllPairs R (y ∷ ys) → Contains (y ∷ ys) x → Contains (x ∷ xs) y → x ≡ y
  heads-same x y xs ys left right there back = elim (Contains-cases y ys x there) [
    | inl same ↦ same
    | inr behind ↦ elim (Contains-cases x xs y back) [
      | inl same ↦ sym same
      | inr later ↦ absurd (one_way x y (AllPairs-head R x xs left y later) (AllPairs-head R y ys right x behind))
    ]
  ]

  tails-within : (x y : X) (xs ys : List X) → x ≡ y → AllPairs R (x ∷ xs) → ((z : X) → Contains (x ∷ xs) z → Contains (y ∷ ys) z)
      → (z : X) → Contains xs z → Contains ys z
  tails-within x y xs ys same rising there z held = elim (Contains-cases y ys z (there z (Contains-other x xs z held))) [
    | inl first ↦
        let less : R x z = AllPairs-head R x xs rising z held in
        let self : R x x = subst (R x) (first ∙ sym same) less in
        absurd (one_way x x self self)
    | inr later ↦ later
  ]

  pub order-same : (xs ys : List X) → AllPairs R xs → AllPairs R ys → ((z : X) → Contains xs z → Contains ys z) → ((z : X) → Contains ys z → Contains xs z) → xs ≡ ys
  order-same [] [] left right there back = refl
  order-same [] (y ∷ ys) left right there back = absurd (Contains-none y (back y (Contains-first y ys)))
  order-same (x ∷ xs) [] left right there back = absurd (Contains-none x (there x (Contains-first x xs)))
  order-same (x ∷ xs) (y ∷ ys) left right there back =
      let first : x ≡ y = heads-same x y xs ys left right (there x (Contains-first x xs)) (back y (Contains-first y ys)) in
      let rest : xs ≡ ys = order-same xs ys (AllPairs-tail R x xs left) (AllPairs-tail R y ys right)
      (tails-within x y xs ys first left there) (tails-within y x ys xs (sym first) right back) in
      λ i. first i ∷ rest i

-- two rising lists of the same numbers are one
pub rising_same : (xs ys : List ℕ) → AllPairs (λ low high. low < high) xs → AllPairs (λ low high. low < high) ys
    → ((n : ℕ) → Contains xs n → Contains ys n) → ((n : ℕ) → Contains ys n → Contains xs n) → xs ≡ ys
rising_same = order-same (λ low high. low < high) (λ low high less more. omega (arith, less, more))

-- a list is empty or has a last element
pub last-cases : {X : Type 0} (xs : List X) → (xs ≡ []) ⊎ ((front : List X) × (last : X) × (xs ≡ front ++ last ∷ []))
last-cases [] = inl refl
last-cases (x ∷ xs) = elim (last-cases xs) [
  | inl none ↦ inr ([], x, ap (λ l. x ∷ l) none)
  | inr some ↦ (let (front, last, same) = some in inr (x ∷ front, last, ap (λ l. x ∷ l) same))
]

-- what an insertion into a set of keys adds
pub AddsTo-inserted : {X Y : Type 0} (f : X → Y) (eq : X → X → Bool) (ks after : List X) (k : X) → after ≡ cond (list_any (eq k) ks) ks (ks ++ k ∷ [])
    → AddsTo (map f ks) (f k) (map f after)
AddsTo-inserted f eq ks after k are = elim (cases_Bool (list_any (eq k) ks)) [
  | inl there ↦ ([], (rw (are, there) (sym (append-nil (map f ks)))), (λ y none. absurd (Contains-none y none)))
  | inr new ↦ (f k ∷ [], (rw (are, new) (map-append f ks (k ∷ []))), (λ y last. elim (Contains-cases (f k) [] y last) [ inl same ↦ same | inr none ↦ absurd (Contains-none y none) ]))
]
