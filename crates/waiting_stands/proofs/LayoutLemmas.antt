-- Lemmas on layouts, and on stands in them one behind another.
use Rattle.std.proofs.Common.{◌≡◌, ℕ, zero, suc, ◌+◌, ◌-◌, ◌≤◌, ◌<◌, ◌^◌, ◌⊎◌, inl, inr, Bool, Some, List, [], ◌∷◌, length, take, fold, get_or, refl, sym, ◌∙◌, ap, subst, arith}
use Rattle.std.specs.List.{All, AllPairs, AllZip, slice_get}
use Rattle.std.proofs.lemmas.Option.{slice_get_within, get_or_from_slice_get, slice_get-get_or}
use Rattle.packed_snapshots.specs.declared.snapshot.PlainSnapshot.{PlainSnapshot}
use Rattle.packed_snapshots.specs.declared.snapshot.Place.{Place}
use Rattle.packed_snapshots.specs.Snapshots.{place_of, start, last_place, IsBehind, RisesBehind}
use Rattle.place_walk.specs.declared.stand.Stand.{Stand}
use Rattle.waiting_stands.specs.Layouts.{IsLayout, IsStandOf, AreStandsOf, IsLastUpTo}

-- where numbers rise, a later one is not below
pub rising-le : (list : List ℕ) (i j : ℕ) → AllPairs (λ low high. low < high) list → i ≤ j → j < length list → get_or list i 0 ≤ get_or list j 0
rising-le list i j rising ordered within = by (apart i j ordered)
  where
    apart : (m n : ℕ) → m ≤ n → (m < n) ⊎ (m ≡ n)
    apart m n le = grind (arith)

    by : (i < j) ⊎ (i ≡ j) → get_or list i 0 ≤ get_or list j 0
    by (inl below) = let pair = rising i j 0 below within in omega (arith, pair)
    by (inr same) = let e : get_or list i 0 ≡ get_or list j 0 = ap (λ (k : ℕ). get_or list k 0) same in omega (arith, e)

-- and one that is not below is not before
pub rising-back : (list : List ℕ) (i j : ℕ) → AllPairs (λ low high. low < high) list → i < length list → get_or list i 0 ≤ get_or list j 0 → j < length list → i ≤ j
rising-back list i j rising within le there = by (apart i j)
  where
    apart : (m n : ℕ) → (n < m) ⊎ (m ≤ n)
    apart m n = grind (arith)

    by : (j < i) ⊎ (i ≤ j) → i ≤ j
    by (inl below) = let pair = rising j i 0 below within in absurd (omega (arith, pair, le))
    by (inr ordered) = ordered

-- the grid of a number is one
pub last-is : (list : List ℕ) (value index at : ℕ) → AllPairs (λ low high. low < high) list → IsLastUpTo list value index → at < length list → get_or list at 0 ≤ value → (at + 1 < length list → value < get_or list (at + 1) 0) → index ≡ at
last-is list value index at rising last within least most = by (apart index at)
  where
    apart : (m n : ℕ) → (m < n) ⊎ ((n < m) ⊎ (m ≡ n))
    apart m n = grind (arith)

    by : (index < at) ⊎ ((at < index) ⊎ (index ≡ at)) → index ≡ at
    by (inl below) =
        let long : index + 1 < length list = omega arith in
        let next = last.above long in
        let up = rising-le list (index + 1) at rising (let le : index + 1 ≤ at = omega arith in le) within in
        absurd (omega (arith, next, up, least))
    by (inr (inl above)) =
        let there = last.within in
        let long : at + 1 < length list = omega arith in
        let next = most long in
        let up = rising-le list (at + 1) index rising (let le : at + 1 ≤ index = omega arith in le) there in
        let not_above = last.not_above in
        absurd (omega (arith, next, up, not_above))
    by (inr (inr same)) = same

-- what is at an index of lists that belong together
pub zipped-at : {A B : Type 0} (R : A → B → Type 0) (xs : List A) (ys : List B) (i : ℕ) (y : B) → AllZip R xs ys → slice_get ys i ≡ Some y → (x : A) × (slice_get xs i ≡ Some x) × R x y
zipped-at R [] [] i y all is = absurd (cc)
zipped-at R [] (z ∷ ys) i y all is = absurd all
zipped-at R (x ∷ xs) [] i y all is = absurd all
zipped-at R (x ∷ xs) (z ∷ ys) zero y (first, more) is = (x, refl, subst (λ v. R x v) (let e : z ≡ y = cc in e) first)
zipped-at R (x ∷ xs) (z ∷ ys) (suc i) y (first, more) is = zipped-at R xs ys i y more is

-- each snapshot is behind those before it
pub rises-at : (before : Place) (list : List PlainSnapshot) (i : ℕ) (one : PlainSnapshot) → RisesBehind before list → slice_get list i ≡ Some one → IsBehind (fold (λ _ next. place_of next) before (take i list)) (place_of one)
rises-at before [] i one rises is = absurd (cc)
rises-at before (next ∷ more) zero one (behind, rises) is = subst (λ snapshot. IsBehind before (place_of snapshot)) (let e : next ≡ one = cc in e) behind
rises-at before (next ∷ more) (suc i) one (behind, rises) is = rises-at (place_of next) more i one rises is

-- where the next stand is, and that what was reached is not behind it
pub record IsNext (sequences starts : List ℕ) (list : List PlainSnapshot) (i grid : ℕ) (before : Place) (stand : Stand) : Type 0 where
  pub one : PlainSnapshot
  pub one_is : slice_get list i ≡ Some one
  pub is : IsStandOf sequences starts one stand
  pub behind : IsBehind before (place_of one)
  pub near : one.position < 2 ^ 16
  pub within : grid < length starts
  pub not_above : get_or starts grid 0 ≤ stand.place

-- the grid was reached by snapshots up to this place
pub record IsReached (sequences : List ℕ) (i grid : ℕ) (before : Place) : Type 0 where
  pub none : i ≡ 0 → grid ≡ 0
  pub some : 0 < i → slice_get sequences grid ≡ Some before.sequence

pub first-before : (sequences starts : List ℕ) (one : PlainSnapshot) (stand : Stand) (grid : ℕ) → IsLayout sequences starts → (is : IsStandOf sequences starts one stand) → grid ≤ is.grid → (grid < length starts) × (get_or starts grid 0 ≤ stand.place)
first-before sequences starts one stand grid layout is le =
    let there = slice_get_within sequences is.grid one.sequence is.sequence in
    let same = layout.same in
    let within : is.grid < length starts = omega (arith, there, same) in
    let up = rising-le starts grid is.grid layout.forward le within in
    let place = is.place in (
      omega (arith, le, within),
      omega (arith, up, place),
    )

pub next-grid : (sequences starts : List ℕ) (one : PlainSnapshot) (stand : Stand) (i grid : ℕ) (before : Place) → IsLayout sequences starts → (is : IsStandOf sequences starts one stand) → IsBehind before (place_of one) → IsReached sequences i grid before → grid ≤ is.grid
next-grid sequences starts one stand zero grid before layout is behind reached = let none = reached.none refl in omega (arith, none)
next-grid sequences starts one stand (suc i) grid before layout is behind reached =
    let at = reached.some (let some : 0 < suc i = omega arith in some) in
    let within = slice_get_within sequences grid before.sequence at in
    let there = slice_get_within sequences is.grid one.sequence is.sequence in
    let here = get_or_from_slice_get sequences grid before.sequence 0 at in
    let its = get_or_from_slice_get sequences is.grid one.sequence 0 is.sequence in
    let le = behind.sequence in
    rising-back sequences grid is.grid layout.rising within (let up : get_or sequences grid 0 ≤ get_or sequences is.grid 0 = omega (arith, here, its, le) in up) there

pub is-next : (sequences starts : List ℕ) (list : List PlainSnapshot) (stands : List Stand) (i grid : ℕ) (before : Place) (stand : Stand) → IsLayout sequences starts → AreStandsOf sequences starts list stands → slice_get stands i ≡ Some stand → last_place (take i list) ≡ before → IsReached sequences i grid before → IsNext sequences starts list i grid before stand
is-next sequences starts list stands i grid before stand layout are there last reached =
    let (one, one_is, is) = zipped-at (IsStandOf sequences starts) list stands i stand are.are there in
    let behind : IsBehind before (place_of one) = subst (λ place. IsBehind place (place_of one)) last (rises-at start list i one are.rising one_is) in
    let (within, not_above) = first-before sequences starts one stand grid layout is (next-grid sequences starts one stand i grid before layout is behind reached) in
    record {
      one = one;
      one_is = one_is;
      is = is;
      behind = behind;
      near = subst (λ snapshot. snapshot.position < 2 ^ 16) (get_or_from_slice_get list i one one one_is) (are.near i one (slice_get_within list i one one_is));
      within = within;
      not_above = not_above;
    }

-- the grid of the start that is the last up to its place is that of its sequence
pub at-start : (sequences starts : List ℕ) (one : PlainSnapshot) (stand : Stand) (at : ℕ) → IsLayout sequences starts → (is : IsStandOf sequences starts one stand) → IsLastUpTo starts stand.place at → at ≡ is.grid
at-start sequences starts one stand at layout is last =
    let there = slice_get_within sequences is.grid one.sequence is.sequence in
    let same = layout.same in
    let place = is.place in
    last-is starts stand.place at is.grid layout.forward last (omega (arith, there, same)) (omega (arith, place)) (λ long. is.room (get_or starts (is.grid + 1) 0) (slice_get-get_or starts (is.grid + 1) 0 long))

-- what is read of the next stand at its grid
pub record IsRead (sequences starts : List ℕ) (one : PlainSnapshot) (stand : Stand) (at : ℕ) : Type 0 where
  pub within : at < length sequences
  pub also : at < length starts
  pub sequence : get_or sequences at 0 ≡ one.sequence
  pub found : slice_get sequences at ≡ Some one.sequence
  pub least : get_or starts at 0 ≤ stand.place
  pub position : stand.place - get_or starts at 0 ≡ one.position

pub is-read : (sequences starts : List ℕ) (one : PlainSnapshot) (stand : Stand) (at : ℕ) → IsLayout sequences starts → IsStandOf sequences starts one stand → IsLastUpTo starts stand.place at → IsRead sequences starts one stand at
is-read sequences starts one stand at layout is last =
    let same = at-start sequences starts one stand at layout is last in
    let found : slice_get sequences at ≡ Some one.sequence = ap (slice_get sequences) same ∙ is.sequence in
    let its : get_or starts at 0 ≡ get_or starts is.grid 0 = ap (λ (k : ℕ). get_or starts k 0) same in
    let place = is.place in
    let there = slice_get_within sequences at one.sequence found in
    let long = layout.same in
    record {
      within = there;
      also = omega (arith, there, long);
      sequence = get_or_from_slice_get sequences at one.sequence 0 found;
      found = found;
      least = omega (arith, its, place);
      position = omega (arith, its, place);
    }

-- the snapshot that is read of a stand at its grid
abbrev pub read_at : (sequences starts : List ℕ) (at : ℕ) (stand : Stand) (seen : Bool) → PlainSnapshot
read_at sequences starts at stand seen = record {
  sequence = get_or sequences at 0;
  position = stand.place - get_or starts at 0;
  state = stand.state;
  seen = seen;
}

pub read-is : (sequences starts : List ℕ) (one : PlainSnapshot) (stand : Stand) (at : ℕ) (seen : Bool) → IsLayout sequences starts → IsStandOf sequences starts one stand → IsLastUpTo starts stand.place at → one.seen ≡ seen → read_at sequences starts at stand seen ≡ one
read-is sequences starts one stand at seen layout is last same =
    let read = is-read sequences starts one stand at layout is last in
    let sequence = read.sequence in
    let position = read.position in
    let state = is.state in
    λ i. record { sequence = sequence i; position = position i; state = state i; seen = sym same i }

pub read-place : (sequences starts : List ℕ) (one : PlainSnapshot) (stand : Stand) (at : ℕ) (seen : Bool) → IsLayout sequences starts → IsStandOf sequences starts one stand → IsLastUpTo starts stand.place at → place_of (read_at sequences starts at stand seen) ≡ place_of one
read-place sequences starts one stand at seen layout is last =
    let read = is-read sequences starts one stand at layout is last in
    let sequence = read.sequence in
    let position = read.position in
    λ i. record { sequence = sequence i; position = position i }

-- what each of a list has seen
pub seen-at : (list : List PlainSnapshot) (i : ℕ) (one : PlainSnapshot) (seen : Bool) → All (λ snapshot. snapshot.seen ≡ seen) list → slice_get list i ≡ Some one → one.seen ≡ seen
seen-at list i one seen all is = subst (λ snapshot. snapshot.seen ≡ seen) (get_or_from_slice_get list i one one is) (all i one (slice_get_within list i one is))
