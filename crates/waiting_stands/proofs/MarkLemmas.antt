-- Lemmas on marks.
use Rattle.std.proofs.Common.{◌≡◌, ◌≢◌, ℕ, suc, ◌+◌, ◌≤◌, ◌<◌, ◌↔◌, ◌⊎◌, inl, inr, Bool, true, false, IsTrue, Option, None, Some, List, [], ◌∷◌, ◌++◌, length, fold, get_or, refl, sym, ◌∙◌, ap, subst, arith}
use Rattle.std.specs.List.{All, slice_get}
use Rattle.std.proofs.lemmas.List.Elements.{All-contains, Contains-append_right}
use Rattle.std.proofs.lemmas.Option.{slice_get_within, get_or_from_slice_get}
use Rattle.packed_snapshots.specs.declared.snapshot.PlainSnapshot.{PlainSnapshot}
use Rattle.packed_snapshots.specs.declared.snapshot.Place.{Place}
use Rattle.packed_snapshots.specs.Snapshots.{place_of, start, IsBehind, RisesBehind}
use Rattle.place_walk.specs.declared.stand.Stand.{Stand}
use Rattle.waiting_stands.specs.Layouts.{IsLayout, IsStandOf, HasStand, AreMarked, IsLastUpTo}
use Rattle.waiting_stands.proofs.LayoutLemmas.{rising-le, rising-back, last-is}

-- the sequence of the last one
abbrev pub last_sequence : Option ℕ → List PlainSnapshot → Option ℕ
last_sequence before list = fold (λ _ one. Some one.sequence) before list

-- the grid was reached by these snapshots: it is the first where there are none
pub record IsReachedBy (sequences : List ℕ) (list : List PlainSnapshot) (first : Bool) (grid : ℕ) : Type 0 where
  pub none : IsTrue first → (list ≡ []) × (grid ≡ 0)
  pub some : first ≡ false → (sequence : ℕ) × (last_sequence None list ≡ Some sequence) × (slice_get sequences grid ≡ Some sequence)

-- one more stand
pub marked-more : (before : Option ℕ) (list : List PlainSnapshot) (stands : List Stand) (one : PlainSnapshot) (stand : Stand) → length stands ≡ length list → AreMarked before list stands → (IsTrue stand.first ↔ (last_sequence before list ≢ Some one.sequence)) → AreMarked before (list ++ one ∷ []) (stands ++ stand ∷ [])
marked-more before [] [] one stand long marked mark = (mark, tt)
marked-more before [] (other ∷ stands) one stand long marked mark = absurd (omega (arith, long))
marked-more before (next ∷ list) [] one stand long marked mark = absurd (omega (arith, long))
marked-more before (next ∷ list) (other ∷ stands) one stand long (first, more) mark =
    (first, marked-more (Some next.sequence) list stands one stand (let l : length stands ≡ length list = omega (arith, long) in l) more mark)

pub last-more : (before : Option ℕ) (list : List PlainSnapshot) (one : PlainSnapshot) → last_sequence before (list ++ one ∷ []) ≡ Some one.sequence
last-more before [] one = refl
last-more before (next ∷ list) one = last-more (Some next.sequence) list one

-- the grid of a sequence is that from which on the next number is above it
pub at-sequence : (sequences starts : List ℕ) (one : PlainSnapshot) (stand : Stand) (at : ℕ) → IsLayout sequences starts → (is : IsStandOf sequences starts one stand) → IsLastUpTo sequences one.sequence at → at ≡ is.grid
at-sequence sequences starts one stand at layout is last =
    let there = slice_get_within sequences is.grid one.sequence is.sequence in
    let its = get_or_from_slice_get sequences is.grid one.sequence 0 is.sequence in
    last-is sequences one.sequence at is.grid layout.rising last there (omega (arith, its))
    (λ long. let pair = layout.rising is.grid (is.grid + 1) 0 (let lt : is.grid < is.grid + 1 = omega arith in lt) long in omega (arith, pair, its))

-- what the walk over the bytes gives next
pub record IsComing (sequences starts : List ℕ) (list : List PlainSnapshot) (one : PlainSnapshot) (grid : ℕ) (first : Bool) : Type 0 where
  pub has : HasStand sequences starts one
  pub within : grid < length sequences
  pub not_above : get_or sequences grid 0 ≤ one.sequence

-- behind those before it
behind-last : (before : Place) (list : List PlainSnapshot) (one : PlainSnapshot) (more : List PlainSnapshot) → RisesBehind before (list ++ one ∷ more) → IsBehind (fold (λ _ next. place_of next) before list) (place_of one)
behind-last before [] one more (behind, rises) = behind
behind-last before (next ∷ list) one more (behind, rises) = behind-last (place_of next) list one more rises

last-place : (before : Place) (list : List PlainSnapshot) → (sequence : ℕ) → (from : Option ℕ) → (from ≡ Some sequence → before.sequence ≡ sequence) → last_sequence from list ≡ Some sequence → (fold (λ _ next. place_of next) before list).sequence ≡ sequence
last-place before [] sequence from same is = same is
last-place before (next ∷ list) sequence from same is = last-place (place_of next) list sequence (Some next.sequence) (λ e. cc) is

pub is-coming : (sequences starts : List ℕ) (list : List PlainSnapshot) (one : PlainSnapshot) (more all : List PlainSnapshot) (grid : ℕ) (first : Bool) → IsLayout sequences starts → RisesBehind start all → All (HasStand sequences starts) all → list ++ one ∷ more ≡ all → IsReachedBy sequences list first grid → IsComing sequences starts list one grid first
is-coming sequences starts list one more all grid first layout rises have whole reached = by first refl
  where
    held : HasStand sequences starts one
    held =
        let joined : All (HasStand sequences starts) (list ++ one ∷ more) = subst (All (HasStand sequences starts)) (sym whole) have in
        All-contains (HasStand sequences starts) (list ++ one ∷ more) one joined (Contains-append_right list (one ∷ more) one (0, (let some : 0 < suc (length more) = omega arith in some), refl))

    there : held.is.grid < length sequences
    there = slice_get_within sequences held.is.grid one.sequence held.is.sequence

    its : get_or sequences held.is.grid 0 ≡ one.sequence
    its = get_or_from_slice_get sequences held.is.grid one.sequence 0 held.is.sequence

    by : (b : Bool) → first ≡ b → IsComing sequences starts list one grid first
    by true is =
        let (none, zero') = reached.none is in
        let up = rising-le sequences 0 held.is.grid layout.rising (let le : 0 ≤ held.is.grid = omega arith in le) there in
        record {
          has = held;
          within = omega (arith, zero', there);
          not_above = rw zero' (omega (arith, up, its));
        }
    by false is =
        let (sequence, last, at) = reached.some is in
        let behind = behind-last start list one more (subst (RisesBehind start) (sym whole) rises) in
        let place = last-place start list sequence None (λ e. absurd (cc)) last in
        let le = behind.sequence in
        let here = get_or_from_slice_get sequences grid sequence 0 at in
        record {
          has = held;
          within = slice_get_within sequences grid sequence at;
          not_above = omega (arith, here, place, le);
        }

-- the mark of the next stand
pub is-marked : (sequences starts : List ℕ) (list : List PlainSnapshot) (one : PlainSnapshot) (grid at : ℕ) (first mark : Bool) → IsLayout sequences starts → IsReachedBy sequences list first grid → IsComing sequences starts list one grid first → slice_get sequences at ≡ Some one.sequence → grid ≤ at → (IsTrue mark ↔ (IsTrue first ⊎ (grid < at))) → IsTrue mark ↔ (last_sequence None list ≢ Some one.sequence)
is-marked sequences starts list one grid at first mark layout reached coming found forward is = by first refl
  where
    by : (b : Bool) → first ≡ b → IsTrue mark ↔ (last_sequence None list ≢ Some one.sequence)
    by true begun =
        let (none, zero') = reached.none begun in (
          (λ marked same. let nothing : last_sequence None [] ≡ Some one.sequence = subst (λ l. last_sequence None l ≡ Some one.sequence) none same in cc),
          (λ other. is.1 (inl begun)),
        )
    by false begun =
        let (sequence, last, here) = reached.some begun in (
          (λ marked same. elim (is.0 marked) [
            | inl other ↦ absurd (cc)
            | inr later ↦
                let equal : sequence ≡ one.sequence = (let both : Some sequence ≡ Some one.sequence = sym last ∙ same in cc) in
                let within = slice_get_within sequences at one.sequence found in
                let pair = layout.rising grid at 0 later within in
                let low = get_or_from_slice_get sequences grid sequence 0 here in
                let high = get_or_from_slice_get sequences at one.sequence 0 found in
                omega (arith, pair, low, high, equal)
          ]),
          (λ other. is.1 (elim (apart grid at forward) [
            | inl later ↦ inr later
            | inr same ↦
                let both : Some sequence ≡ Some one.sequence = sym here ∙ (ap (slice_get sequences) same ∙ found) in
                absurd (other (last ∙ both))
          ])),
        )
      where
        apart : (m n : ℕ) → m ≤ n → (m < n) ⊎ (m ≡ n)
        apart m n le = grind (arith)

-- what is read at the grid that was found
pub stand-at : (sequences starts : List ℕ) (one : PlainSnapshot) (stand : Stand) (at : ℕ) → IsLayout sequences starts → IsStandOf sequences starts one stand → IsLastUpTo sequences one.sequence at → stand.place ≡ get_or starts at 0 + one.position
stand-at sequences starts one stand at layout is last =
    let same = at-sequence sequences starts one stand at layout is last in
    is.place ∙ ap (λ (k : ℕ). get_or starts k 0 + one.position) (sym same)

pub found-at : (sequences starts : List ℕ) (one : PlainSnapshot) (stand : Stand) (at : ℕ) → IsLayout sequences starts → IsStandOf sequences starts one stand → IsLastUpTo sequences one.sequence at → slice_get sequences at ≡ Some one.sequence
found-at sequences starts one stand at layout is last =
    let same = at-sequence sequences starts one stand at layout is last in
    ap (slice_get sequences) same ∙ is.sequence

pub forward-to : (sequences starts : List ℕ) (one : PlainSnapshot) (stand : Stand) (grid at : ℕ) → IsLayout sequences starts → IsStandOf sequences starts one stand → IsLastUpTo sequences one.sequence at → grid < length sequences → get_or sequences grid 0 ≤ one.sequence → grid ≤ at
forward-to sequences starts one stand grid at layout is last within not_above =
    let found = found-at sequences starts one stand at layout is last in
    let there = slice_get_within sequences at one.sequence found in
    let its = get_or_from_slice_get sequences at one.sequence 0 found in
    rising-back sequences grid at layout.rising within (let le : get_or sequences grid 0 ≤ get_or sequences at 0 = omega (arith, its, not_above) in le) there
