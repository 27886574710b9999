-- Lemmas on snapshots as numbers.
use Rattle.std.proofs.Common.{◌≡◌, ◌≢◌, ℕ, ◌+◌, ◌*◌, ◌-◌, ◌/◌, ◌%◌, ◌<◌, ◌^◌, ◌==◌, Bool, true, false, nat_eq, if◌then◌else◌, List, [], ◌∷◌, ◌++◌, fold, length, append_assoc, eq-eqb, ne_eqb, refl, sym, ◌∙◌, ap, subst, arith}
use Rattle.std.proofs.lemmas.Bool.{eqb-true, eqb-false}
use Rattle.std.proofs.lemmas.List.Elements.{All-append, All-nil, All-cons, All-head, All-tail}
use Rattle.packed_snapshots.specs.declared.snapshot.PlainSnapshot.{PlainSnapshot}
use Rattle.packed_snapshots.specs.declared.snapshot.Place.{Place}
use Rattle.packed_snapshots.specs.Numbers.{IsNumber, AreNumbers}
use Rattle.packed_snapshots.specs.Snapshots.{place_of, start, last_place, IsBehind, RisesBehind, IsHeld}
use Rattle.packed_snapshots.specs.Packed.{position_step, code_of, numbers_behind, IsPackedBehind, IsPacked}
use Rattle.packed_snapshots.specs.Ahead.{number_ahead, bytes_behind, IsAhead, numbers_in, snapshot_of, snapshots_behind}
use Rattle.packed_snapshots.proofs.NumberLemmas.{number_ahead-own, bytes_behind-own, IsAhead-own, numbers_in-AreNumbers, AreNumbers-append}

state-back : (state : ℕ) (seen : Bool) → (2 * state + (if seen then 1 else 0)) / 2 ≡ state
state-back state true = omega arith
state-back state false = omega arith

seen-back : (state : ℕ) (seen : Bool) → (2 * state + (if seen then 1 else 0)) % 2 == 1 ≡ seen
seen-back state true = eq-eqb ((2 * state + 1) % 2) 1 (omega arith)
seen-back state false = ne_eqb ((2 * state + 0) % 2) 1 (λ e. omega (arith, e))

position-back : (before : Place) (one : PlainSnapshot) → IsBehind before (place_of one) → (same : Bool) → nat_eq one.sequence before.sequence ≡ same → (if (one.sequence - before.sequence) == 0 then before.position + position_step before one else position_step before one) ≡ one.position
position-back before one behind true is =
    let same = eqb-true one.sequence before.sequence is in
    let none : (one.sequence - before.sequence) == 0 ≡ true = eq-eqb (one.sequence - before.sequence) 0 (omega (arith, same)) in
    let least = behind.position (sym same) in
    rw (none, is) (omega (arith, least))
position-back before one behind false is =
    let apart = eqb-false one.sequence before.sequence is in
    let above = behind.sequence in
    let some : (one.sequence - before.sequence) == 0 ≡ false = ne_eqb (one.sequence - before.sequence) 0 (λ e. apart (omega (arith, e, above))) in
    rw (some, is) refl

pub code_of-lt : (one : PlainSnapshot) → IsHeld one → code_of one < 2 ^ 17
code_of-lt one held = by one.seen
  where
    by : (seen : Bool) → 2 * one.state + (if seen then 1 else 0) < 2 ^ 17
    by true = omega (arith, held.state)
    by false = omega (arith, held.state)

-- its numbers give the snapshot
pub snapshot_of-numbers : (before : Place) (one : PlainSnapshot) → IsBehind before (place_of one) → snapshot_of before (one.sequence - before.sequence) (position_step before one) (code_of one) ≡ one
snapshot_of-numbers before one behind =
    let sequence : before.sequence + (one.sequence - before.sequence) ≡ one.sequence = omega (arith, behind.sequence) in
    let position = position-back before one behind (nat_eq one.sequence before.sequence) refl in
    let state = state-back one.state one.seen in
    let seen = seen-back one.state one.seen in
    λ i. record { sequence = sequence i; position = position i; state = state i; seen = seen i }

pub snapshots_behind-numbers : (before : Place) (list : List PlainSnapshot) → RisesBehind before list → snapshots_behind before (numbers_behind before list) ≡ list
snapshots_behind-numbers before [] rises = refl
snapshots_behind-numbers before (one ∷ more) (behind, rises) =
    ap (λ first. first ∷ snapshots_behind (place_of first) (numbers_behind (place_of one) more)) (snapshot_of-numbers before one behind) ∙ ap (λ list. one ∷ list) (snapshots_behind-numbers (place_of one) more rises)

-- the walk over the bytes of snapshots gives the snapshots
pub snapshots_behind-packed : (before : Place) (list : List PlainSnapshot) (bytes : List ℕ) → IsPackedBehind before list bytes → snapshots_behind before (numbers_in bytes) ≡ list
snapshots_behind-packed before list bytes is =
    rw (numbers_in-AreNumbers (numbers_behind before list) bytes is.packed) (snapshots_behind-numbers before list is.rising)

-- one more snapshot behind others
pub RisesBehind-append : (before : Place) (list : List PlainSnapshot) (next : PlainSnapshot) → RisesBehind before list → IsBehind (fold (λ _ one. place_of one) before list) (place_of next) → RisesBehind before (list ++ next ∷ [])
RisesBehind-append before [] next rises behind = (behind, tt)
RisesBehind-append before (one ∷ more) next (first, rises) behind = (first, RisesBehind-append (place_of one) more next rises behind)

pub numbers_behind-append : (before : Place) (list : List PlainSnapshot) (next : PlainSnapshot) → numbers_behind before (list ++ next ∷ []) ≡ numbers_behind before list ++ numbers_behind (fold (λ _ one. place_of one) before list) (next ∷ [])
numbers_behind-append before [] next = refl
numbers_behind-append before (one ∷ more) next = rw (numbers_behind-append (place_of one) more next) refl

pub last_place-append : (before : Place) (list : List PlainSnapshot) (next : PlainSnapshot) → fold (λ _ one. place_of one) before (list ++ next ∷ []) ≡ place_of next
last_place-append before [] next = refl
last_place-append before (one ∷ more) next = last_place-append (place_of one) more next

-- three more numbers behind others
AreNumbers-three : (numbers bytes : List ℕ) (m n o : ℕ) (first second third : List ℕ) → AreNumbers numbers bytes → IsNumber m first → IsNumber n second → IsNumber o third → AreNumbers (numbers ++ m ∷ n ∷ o ∷ []) (((bytes ++ first) ++ second) ++ third)
AreNumbers-three numbers bytes m n o first second third are is_first is_second is_third =
    let one = AreNumbers-append numbers bytes m first are is_first in
    let two = AreNumbers-append (numbers ++ m ∷ []) (bytes ++ first) n second one is_second in
    let three = AreNumbers-append ((numbers ++ m ∷ []) ++ n ∷ []) ((bytes ++ first) ++ second) o third two is_third in
    subst (λ all. AreNumbers all (((bytes ++ first) ++ second) ++ third)) (append_assoc (numbers ++ m ∷ []) (n ∷ []) (o ∷ []) ∙ append_assoc numbers (m ∷ []) (n ∷ o ∷ [])) three

-- what is written for a snapshot
pub record IsPushed (before : Place) (next : PlainSnapshot) (first second third : List ℕ) : Type 0 where
  pub behind : IsBehind before (place_of next)
  pub held : IsHeld next
  pub sequence : IsNumber (next.sequence - before.sequence) first
  pub position : IsNumber (position_step before next) second
  pub code : IsNumber (code_of next) third

pub IsPacked-push : (list : List PlainSnapshot) (bytes : List ℕ) (before : Place) (next : PlainSnapshot) (first second third : List ℕ) → IsPushed before next first second third → IsPacked list bytes → last_place list ≡ before → IsPacked (list ++ next ∷ []) (((bytes ++ first) ++ second) ++ third)
IsPacked-push list bytes before next first second third pushed is same =
    let at_last = subst (λ place. IsPushed place next first second third) (sym same) pushed in
    record {
      rising = RisesBehind-append start list next is.rising at_last.behind;
      held = All-append IsHeld list (next ∷ []) is.held (All-cons IsHeld next [] at_last.held (All-nil IsHeld));
      packed = subst (λ all. AreNumbers all (((bytes ++ first) ++ second) ++ third)) (sym (numbers_behind-append start list next))
          (AreNumbers-three (numbers_behind start list) bytes (next.sequence - (last_place list).sequence) (position_step (last_place list) next) (code_of next) first second third is.packed at_last.sequence at_last.position at_last.code);
    }

-- the next snapshot of bytes, and what its numbers are
pub record HasNext (before : Place) (bytes : List ℕ) : Type 0 where
  pub one : PlainSnapshot
  pub more : List PlainSnapshot
  pub held : IsHeld one
  pub behind : IsBehind before (place_of one)
  pub first : IsAhead bytes
  pub sequence : number_ahead bytes ≡ one.sequence - before.sequence
  pub second : IsAhead (bytes_behind bytes)
  pub position : number_ahead (bytes_behind bytes) ≡ position_step before one
  pub third : IsAhead (bytes_behind (bytes_behind bytes))
  pub code : number_ahead (bytes_behind (bytes_behind bytes)) ≡ code_of one
  pub rest : IsPackedBehind (place_of one) more (bytes_behind (bytes_behind (bytes_behind bytes)))
  pub whole : snapshots_behind before (numbers_in bytes) ≡ one ∷ snapshots_behind (place_of one) (numbers_in (bytes_behind (bytes_behind (bytes_behind bytes))))

-- what stands in front of numbers
record HasNumber (number : ℕ) (numbers bytes : List ℕ) : Type 0 where
  pub ahead : IsAhead bytes
  pub is : number_ahead bytes ≡ number
  pub are : AreNumbers numbers (bytes_behind bytes)

has-number : (number : ℕ) (numbers bytes : List ℕ) → AreNumbers (number ∷ numbers) bytes → HasNumber number numbers bytes
has-number number numbers bytes (own, rest, is, are, joined) = record {
  ahead = rw joined (IsAhead-own number own rest is);
  is = rw joined (number_ahead-own number own rest is);
  are = rw (joined, bytes_behind-own number own rest is) are;
}

pub has-next : (before : Place) (list : List PlainSnapshot) (bytes : List ℕ) → IsPackedBehind before list bytes → 0 < length bytes → HasNext before bytes
has-next before [] bytes is long = absurd (omega (arith, long, ap length is.packed))
has-next before (one ∷ more) bytes is long =
    let first = has-number (one.sequence - before.sequence) (position_step before one ∷ code_of one ∷ numbers_behind (place_of one) more) bytes is.packed in
    let second = has-number (position_step before one) (code_of one ∷ numbers_behind (place_of one) more) (bytes_behind bytes) first.are in
    let third = has-number (code_of one) (numbers_behind (place_of one) more) (bytes_behind (bytes_behind bytes)) second.are in
    let rest : IsPackedBehind (place_of one) more (bytes_behind (bytes_behind (bytes_behind bytes))) =
    record { rising = is.rising.1; held = All-tail IsHeld one more is.held; packed = third.are } in
    record {
      one = one;
      more = more;
      held = All-head IsHeld one more is.held;
      behind = is.rising.0;
      first = first.ahead;
      sequence = first.is;
      second = second.ahead;
      position = second.is;
      third = third.ahead;
      code = third.is;
      rest = rest;
      whole = snapshots_behind-packed before (one ∷ more) bytes is ∙ ap (λ list. one ∷ list) (sym (snapshots_behind-packed (place_of one) more (bytes_behind (bytes_behind (bytes_behind bytes))) rest));
    }

-- bytes hold one list
pub IsPacked-one : (first second : List PlainSnapshot) (bytes : List ℕ) → IsPacked first bytes → IsPacked second bytes → first ≡ second
IsPacked-one first second bytes is also = sym (snapshots_behind-packed start first bytes is) ∙ snapshots_behind-packed start second bytes also

-- its numbers fit
pub first-small : (before : Place) (bytes : List ℕ) (next : HasNext before bytes) → number_ahead bytes < 2 ^ 32
first-small before bytes next = let most = next.held.sequence in rw next.sequence (omega (arith, most))

pub second-small : (before : Place) (bytes : List ℕ) (next : HasNext before bytes) → number_ahead (bytes_behind bytes) < 2 ^ 32
second-small before bytes next = rw next.position (by (nat_eq next.one.sequence before.sequence))
  where
    by : (same : Bool) → (if same then next.one.position - before.position else next.one.position) < 2 ^ 32
    by true = let most = next.held.position in omega (arith, most)
    by false = let most = next.held.position in omega (arith, most)

pub third-small : (before : Place) (bytes : List ℕ) (next : HasNext before bytes) → number_ahead (bytes_behind (bytes_behind bytes)) < 2 ^ 32
third-small before bytes next = let most = code_of-lt next.one next.held in rw next.code (omega (arith, most))

-- bytes of snapshots that are not empty have a next one
pub next-of : (before : Place) (bytes : List ℕ) → ((list : List PlainSnapshot) × IsPackedBehind before list bytes) → (length bytes == 0) ≡ false → HasNext before bytes
next-of before bytes (list, is) some = has-next before list bytes is (above (length bytes) (eqb-false (length bytes) 0 some))
  where
    above : (n : ℕ) → n ≢ 0 → 0 < n
    above n some = omega (arith, some)

-- what was read of its three numbers
pub record IsTaken (before : Place) (bytes : List ℕ) (ahead step code : ℕ) (left : List ℕ) (next : HasNext before bytes) : Type 0 where
  pub made : snapshot_of before ahead step code ≡ next.one
  pub sequence : before.sequence + ahead < 2 ^ 32
  pub position : (snapshot_of before ahead step code).position < 2 ^ 16
  pub small : code < 2 ^ 17
  pub rest : IsPackedBehind (place_of next.one) next.more left
  pub whole : snapshots_behind before (numbers_in bytes) ≡ next.one ∷ snapshots_behind (place_of next.one) (numbers_in left)

pub is-taken : (before : Place) (bytes : List ℕ) (next : HasNext before bytes) (ahead : ℕ) (first : List ℕ) (step : ℕ) (second : List ℕ) (code : ℕ) (third : List ℕ)
    → ahead ≡ number_ahead bytes → first ≡ bytes_behind bytes → step ≡ number_ahead first → second ≡ bytes_behind first → code ≡ number_ahead second → third ≡ bytes_behind second
    → IsTaken before bytes ahead step code third next
is-taken before bytes next ahead first step second code third is_ahead is_first is_step is_second is_code is_third =
    let sequence : ahead ≡ next.one.sequence - before.sequence = is_ahead ∙ next.sequence in
    let position : step ≡ position_step before next.one = is_step ∙ (ap number_ahead is_first ∙ next.position) in
    let behind_two : second ≡ bytes_behind (bytes_behind bytes) = is_second ∙ ap bytes_behind is_first in
    let codes : code ≡ code_of next.one = is_code ∙ (ap number_ahead behind_two ∙ next.code) in
    let behind_three : third ≡ bytes_behind (bytes_behind (bytes_behind bytes)) = is_third ∙ ap bytes_behind behind_two in
    let made : snapshot_of before ahead step code ≡ next.one = rw (sequence, position, codes) (snapshot_of-numbers before next.one next.behind) in
    let least = next.behind.sequence in
    let most = next.held.sequence in
    record {
      made = made;
      sequence = omega (arith, sequence, least, most);
      position = subst (λ one. one.position < 2 ^ 16) (sym made) next.held.position;
      small = subst (λ number. number < 2 ^ 17) (sym codes) (code_of-lt next.one next.held);
      rest = subst (λ rest. IsPackedBehind (place_of next.one) next.more rest) (sym behind_three) next.rest;
      whole = next.whole ∙ ap (λ rest. next.one ∷ snapshots_behind (place_of next.one) (numbers_in rest)) (sym behind_three);
    }
