-- The enabled events are counted by worker, and found by their number.
use Rattle.std.proofs.Common.{◌≡◌, ◌≢◌, ℕ, zero, suc, ◌+◌, ◌%◌, ◌<◌, ◌≤◌, ◌⊎◌, inl, inr, Bool, true, false, cond, Option, Some, None, List, [], ◌∷◌, ◌++◌, map, slice_get, get_or, take, length, flat_map, sum_by, refl, sym, ap, ◌∙◌, arith, length-append, append_assoc, true≢false}
use Rattle.std.specs.Prelude.{◌==◌, not, count_by}
use Rattle.std.specs.List.{range_with_len}
use Rattle.std.specs.Option.{option_map}
use Rattle.std.proofs.Math.Seq.{take-length}
use Rattle.std.proofs.lemmas.Bool.{cases_Bool, cond-true, cond-false, eqb-true, eq-eqb}
use Rattle.std.proofs.lemmas.List.{append-nil, nil_from_length, length-map}
use Rattle.std.proofs.lemmas.List.Sums.{sum_by_more}
use Rattle.std.proofs.lemmas.Option.{slice_get_within, get_or_from_slice_get}
use Rattle.pool_schedule.specs.State.{Load}
use Rattle.pool_schedule.specs.Schedule.{where_any, steal_from, steals, own_events, events_of, listed}
use Rattle.pool_schedule.specs.Worker.{IsPosting, IsBusy, IsFree, is_filled, events_with, events_by}
use Rattle.pool_schedule.specs.Machine.{load}
use Rattle.pool_schedule.specs.declared.event.Event.{Event}
use Rattle.pool_schedule.specs.declared.event.Event.TheVariants.{Put, Take, Steal, Grow, Post}
use Rattle.pool_schedule.specs.declared.worker.Pending.{Pending}
use Rattle.pool_schedule.specs.declared.worker.Worker.{Worker}
use Rattle.mine_model.proofs.ElementLemmas.{get-some, get-left}
use Rattle.pool_schedule.proofs.NodeLemmas.{load-at}
use Rattle.pool_schedule.proofs.ScheduleLemmas.{not-same}

-- pieces by their numbers

flat-more : {Y : Type 0} (f : ℕ → List Y) (a n : ℕ) → flat_map f (range_with_len a (suc n)) ≡ flat_map f (range_with_len a n) ++ f (a + n)
flat-more f a zero = let e : a + 0 ≡ a = omega arith in append-nil (f a) ∙ ap f (sym e)
flat-more f a (suc n) =
    let e : a + 1 + n ≡ a + suc n = omega arith in
    ap (λ l. f a ++ l) (flat-more f (a + 1) n ∙ ap (λ k. flat_map f (range_with_len (a + 1) n) ++ f k) e)
    ∙ sym (append_assoc (f a) (flat_map f (range_with_len (a + 1) n)) (f (a + suc n)))

flat-next : {Y : Type 0} (f : ℕ → List Y) (n : ℕ) → flat_map f (range_with_len 0 (suc n)) ≡ flat_map f (range_with_len 0 n) ++ f n
flat-next f n = let e : 0 + n ≡ n = omega arith in flat-more f 0 n ∙ ap (λ k. flat_map f (range_with_len 0 n) ++ f k) e

get-right : {Y : Type 0} (xs ys : List Y) (j k : ℕ) → k ≡ length xs + j → slice_get (xs ++ ys) k ≡ slice_get ys j
get-right [] ys j k is = let e : k ≡ j = omega arith in ap (slice_get ys) e
get-right (x ∷ xs) ys j zero is = absurd (omega arith)
get-right (x ∷ xs) ys j (suc k) is = get-right xs ys j k (omega arith)

get-part : {Y : Type 0} (f : ℕ → List Y) (a n k j i : ℕ) (y : Y) → k < n → slice_get (f (a + k)) j ≡ Some y → i ≡ length (flat_map f (range_with_len a k)) + j
    → slice_get (flat_map f (range_with_len a n)) i ≡ Some y
get-part f a zero k j i y less is at = absurd (omega arith)
get-part f a (suc n) zero j i y less is at =
    let first : a + 0 ≡ a = omega arith in
    let same : i ≡ j = omega arith in
    get-left (f a) (flat_map f (range_with_len (a + 1) n)) i y (ap (slice_get (f a)) same ∙ ap (λ b. slice_get (f b) j) (sym first) ∙ is)
get-part f a (suc n) (suc k) j i y less is at =
    let next : a + 1 + k ≡ a + suc k = omega arith in
    let before : List _ = flat_map f (range_with_len (a + 1) k) in
    let where_it_is : i ≡ length (f a) + (length before + j) = omega (arith, length-append (f a) before) in
    get-right (f a) (flat_map f (range_with_len (a + 1) n)) (length before + j) i where_it_is
    ∙ get-part f (a + 1) n k j (length before + j) y (omega arith) (ap (λ b. slice_get (f b) j) next ∙ is) refl

get-from : {Y : Type 0} (f : ℕ → List Y) (n k j i : ℕ) (y : Y) → k < n → slice_get (f k) j ≡ Some y → i ≡ length (flat_map f (range_with_len 0 k)) + j
    → slice_get (flat_map f (range_with_len 0 n)) i ≡ Some y
get-from f n k j i y less is at = let e : 0 + k ≡ k = omega arith in get-part f 0 n k j i y less (ap (λ b. slice_get (f b) j) e ∙ is) at

-- one more of the first elements
part-more : {X : Type 0} (f : X → ℕ) (xs : List X) (i : ℕ) (x : X) → slice_get xs i ≡ Some x → sum_by f (take (suc i) xs) ≡ sum_by f (take i xs) + f x
part-more f xs i x at =
    let more : sum_by f (take (i + 1) xs) ≡ sum_by f (take i xs) + f (get_or xs i x) = sum_by_more f xs i x (slice_get_within xs i x at) in
    let next : i + 1 ≡ suc i = omega arith in
    ap (λ n. sum_by f (take n xs)) (sym next) ∙ more ∙ ap (λ y. sum_by f (take i xs) + f y) (get_or_from_slice_get xs i x x at)

one_if : Bool → ℕ
one_if b = cond b 1 0

sum-own : (after before all one counted : ℕ) → after ≡ before + 0 → before ≡ counted → all ≡ counted + one → after + one ≡ all
sum-own after before all one counted p q r = omega arith

sum-first : (after before all one counted part : ℕ) → after ≡ before + part → part ≡ one → before ≡ counted → all ≡ counted + one → after ≡ all
sum-first after before all one counted part p q r s = omega arith

sum-later : (after before all one counted part own : ℕ) → after ≡ before + part → part ≡ one → before + own ≡ counted → all ≡ counted + one → after + own ≡ all
sum-later after before all one counted part own p q r s = omega arith

-- how many events a worker has

module _ {N : Type 0} where
  with-pending : (p : Option Pending) (stack : List N) (filled : ℕ) (pending : Pending) → p ≡ Some pending → events_with p stack filled ≡ 1
  with-pending None stack filled pending is = absurd (cc)
  with-pending (Some q) stack filled pending is = refl

  with-stack : (p : Option Pending) (stack : List N) (filled : ℕ) → p ≡ None → 0 < length stack → events_with p stack filled ≡ 2
  with-stack (Some q) stack filled is some = absurd (cc)
  with-stack None [] filled is some = absurd (omega arith)
  with-stack None (x ∷ stack) filled is some = refl

  with-nothing : (p : Option Pending) (stack : List N) (filled : ℕ) → p ≡ None → length stack ≡ 0 → events_with p stack filled ≡ filled
  with-nothing (Some q) stack filled is none = absurd (cc)
  with-nothing None [] filled is none = refl
  with-nothing None (x ∷ stack) filled is none = absurd (omega arith)

  pub posting-count : (x : Worker N) (filled : ℕ) → IsPosting x → events_by filled x ≡ 1
  posting-count x filled (pending, is) = with-pending x.pending x.stack.items filled pending is

  pub busy-count : (x : Worker N) (filled : ℕ) → IsBusy x → events_by filled x ≡ 2
  busy-count x filled (none, some) = with-stack x.pending x.stack.items filled none some

  pub free-count : (x : Worker N) (filled : ℕ) → IsFree x → events_by filled x ≡ filled
  free-count x filled (none, empty) = with-nothing x.pending x.stack.items filled none empty

  stack-stage : (p : Option Pending) (stack : List N) → ((pending : Pending) × (p ≡ Some pending)) ⊎ (((p ≡ None) × (0 < length stack)) ⊎ ((p ≡ None) × (length stack ≡ 0)))
  stack-stage (Some q) stack = inl (q, refl)
  stack-stage None [] = inr (inr (refl, refl))
  stack-stage None (x ∷ stack) = inr (inl (refl, omega arith))

module _ {N : Type 0} (label : N → List ℕ) (workers : List (Worker N)) where
  abbrev Loads : List Load
  Loads = map (load label) workers

  abbrev pub theft_of : ℕ → ℕ → List Event
  theft_of w v = steal_from w v (slice_get (map (load label) workers) v)

  abbrev pub events_at : ℕ → List Event
  events_at w = events_of (map (load label) workers) w (slice_get (map (load label) workers) w)

  any-length : (nodes : List N) (event : Event) → length (where_any (map label nodes) event) ≡ cond (not (length nodes == 0)) 1 0
  any-length [] event = refl
  any-length (x ∷ nodes) event = elim (cases_Bool (length (x ∷ nodes) == 0)) [
    | inl none ↦ let bad : length (x ∷ nodes) ≡ 0 = eqb-true (length (x ∷ nodes)) 0 none in absurd (omega arith)
    | inr some ↦ sym (ap (λ (b : Bool). cond (not b) 1 0) some)
  ]

  any-some : (nodes : List N) (event : Event) → 0 < length nodes → where_any (map label nodes) event ≡ event ∷ []
  any-some [] event l = absurd (omega arith)
  any-some (x ∷ nodes) event l = refl

  -- the steal from one worker

  own-theft : (w v : ℕ) (x : Worker N) → slice_get workers v ≡ Some x → v ≡ w → theft_of w v ≡ []
  own-theft w v x at same =
      ap (steal_from w v) (load-at label workers v x at) ∙ cond-true (v == w) [] (where_any (map label x.deque.items) (Steal w v)) (eq-eqb v w same)

  other-theft : (w v : ℕ) (x : Worker N) → slice_get workers v ≡ Some x → v ≢ w → theft_of w v ≡ where_any (map label x.deque.items) (Steal w v)
  other-theft w v x at other =
      ap (steal_from w v) (load-at label workers v x at) ∙ cond-false (v == w) [] (where_any (map label x.deque.items) (Steal w v)) (not-same v w other)

  pub no-theft : (w v : ℕ) (x : Worker N) → slice_get workers v ≡ Some x → (v ≡ w) ⊎ (length x.deque.items ≡ 0) → theft_of w v ≡ []
  no-theft w v x at (inl same) = own-theft w v x at same
  no-theft w v x at (inr empty) = elim (cases_Bool (v == w)) [
    | inl same ↦ own-theft w v x at (eqb-true v w same)
    | inr other ↦
        other-theft w v x at (λ e. true≢false (sym (eq-eqb v w e) ∙ other))
        ∙ ap (λ (l : List N). where_any (map label l) (Steal w v)) (nil_from_length x.deque.items empty)
  ]

  pub one-theft : (w v : ℕ) (x : Worker N) → slice_get workers v ≡ Some x → v ≢ w → 0 < length x.deque.items → theft_of w v ≡ Steal w v ∷ []
  one-theft w v x at other some = other-theft w v x at other ∙ any-some x.deque.items (Steal w v) some

  pub thefts-more : (w v : ℕ) (part : List Event) → theft_of w v ≡ part
      → length (flat_map (theft_of w) (range_with_len 0 (suc v))) ≡ length (flat_map (theft_of w) (range_with_len 0 v)) + length part
  thefts-more w v part is =
      ap length (flat-next (theft_of w) v) ∙ length-append (flat_map (theft_of w) (range_with_len 0 v)) (theft_of w v)
      ∙ ap (λ (l : List Event). length (flat_map (theft_of w) (range_with_len 0 v)) + length l) is

  -- the walk over the victims goes on
  pub theft-next : (w v number left after : ℕ) (part : List Event) → theft_of w v ≡ part → left ≡ after + length part
      → number ≡ left + length (flat_map (theft_of w) (range_with_len 0 v)) → number ≡ after + length (flat_map (theft_of w) (range_with_len 0 (v + 1)))
  theft-next w v number left after part is less at =
      let more = thefts-more w v part is in
      let next : v + 1 ≡ suc v = omega arith in
      let so_far : number ≡ after + length (flat_map (theft_of w) (range_with_len 0 (suc v))) = omega (arith, more) in
      so_far ∙ ap (λ n. after + length (flat_map (theft_of w) (range_with_len 0 n))) (sym next)

  pub theft-found : (w v number : ℕ) (event : Event) → v < length workers → theft_of w v ≡ event ∷ [] → number ≡ length (flat_map (theft_of w) (range_with_len 0 v))
      → slice_get (steals (map (load label) workers) w) number ≡ Some event
  theft-found w v number event less is at =
      get-from (theft_of w) (length (map (load label) workers)) v 0 number event (omega (arith, length-map workers (load label))) (ap (λ (l : List Event). slice_get l 0) is) (omega arith)

  pub thefts-all : (w : ℕ) → length (flat_map (theft_of w) (range_with_len 0 (length workers))) ≡ length (steals (map (load label) workers) w)
  thefts-all w = ap (λ n. length (flat_map (theft_of w) (range_with_len 0 n))) (sym (length-map workers (load label)))

  -- past the last victim no steal is left
  pub no-more-thefts : (w v number left : ℕ) → length workers ≤ v → v ≤ length workers → number < length (steals (map (load label) workers) w)
      → number ≡ left + length (flat_map (theft_of w) (range_with_len 0 v)) → ⊥
  no-more-thefts w v number left more less within at =
      let end : v ≡ length workers = omega arith in
      let all : length (flat_map (theft_of w) (range_with_len 0 v)) ≡ length (steals (map (load label) workers) w) =
      ap (λ n. length (flat_map (theft_of w) (range_with_len 0 n))) end ∙ thefts-all w in
      omega arith

  -- how many steals there are

  thefts-below : (w : ℕ) (x : Worker N) → slice_get workers w ≡ Some x → (n : ℕ) → n ≤ length workers
      → (n ≤ w → length (flat_map (theft_of w) (range_with_len 0 n)) ≡ count_by is_filled (take n workers))
      × (w < n → length (flat_map (theft_of w) (range_with_len 0 n)) + one_if (is_filled x) ≡ count_by is_filled (take n workers))
  unfolding one_if
  thefts-below w x at zero few = ((λ l. refl), (λ l. absurd (omega arith)))
  thefts-below w x at (suc n) few =
      let (v, there) = get-some workers n (omega arith) in
      let below = thefts-below w x at n (omega arith) in
      let counted : count_by is_filled (take (suc n) workers) ≡ count_by is_filled (take n workers) + cond (is_filled v) 1 0 =
      part-more (λ (worker : Worker N). cond (is_filled worker) 1 0) workers n v there in
      elim (cases_Bool (n == w)) [
        | inl same ↦
            let is : n ≡ w = eqb-true n w same in
            let own : v ≡ x = let also : slice_get workers n ≡ Some x = ap (slice_get workers) is ∙ at in cc in (
              (λ l. absurd (omega arith)),
              (λ l. sum-own _ _ _ _ _ (thefts-more w n [] (own-theft w n v there is)) (below.0 (omega arith))
                  (counted ∙ ap (λ (y : Worker N). count_by is_filled (take n workers) + cond (is_filled y) 1 0) own)),
            )
        | inr apart ↦
            let other : n ≢ w = λ e. true≢false (sym (eq-eqb n w e) ∙ apart) in
            let more = thefts-more w n (where_any (map label v.deque.items) (Steal w n)) (other-theft w n v there other) in
            let one = any-length v.deque.items (Steal w n) in (
              (λ l. sum-first _ _ _ _ _ _ more one (below.0 (omega arith)) counted),
              (λ l. sum-later _ _ _ _ _ _ _ more one (below.1 (omega arith)) counted),
            )
      ]

  pub filled-is : (w : ℕ) (x : Worker N) → slice_get workers w ≡ Some x
      → length (where_any (map label x.deque.items) (Take w)) + length (steals (map (load label) workers) w) ≡ count_by is_filled workers
  unfolding one_if
  filled-is w x at =
      let within : w < length workers = slice_get_within workers w x at in
      let whole = (thefts-below w x at (length workers) (omega arith)).1 within in
      let all : count_by is_filled (take (length workers) workers) ≡ count_by is_filled workers = ap (λ (l : List (Worker N)). count_by is_filled l) (take-length workers) in
      omega (arith, whole, all, thefts-all w, any-length x.deque.items (Take w))

  pub thefts-empty : (w : ℕ) (x : Worker N) → slice_get workers w ≡ Some x → length x.deque.items ≡ 0 → length (steals (map (load label) workers) w) ≡ count_by is_filled workers
  thefts-empty w x at empty =
      let none : length (where_any (map label x.deque.items) (Take w)) ≡ 0 = ap (λ (l : List N). length (where_any (map label l) (Take w))) (nil_from_length x.deque.items empty) in
      omega (arith, filled-is w x at)

  pub thefts-full : (w : ℕ) (x : Worker N) → slice_get workers w ≡ Some x → 0 < length x.deque.items → length (steals (map (load label) workers) w) + 1 ≡ count_by is_filled workers
  thefts-full w x at some =
      let one : length (where_any (map label x.deque.items) (Take w)) ≡ 1 = ap length (any-some x.deque.items (Take w) some) in
      omega (arith, filled-is w x at)

  -- the events of one worker

  at-worker : (w : ℕ) (x : Worker N) → slice_get workers w ≡ Some x
      → events_at w ≡ own_events w (load label x).pending (load label x).stack (load label x).deque (steals (map (load label) workers) w)
  at-worker w x at = ap (events_of (map (load label) workers) w) (load-at label workers w x at)

  posting : (w : ℕ) (p : Option Pending) (stack deque : List (List ℕ)) (others : List Event) (pending : Pending) → p ≡ Some pending
      → own_events w (option_map (λ (q : Pending). q.label) p) stack deque others ≡ Post w ∷ []
  posting w None stack deque others pending is = absurd (cc)
  posting w (Some q) stack deque others pending is = refl

  busy : (w : ℕ) (p : Option Pending) (stack : List N) (deque : List (List ℕ)) (others : List Event) → p ≡ None → 0 < length stack
      → own_events w (option_map (λ (q : Pending). q.label) p) (map label stack) deque others ≡ Grow w ∷ Put w ∷ []
  busy w (Some q) stack deque others is some = absurd (cc)
  busy w None [] deque others is some = absurd (omega arith)
  busy w None (x ∷ stack) deque others is some = refl

  free : (w : ℕ) (p : Option Pending) (stack : List N) (deque : List (List ℕ)) (others : List Event) → p ≡ None → length stack ≡ 0
      → own_events w (option_map (λ (q : Pending). q.label) p) (map label stack) deque others ≡ where_any deque (Take w) ++ others
  free w (Some q) stack deque others is none = absurd (cc)
  free w None [] deque others is none = refl
  free w None (x ∷ stack) deque others is none = absurd (omega arith)

  pub at-posting : (w : ℕ) (x : Worker N) → slice_get workers w ≡ Some x → IsPosting x → events_at w ≡ Post w ∷ []
  at-posting w x at (pending, is) = at-worker w x at ∙ posting w x.pending (map label x.stack.items) (map label x.deque.items) (steals (map (load label) workers) w) pending is

  pub at-busy : (w : ℕ) (x : Worker N) → slice_get workers w ≡ Some x → IsBusy x → events_at w ≡ Grow w ∷ Put w ∷ []
  at-busy w x at (none, some) = at-worker w x at ∙ busy w x.pending x.stack.items (map label x.deque.items) (steals (map (load label) workers) w) none some

  pub at-free : (w : ℕ) (x : Worker N) → slice_get workers w ≡ Some x → IsFree x
      → events_at w ≡ where_any (map label x.deque.items) (Take w) ++ steals (map (load label) workers) w
  at-free w x at (none, empty) = at-worker w x at ∙ free w x.pending x.stack.items (map label x.deque.items) (steals (map (load label) workers) w) none empty

  -- what each event of a worker is by its number

  pub free-empty : (w : ℕ) (x : Worker N) (number : ℕ) (event : Event) → slice_get workers w ≡ Some x → IsFree x → length x.deque.items ≡ 0
      → slice_get (steals (map (load label) workers) w) number ≡ Some event → slice_get (events_at w) number ≡ Some event
  free-empty w x number event at is empty found =
      ap (λ (l : List Event). slice_get l number) (at-free w x at is ∙ ap (λ (l : List N). where_any (map label l) (Take w) ++ steals (map (load label) workers) w) (nil_from_length x.deque.items empty))
      ∙ found

  full-events : (w : ℕ) (x : Worker N) → slice_get workers w ≡ Some x → IsFree x → 0 < length x.deque.items → events_at w ≡ Take w ∷ steals (map (load label) workers) w
  full-events w x at is some = at-free w x at is ∙ ap (λ (l : List Event). l ++ steals (map (load label) workers) w) (any-some x.deque.items (Take w) some)

  pub free-first : (w : ℕ) (x : Worker N) → slice_get workers w ≡ Some x → IsFree x → 0 < length x.deque.items → slice_get (events_at w) 0 ≡ Some (Take w)
  free-first w x at is some = ap (λ (l : List Event). slice_get l 0) (full-events w x at is some)

  pub free-later : (w : ℕ) (x : Worker N) (number before : ℕ) (event : Event) → slice_get workers w ≡ Some x → IsFree x → 0 < length x.deque.items → number ≡ suc before
      → slice_get (steals (map (load label) workers) w) before ≡ Some event → slice_get (events_at w) number ≡ Some event
  free-later w x number before event at is some next found =
      ap (slice_get (events_at w)) next ∙ ap (λ (l : List Event). slice_get l (suc before)) (full-events w x at is some) ∙ found

  pub events-length : (w : ℕ) (x : Worker N) (filled : ℕ) → slice_get workers w ≡ Some x → filled ≡ count_by is_filled workers → length (events_at w) ≡ events_by filled x
  events-length w x filled at is = elim (stack-stage x.pending x.stack.items) [
    | inl posts ↦ ap length (at-posting w x at posts) ∙ sym (posting-count x filled posts)
    | inr other ↦ elim other [
      | inl works ↦ ap length (at-busy w x at works) ∙ sym (busy-count x filled works)
      | inr rests ↦
          let size : length (events_at w) ≡ length (where_any (map label x.deque.items) (Take w)) + length (steals (map (load label) workers) w) =
          ap length (at-free w x at rests) ∙ length-append (where_any (map label x.deque.items) (Take w)) (steals (map (load label) workers) w) in
          size ∙ filled-is w x at ∙ sym is ∙ sym (free-count x filled rests)
    ]
  ]

  -- all events

  pub events-more : (w : ℕ) → length (flat_map events_at (range_with_len 0 (suc w))) ≡ length (flat_map events_at (range_with_len 0 w)) + length (events_at w)
  events-more w = ap length (flat-next events_at w) ∙ length-append (flat_map events_at (range_with_len 0 w)) (events_at w)

  -- the walk over the workers goes on
  pub event-next : (w number left after size : ℕ) → length (events_at w) ≡ size → left ≡ after + size
      → number ≡ left + length (flat_map events_at (range_with_len 0 w)) → number ≡ after + length (flat_map events_at (range_with_len 0 (w + 1)))
  event-next w number left after size is less at =
      let more = events-more w in
      let next : w + 1 ≡ suc w = omega arith in
      let so_far : number ≡ after + length (flat_map events_at (range_with_len 0 (suc w))) = omega (arith, more) in
      so_far ∙ ap (λ n. after + length (flat_map events_at (range_with_len 0 n))) (sym next)

  pub event-found : (w left number : ℕ) (event : Event) → w < length workers → slice_get (events_at w) left ≡ Some event
      → number ≡ length (flat_map events_at (range_with_len 0 w)) + left → slice_get (listed (map (load label) workers)) number ≡ Some event
  event-found w left number event less found at =
      get-from events_at (length (map (load label) workers)) w left number event (omega (arith, length-map workers (load label))) found at

  events-below : (filled : ℕ) → filled ≡ count_by is_filled workers → (n : ℕ) → n ≤ length workers
      → length (flat_map events_at (range_with_len 0 n)) ≡ sum_by (events_by filled) (take n workers)
  events-below filled is zero few = refl
  events-below filled is (suc n) few =
      let (v, there) = get-some workers n (omega arith) in
      omega (arith, events-below filled is n (omega arith), events-more n, events-length n v filled there is, part-more (events_by filled) workers n v there)

  pub listed-length : (filled : ℕ) → filled ≡ count_by is_filled workers → length (listed (map (load label) workers)) ≡ sum_by (events_by filled) workers
  listed-length filled is =
      ap (λ n. length (flat_map events_at (range_with_len 0 n))) (length-map workers (load label))
      ∙ events-below filled is (length workers) (omega arith)
      ∙ ap (λ (l : List (Worker N)). sum_by (events_by filled) l) (take-length workers)

  -- past the last worker no event is left
  pub no-more-events : (w number left filled : ℕ) → length workers ≤ w → w ≤ length workers → filled ≡ count_by is_filled workers → number < sum_by (events_by filled) workers
      → number ≡ left + length (flat_map events_at (range_with_len 0 w)) → ⊥
  no-more-events w number left filled more less is within at =
      let end : w ≡ length workers = omega arith in
      let all : length (flat_map events_at (range_with_len 0 w)) ≡ sum_by (events_by filled) workers =
      ap (λ n. length (flat_map events_at (range_with_len 0 n))) end ∙ events-below filled is (length workers) (omega arith)
      ∙ ap (λ (l : List (Worker N)). sum_by (events_by filled) l) (take-length workers) in
      omega arith

-- what a length that was looked at says

pub some-nodes : {N : Type 0} (nodes : List N) (len : ℕ) → len ≡ length nodes → false ≡ (len == 0) → 0 < length nodes
some-nodes [] len is look = let none : len == 0 ≡ true = eq-eqb len 0 is in absurd (cc)
some-nodes (x ∷ nodes) len is look = omega arith

pub no-nodes : {N : Type 0} (nodes : List N) (len : ℕ) → len ≡ length nodes → true ≡ (len == 0) → length nodes ≡ 0
no-nodes nodes len is look = let none : len ≡ 0 = eqb-true len 0 (sym look) in omega arith

pub first-of : {Y : Type 0} (ys : List Y) (y : Y) (number : ℕ) → ys ≡ y ∷ [] → number < 1 → slice_get ys number ≡ Some y
first-of ys y number is less = let zero_it_is : number ≡ 0 = omega arith in ap (slice_get ys) zero_it_is ∙ ap (λ l. slice_get l 0) is

pub first-of-two : {Y : Type 0} (ys : List Y) (y z : Y) (number : ℕ) → ys ≡ y ∷ z ∷ [] → number ≡ 0 → slice_get ys number ≡ Some y
first-of-two ys y z number is first = ap (slice_get ys) first ∙ ap (λ l. slice_get l 0) is

pub second-of-two : {Y : Type 0} (ys : List Y) (y z : Y) (number : ℕ) → ys ≡ y ∷ z ∷ [] → number ≢ 0 → number < 2 → slice_get ys number ≡ Some z
second-of-two ys y z number is other less = let one : number ≡ 1 = omega arith in ap (slice_get ys) one ∙ ap (λ l. slice_get l 1) is

-- what the choice picks

module _ {N : Type 0} (label : N → List ℕ) where
  pub none-listed : (workers slice : List (Worker N)) (filled count : ℕ) → slice ≡ workers → filled ≡ count_by is_filled slice → count ≡ sum_by (events_by filled) slice → count ≡ 0
      → listed (map (load label) workers) ≡ []
  none-listed workers slice filled count same is sum none =
      let here : filled ≡ count_by is_filled workers = is ∙ ap (λ (l : List (Worker N)). count_by is_filled l) same in
      let all : sum_by (events_by filled) slice ≡ sum_by (events_by filled) workers = ap (λ (l : List (Worker N)). sum_by (events_by filled) l) same in
      nil_from_length (listed (map (load label) workers)) (listed-length label workers filled here ∙ sym all ∙ sym sum ∙ none)

  pub picked : (workers slice : List (Worker N)) (filled count choice : ℕ) (event : Event) → slice ≡ workers → filled ≡ count_by is_filled slice → count ≡ sum_by (events_by filled) slice
      → slice_get (listed (map (load label) slice)) (choice % count) ≡ Some event
      → slice_get (listed (map (load label) workers)) (choice % length (listed (map (load label) workers))) ≡ Some event
  picked workers slice filled count choice event same is sum found =
      let here : filled ≡ count_by is_filled workers = is ∙ ap (λ (l : List (Worker N)). count_by is_filled l) same in
      let all : sum_by (events_by filled) slice ≡ sum_by (events_by filled) workers = ap (λ (l : List (Worker N)). sum_by (events_by filled) l) same in
      let size : length (listed (map (load label) workers)) ≡ count = listed-length label workers filled here ∙ sym all ∙ sym sum in
      ap (λ n. slice_get (listed (map (load label) workers)) (choice % n)) size
      ∙ ap (λ (l : List (Worker N)). slice_get (listed (map (load label) l)) (choice % count)) (sym same) ∙ found
