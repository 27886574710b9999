-- What workers are given and what they give back, one worker more, and how the seats are opened.
use Rattle.std.proofs.Common.{◌≡◌, ℕ, zero, suc, ◌+◌, ◌≤◌, Option, Some, List, [], ◌∷◌, ◌++◌, length, map, flat_map, sum_by, All, slice_get, slice_index_or, refl, ap, subst, ◌∙◌, arith}
use Rattle.std.specs.List.{insert, remove}
use Rattle.std.proofs.lemmas.List.{map-append}
use Rattle.std.proofs.lemmas.List.Elements.{All-cons, All-head, All-tail}
use Rattle.std.proofs.lemmas.List.Sums.{sum_by-append}
use Rattle.std.proofs.lemmas.Option.{same_Some}
use Rattle.mine_model.specs.Labels.{SameLabels}
use Rattle.node_pool.specs.Deques.{Deque}
use Rattle.node_pool.specs.Pool.{seat_ground, given, got, SameSeat, IsSeatAt, IsWholePool, IsFresh}
use Rattle.node_pool.specs.declared.seat.Seat.{Seat}
use Rattle.search_engine.specs.declared.worker.Worker.{Worker}
use Rattle.search_engine.specs.Seats.{AreTasksOf}
use Rattle.search_engine.specs.Workers.{BoardPass}
use Rattle.search_engine.specs.Crews.{AreWorkersOf, AreOpened}

module _ {T G : Type 0} where
  pub workers-more : (seats : List (Seat T G)) (passes : List BoardPass) (workers : List (Worker T G)) (worker : Worker T G) → AreWorkersOf seats passes workers
      → AreWorkersOf (seats ++ worker.seat ∷ []) (passes ++ worker.pass ∷ []) (workers ++ worker ∷ [])
  workers-more seats passes workers worker are = record {
    seats_are = map-append (λ (h : Worker T G). h.seat) workers (worker ∷ []) ∙ ap (λ (l : List (Seat T G)). l ++ worker.seat ∷ []) are.seats_are;
    passes_are = map-append (λ (h : Worker T G). h.pass) workers (worker ∷ []) ∙ ap (λ (l : List BoardPass). l ++ worker.pass ∷ []) are.passes_are;
  }

-- how the seats are opened
module _ {T G : Type 0} where
  fresh-sums : (seats : List (Seat T G)) → All IsFresh seats → (weight : List ℕ → ℕ) → (sum_by weight (flat_map given seats) ≡ 0) × (sum_by weight (flat_map got seats) ≡ 0)
  fresh-sums [] all weight = (refl, refl)
  fresh-sums (seat ∷ seats) all weight =
      let (no_given, no_got, dry) = All-head IsFresh seat seats all in
      let (rest_given, rest_got) = fresh-sums seats (All-tail IsFresh seat seats all) weight in (
        omega (arith, sum_by-append weight (given seat) (flat_map given seats), ap (sum_by weight) no_given, rest_given),
        omega (arith, sum_by-append weight (got seat) (flat_map got seats), ap (sum_by weight) no_got, rest_got),
      )

  pool-first : (seat later : Seat T G) (others : List (Seat T G)) → SameSeat seat later → IsWholePool (seat ∷ others) → IsWholePool (later ∷ others)
  pool-first seat later others same whole = let (pool, known_ground, long, each) = whole in (pool, known_ground, long, places pool known_ground each)
    where
      places : (pool : List Deque) (known_ground : Option G) → ((k : ℕ) (s : Seat T G) → slice_get (seat ∷ others) k ≡ Some s → IsSeatAt known_ground pool k s)
          → (k : ℕ) (s : Seat T G) → slice_get (later ∷ others) k ≡ Some s → IsSeatAt known_ground pool k s
      places pool known_ground each zero s at =
          let (number, of, ground_is) = each 0 seat refl in
          let (same_number, same_pool, same_ground) = same in
          subst (IsSeatAt known_ground pool 0) (same_Some later s at) (same_number ∙ number, same_pool ∙ of, same_ground ∙ ground_is)
      places pool known_ground each (suc k) s at = each (suc k) s at

  pub opened-made : (label_of : T → List ℕ) (ground_of : T → G) (home : G) (roots : List (List ℕ)) (seats : List (Seat T G)) (first later : Seat T G) (rest : List T) (put kept : List (List ℕ))
      → 1 ≤ length seats → IsWholePool seats → All IsFresh seats → All (λ seat. seat_ground seat ≡ Some home) seats
      → first ≡ slice_index_or seats 0 first → SameSeat first later → got later ≡ got first → given later ≡ given first ++ put
      → map label_of rest ≡ kept → SameLabels roots (put ++ kept) → AreTasksOf ground_of home rest
      → AreOpened label_of ground_of home roots (insert (remove seats 0) 0 later) rest
  opened-made label_of ground_of home roots [] first later rest put kept some whole fresh homes is same same_got more kept_is roots_are own = absurd (omega (arith, some))
  opened-made label_of ground_of home roots (seat ∷ others) first later rest put kept some whole fresh homes is same same_got more kept_is roots_are own =
      let same_seat : SameSeat seat later = subst (λ s. SameSeat s later) is same in
      let (same_number, same_pool, same_ground) = same_seat in
      let (no_given, no_got, dry) = All-head IsFresh seat others fresh in
      let rest_fresh = All-tail IsFresh seat others fresh in
      record {
        whole = pool-first seat later others same_seat whole;
        homes = All-cons (λ (s : Seat T G). seat_ground s ≡ Some home) later others
            (same_ground ∙ All-head (λ (s : Seat T G). seat_ground s ≡ Some home) seat others homes)
            (All-tail (λ (s : Seat T G). seat_ground s ≡ Some home) seat others homes);
        put = put;
        given_is = λ weight. omega (
          arith,
          sum_by-append weight (given later) (flat_map given others),
          ap (sum_by weight) more,
          sum_by-append weight (given first) put,
          ap (λ (s : Seat T G). sum_by weight (given s)) is,
          ap (sum_by weight) no_given,
          (fresh-sums others rest_fresh weight).0,
        );
        got_is = λ weight. omega (
          arith,
          sum_by-append weight (got later) (flat_map got others),
          ap (sum_by weight) same_got,
          ap (λ (s : Seat T G). sum_by weight (got s)) is,
          ap (sum_by weight) no_got,
          (fresh-sums others rest_fresh weight).1,
        );
        roots_are = λ weight. omega (
          arith,
          roots_are weight,
          ap (sum_by weight) kept_is,
          sum_by-append weight put kept,
          sum_by-append weight put (map label_of rest),
        );
        own = own;
      }
