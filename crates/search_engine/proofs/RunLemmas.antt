-- The runs of all workers add up.
use Rattle.std.proofs.Common.{◌≡◌, ℕ, zero, suc, ◌+◌, List, [], ◌∷◌, ◌++◌, length, refl, sym, ap, subst, ◌∙◌, arith, sum_by, flat_map, map, All, Option, Some, slice_get, length-append, ◌≤◌}
use Rattle.std.specs.List.{AllByRecursion}
use Rattle.std.proofs.lemmas.List.{length-map, map-append}
use Rattle.std.proofs.lemmas.List.Elements.{All-nil, All-cons, All-head, All-tail, All-push, All-weaker}
use Rattle.std.proofs.lemmas.List.Sums.{sum_by-append}
use Rattle.std.proofs.lemmas.Option.{same_Some}
use Rattle.search_tree.specs.Cover.{Covers, Shift, IsEven, all_made, all_given, all_got}
use Rattle.mine_model.specs.Labels.{SameLabels}
use Rattle.search_tree.proofs.CoverLemmas.{kids_weight, flat-weight}
use Rattle.mine_model.proofs.SumLemmas.{sum_by-flat_map}
use Rattle.search_tree.proofs.ShiftLemmas.{shifts_cover}
use Rattle.node_pool.specs.Deques.{Deque}
use Rattle.node_pool.specs.Pool.{seat_ground, given, got, IsSeatAt, IsWholePool}
use Rattle.node_pool.specs.declared.seat.Seat.{Seat}
use Rattle.node_pool.proofs.Steps.{sum_by_map}
use Rattle.turn_lock.specs.History.{Made}
use Rattle.turn_lock.specs.Passes.{IsPassOf, AreAllPasses, made}
use Rattle.result_board.specs.Board.{labels_of}
use Rattle.worker_threads.specs.Doing.{AreDone}
use Rattle.worker_threads.proofs.DoingLemmas.{done-long as each-long}
use Rattle.search_engine.specs.declared.worker.Worker.{Worker}
use Rattle.search_engine.specs.Workers.{BoardPass, BoardLock}
use Rattle.search_engine.specs.Shifts.{PostedFrom}
use Rattle.search_engine.specs.Crews.{AreWorkersOf, IsEquipped, IsDone, AreManned, AreRuns, AreOpened}

module _ {T G : Type 0} where
  abbrev seats_in : List (Worker T G) → List (Seat T G)
  seats_in workers = map (λ (worker : Worker T G). worker.seat) workers

  abbrev passes_in : List (Worker T G) → List BoardPass
  passes_in workers = map (λ (worker : Worker T G). worker.pass) workers

-- what all workers posted, put and got, by their seats and passes before and behind
pub record Adds {T G : Type 0} (kids : List ℕ → List (List ℕ)) (seats later : List (Seat T G)) (passes after : List BoardPass) : Type 0 where
  pub shifts : List Shift
  pub even : AllByRecursion (IsEven kids) shifts
  pub posted : SameLabels (flat_map made after) (flat_map made passes ++ all_made shifts)
  pub put : SameLabels (flat_map given later) (flat_map given seats ++ all_given shifts)
  pub taken : SameLabels (flat_map got later) (flat_map got seats ++ all_got shifts)

-- one list in front of each
front-sums : (first rest more others : List (List ℕ)) (all : List (List ℕ)) → SameLabels rest (more ++ others) → (weight : List ℕ → ℕ)
    → (one : List (List ℕ)) → sum_by weight all ≡ sum_by weight first + sum_by weight one
    → sum_by weight (all ++ rest) ≡ sum_by weight ((first ++ more) ++ (one ++ others))
front-sums first rest more others all same weight one is = omega (
  arith,
  same weight,
  is,
  sum_by-append weight all rest,
  sum_by-append weight more others,
  sum_by-append weight (first ++ more) (one ++ others),
  sum_by-append weight first more,
  sum_by-append weight one others,
)

module _ {T G : Type 0} (kids : List ℕ → List (List ℕ)) (board : BoardLock) where
  pub runs-add : (workers dones : List (Worker T G)) → AreDone (IsDone kids board) workers dones
      → Adds kids (seats_in workers) (seats_in dones) (passes_in workers) (passes_in dones)
  runs-add [] [] are = record {
    shifts = [];
    even = tt;
    posted = λ weight. refl;
    put = λ weight. refl;
    taken = λ weight. refl;
  }
  runs-add [] (done ∷ dones) are = absurd are
  runs-add (worker ∷ workers) [] are = absurd are
  runs-add (worker ∷ workers) (done ∷ dones) are =
      let rest = runs-add workers dones are.1 in
      let run = are.0.run in
      record {
        shifts = run.shift ∷ rest.shifts;
        even = (run.even, rest.even);
        posted = λ weight. front-sums (made worker.pass) (flat_map made (passes_in dones)) (flat_map made (passes_in workers)) (all_made rest.shifts) (made done.pass) rest.posted weight run.shift.made
            (ap (sum_by weight) run.is_shift.posted ∙ sum_by-append weight (made worker.pass) run.shift.made);
        put = λ weight. front-sums (given worker.seat) (flat_map given (seats_in dones)) (flat_map given (seats_in workers)) (all_given rest.shifts) (given done.seat) rest.put weight run.shift.given
            (ap (sum_by weight) run.is_shift.put ∙ sum_by-append weight (given worker.seat) run.shift.given);
        taken = λ weight. front-sums (got worker.seat) (flat_map got (seats_in dones)) (flat_map got (seats_in workers)) (all_got rest.shifts) (got done.seat) rest.taken weight run.shift.got
            (run.is_shift.taken weight ∙ sum_by-append weight (got worker.seat) run.shift.got);
      }

  -- the seats are still those of the pool
  seats-stay : (pool : List Deque) (known_ground : Option G) (workers dones : List (Worker T G)) → AreDone (IsDone kids board) workers dones → (from : ℕ)
      → ((k : ℕ) (s : Seat T G) → slice_get (seats_in workers) k ≡ Some s → IsSeatAt known_ground pool (from + k) s)
      → (k : ℕ) (s : Seat T G) → slice_get (seats_in dones) k ≡ Some s → IsSeatAt known_ground pool (from + k) s
  seats-stay pool known_ground [] [] are from each k s at = each k s at
  seats-stay pool known_ground [] (done ∷ dones) are from each k s at = absurd are
  seats-stay pool known_ground (worker ∷ workers) [] are from each k s at = absurd are
  seats-stay pool known_ground (worker ∷ workers) (done ∷ dones) are from each zero s at =
      let (number, of, ground) = each 0 worker.seat refl in
      let (same_number, same_pool, same_ground) = are.0.same in
      subst (IsSeatAt known_ground pool (from + 0)) (same_Some done.seat s at) (same_number ∙ number, same_pool ∙ of, same_ground ∙ ground)
  seats-stay pool known_ground (worker ∷ workers) (done ∷ dones) are from each (suc k) s at =
      subst (λ n. IsSeatAt known_ground pool n s) (omega arith)
      (seats-stay pool known_ground workers dones are.1 (suc from) (λ j t there. subst (λ n. IsSeatAt known_ground pool n t) (omega arith) (each (suc j) t there)) k s at)

  workers-long : (workers dones : List (Worker T G)) → AreDone (IsDone kids board) workers dones → length (seats_in dones) ≡ length (seats_in workers)
  workers-long workers dones are =
      let seat_of : Worker T G → Seat T G = λ worker. worker.seat in
      length-map dones seat_of ∙ each-long (IsDone kids board) workers dones are ∙ sym (length-map workers seat_of)

  pub pool-stays : (workers dones : List (Worker T G)) → AreDone (IsDone kids board) workers dones → IsWholePool (seats_in workers) → IsWholePool (seats_in dones)
  pool-stays workers dones are whole =
      let (pool, known_ground, long, each) = whole in (
        pool,
        known_ground,
        long ∙ sym (workers-long workers dones are),
        λ k s at. subst (λ n. IsSeatAt known_ground pool n s) (omega arith)
            (seats-stay pool known_ground workers dones are 0 (λ j t there. subst (λ n. IsSeatAt known_ground pool n t) (omega arith) (each j t there)) k s at),
      )

  pub passes-stay : (workers dones : List (Worker T G)) → AreDone (IsDone kids board) workers dones → All (IsPassOf board) (passes_in dones)
  passes-stay [] [] are = All-nil (IsPassOf board)
  passes-stay [] (done ∷ dones) are = absurd are
  passes-stay (worker ∷ workers) [] are = absurd are
  passes-stay (worker ∷ workers) (done ∷ dones) are = All-cons (IsPassOf board) done.pass (passes_in dones) are.0.pass_is (passes-stay workers dones are.1)

module _ {T G : Type 0} (home : G) (board : BoardLock) where
  -- seats and passes of workers
  pub workers-manned : (workers : List (Worker T G)) → AreManned home board (seats_in workers) (passes_in workers) → All (IsEquipped home board) workers
  workers-manned [] manned = All-nil (IsEquipped home board)
  workers-manned (worker ∷ workers) manned = All-cons (IsEquipped home board) worker workers manned.0 (workers-manned workers manned.1)

-- the same labels in another order cover the same tree
pub covers-same : (roots : List (List ℕ)) (kids : List ℕ → List (List ℕ)) (labels others : List (List ℕ)) → SameLabels others labels → Covers roots kids labels → Covers roots kids others
covers-same roots kids labels others same covers = λ weight. omega (
  arith,
  same weight,
  covers weight,
  sum_by-append weight roots (flat_map kids labels),
  sum_by-append weight roots (flat_map kids others),
  flat-weight kids weight labels,
  flat-weight kids weight others,
  same (kids_weight kids weight),
)

fresh-none : (passes : List BoardPass) → All (λ (pass : BoardPass). made pass ≡ []) passes → (weight : List ℕ → ℕ) → sum_by weight (flat_map made passes) ≡ 0
fresh-none [] all weight = refl
fresh-none (pass ∷ passes) all weight = omega (
  arith,
  sum_by-append weight (made pass) (flat_map made passes),
  ap (sum_by weight) (All-head (λ (p : BoardPass). made p ≡ []) pass passes all),
  fresh-none passes (All-tail (λ (p : BoardPass). made p ≡ []) pass passes all) weight,
)

flat-append : {X : Type 0} (f : X → List (List ℕ)) (xs ys : List X) (weight : List ℕ → ℕ) → sum_by weight (flat_map f (xs ++ ys)) ≡ sum_by weight (flat_map f xs) + sum_by weight (flat_map f ys)
flat-append f [] ys weight = omega arith
flat-append f (x ∷ xs) ys weight = omega (arith, flat-append f xs ys weight, sum_by-append weight (f x) (flat_map f (xs ++ ys)), sum_by-append weight (f x) (flat_map f xs))

-- what workers and caller posted covers the tree below the roots
module _ {T G : Type 0} (label_of : T → List ℕ) (ground_of : T → G) (home : G) (kids : List ℕ → List (List ℕ)) (roots : List (List ℕ)) (seats later : List (Seat T G)) (rest left : List T) (passes after : List BoardPass) (own mine : BoardPass)
    (opened : AreOpened label_of ground_of home roots seats rest) (fresh : All (λ (pass : BoardPass). made pass ≡ []) (passes ++ own ∷ []))
    (adds : Adds kids seats later passes after) (ends : SameLabels (flat_map given later) (flat_map got later ++ map label_of left))
    (posted : List (List ℕ)) (more : made mine ≡ made own ++ posted) (below : PostedFrom kids (map label_of (rest ++ left)) posted [])
    (labels : List (List ℕ)) (labels_are : SameLabels labels (flat_map made (after ++ mine ∷ []))) where
  finished : SameLabels (opened.put ++ all_given adds.shifts) (all_got adds.shifts ++ map label_of left)
  finished = λ weight. omega (
    arith,
    ends weight,
    adds.put weight,
    adds.taken weight,
    opened.given_is weight,
    opened.got_is weight,
    sum_by-append weight (flat_map got later) (map label_of left),
    sum_by-append weight (flat_map given seats) (all_given adds.shifts),
    sum_by-append weight (flat_map got seats) (all_got adds.shifts),
    sum_by-append weight opened.put (all_given adds.shifts),
    sum_by-append weight (all_got adds.shifts) (map label_of left),
  )

  labels-made : SameLabels labels (all_made adds.shifts ++ posted)
  labels-made = λ weight. omega (
    arith,
    labels_are weight,
    flat-append made after (mine ∷ []) weight,
    sum_by-append weight (made mine) [],
    ap (sum_by weight) more,
    sum_by-append weight (made own) posted,
    adds.posted weight,
    sum_by-append weight (flat_map made passes) (all_made adds.shifts),
    flat-append made passes (own ∷ []) weight,
    sum_by-append weight (made own) [],
    fresh-none (passes ++ own ∷ []) fresh weight,
    sum_by-append weight (all_made adds.shifts) posted,
  )

  pub whole-cover : Covers roots kids labels
  whole-cover = covers-same roots kids (all_made adds.shifts ++ posted) labels labels-made
      (shifts_cover roots opened.put (map label_of rest) (map label_of left) posted kids adds.shifts opened.roots_are adds.even finished
      (λ weight. omega (
        arith,
        below weight,
        sum_by-append weight posted [],
        ap (sum_by weight) (map-append label_of rest left),
        sum_by-append weight (map label_of (rest ++ left)) (flat_map kids posted),
        sum_by-append weight (map label_of rest ++ map label_of left) (flat_map kids posted),
      )))

-- what workers are given and give back, by their seats and passes
module _ {T G : Type 0} (home : G) (board : BoardLock) where
  pub given-manned : (seats : List (Seat T G)) (passes : List BoardPass) (workers : List (Worker T G)) → AreWorkersOf seats passes workers → AreManned home board seats passes
      → All (IsEquipped home board) workers
  given-manned seats passes workers are manned = workers-manned home board workers
      (subst (λ (l : List (Seat T G)). AreManned home board l (passes_in workers)) (sym are.seats_are)
      (subst (λ (l : List BoardPass). AreManned home board seats l) (sym are.passes_are) manned))

module _ {T G : Type 0} (kids : List ℕ → List (List ℕ)) (board : BoardLock) where
  pub runs-made : (seats later : List (Seat T G)) (passes after : List BoardPass) (workers dones : List (Worker T G))
      → AreWorkersOf seats passes workers → AreDone (IsDone kids board) workers dones → AreWorkersOf later after dones → AreRuns kids board seats later passes after
  runs-made seats later passes after workers dones are done back = record {
    before = workers;
    behind = dones;
    given_are = are;
    back_are = back;
    done = done;
  }

  -- by their seats and passes
  pub runs-adds : (seats later : List (Seat T G)) (passes after : List BoardPass) → AreRuns kids board seats later passes after → Adds kids seats later passes after
  runs-adds seats later passes after runs =
      let adds = runs-add kids board runs.before runs.behind runs.done in
      let (given_are, back_are) : AreWorkersOf seats passes runs.before × AreWorkersOf later after runs.behind = (runs.given_are, runs.back_are) in
      record {
        shifts = adds.shifts;
        even = adds.even;
        posted = λ weight. ap (λ (l : List BoardPass). sum_by weight (flat_map made l)) (sym back_are.passes_are) ∙ adds.posted weight
            ∙ ap (λ (l : List BoardPass). sum_by weight (flat_map made l ++ all_made adds.shifts)) given_are.passes_are;
        put = λ weight. ap (λ (l : List (Seat T G)). sum_by weight (flat_map given l)) (sym back_are.seats_are) ∙ adds.put weight
            ∙ ap (λ (l : List (Seat T G)). sum_by weight (flat_map given l ++ all_given adds.shifts)) given_are.seats_are;
        taken = λ weight. ap (λ (l : List (Seat T G)). sum_by weight (flat_map got l)) (sym back_are.seats_are) ∙ adds.taken weight
            ∙ ap (λ (l : List (Seat T G)). sum_by weight (flat_map got l ++ all_got adds.shifts)) given_are.seats_are;
      }

  pub runs-pool : (seats later : List (Seat T G)) (passes after : List BoardPass) → AreRuns kids board seats later passes after → IsWholePool seats → IsWholePool later
  runs-pool seats later passes after runs whole = subst IsWholePool runs.back_are.seats_are
      (pool-stays kids board runs.before runs.behind runs.done (subst IsWholePool (sym runs.given_are.seats_are) whole))

  pub runs-passes : (seats later : List (Seat T G)) (passes after : List BoardPass) → AreRuns kids board seats later passes after → All (IsPassOf board) after
  runs-passes seats later passes after runs = subst (All (IsPassOf board)) runs.back_are.passes_are (passes-stay kids board runs.before runs.behind runs.done)

  done-homes : (home : G) (workers dones : List (Worker T G)) → AreDone (IsDone kids board) workers dones → All (λ seat. seat_ground seat ≡ Some home) (seats_in workers)
      → All (λ seat. seat_ground seat ≡ Some home) (seats_in dones)
  done-homes home [] [] are all = all
  done-homes home [] (done ∷ dones) are all = absurd are
  done-homes home (worker ∷ workers) [] are all = absurd are
  done-homes home (worker ∷ workers) (done ∷ dones) are all =
      let (same_number, same_pool, same_ground) = are.0.same in
      All-cons (λ (s : Seat T G). seat_ground s ≡ Some home) done.seat (seats_in dones)
      (same_ground ∙ All-head (λ (s : Seat T G). seat_ground s ≡ Some home) worker.seat (seats_in workers) all)
      (done-homes home workers dones are.1 (All-tail (λ (s : Seat T G). seat_ground s ≡ Some home) worker.seat (seats_in workers) all))

  pub runs-homes : (home : G) (seats later : List (Seat T G)) (passes after : List BoardPass) → AreRuns kids board seats later passes after
      → All (λ seat. seat_ground seat ≡ Some home) seats → All (λ seat. seat_ground seat ≡ Some home) later
  runs-homes home seats later passes after runs all = subst (All (λ (s : Seat T G). seat_ground s ≡ Some home)) runs.back_are.seats_are
      (done-homes home runs.before runs.behind runs.done (subst (All (λ (s : Seat T G). seat_ground s ≡ Some home)) (sym runs.given_are.seats_are) all))

  done-long : (workers dones : List (Worker T G)) → AreDone (IsDone kids board) workers dones → length (passes_in dones) ≡ length (passes_in workers)
  done-long workers dones are =
      let pass_of : Worker T G → BoardPass = λ worker. worker.pass in
      length-map dones pass_of ∙ each-long (IsDone kids board) workers dones are ∙ sym (length-map workers pass_of)

  pub runs-long : (seats later : List (Seat T G)) (passes after : List BoardPass) → AreRuns kids board seats later passes after
      → (length after ≡ length passes) × (length later ≡ length seats)
  runs-long seats later passes after runs = (
    ap length (sym runs.back_are.passes_are) ∙ done-long runs.before runs.behind runs.done ∙ ap length runs.given_are.passes_are,
    ap length (sym runs.back_are.seats_are) ∙ workers-long kids board runs.before runs.behind runs.done ∙ ap length runs.given_are.seats_are,
  )

-- each seat with a pass
pub manned-all : {T G : Type 0} (home : G) (board : BoardLock) (seats : List (Seat T G)) (passes : List BoardPass) → length passes ≡ length seats
    → All (λ seat. seat_ground seat ≡ Some home) seats → All (IsPassOf board) passes → AreManned home board seats passes
manned-all home board [] [] many homes are = tt
manned-all home board [] (pass ∷ passes) many homes are = absurd (omega (arith, many))
manned-all home board (seat ∷ seats) [] many homes are = absurd (omega (arith, many))
manned-all {T} {G} home board (seat ∷ seats) (pass ∷ passes) many homes are = (
  record {
    seat_is = All-head (λ (s : Seat T G). seat_ground s ≡ Some home) seat seats homes;
    pass_is = All-head (IsPassOf board) pass passes are;
  },
  manned-all home board seats passes (omega (arith, many)) (All-tail (λ (s : Seat T G). seat_ground s ≡ Some home) seat seats homes) (All-tail (IsPassOf board) pass passes are),
)

front-all : {X : Type 0} (P : X → Type 0) (xs : List X) (x : X) → All P (xs ++ x ∷ []) → All P xs × P x
front-all P [] x all = (All-nil P, All-head P x [] all)
front-all P (y ∷ xs) x all =
    let rest = front-all P xs x (All-tail P y (xs ++ x ∷ []) all) in
    (All-cons P y xs (All-head P y (xs ++ x ∷ []) all) rest.0, rest.1)

-- the passes of a lock, the last one apart
pub all-passes : (board : BoardLock) (passes : List BoardPass) (own : BoardPass) → AreAllPasses board (passes ++ own ∷ []) → All (IsPassOf board) passes × IsPassOf board own
all-passes board passes own all = front-all (IsPassOf board) passes own all.each

pub passes-back : (board : BoardLock) (passes after : List BoardPass) (own mine : BoardPass) → AreAllPasses board (passes ++ own ∷ []) → length after ≡ length passes
    → All (IsPassOf board) after → IsPassOf board mine → AreAllPasses board (after ++ mine ∷ [])
passes-back board passes after own mine all many each last = record {
  each = All-push (IsPassOf board) after mine each last;
  all = omega (arith, length-append after (mine ∷ []), length-append passes (own ∷ []), many, all.all);
}

-- a history and its labels
pub history-labels : (history : List Made) (passes : List BoardPass) → ((f : List ℕ → ℕ) → sum_by (λ c. f c.1) history ≡ sum_by (λ p. sum_by f (made p)) passes)
    → SameLabels (labels_of history) (flat_map made passes)
history-labels history passes counts = λ weight.
    sum_by_map weight (λ (c : Made). c.1) history ∙ counts weight ∙ sym (sum_by-flat_map weight made passes)

-- what is left belongs where the seats do
pub left-own : {T G : Type 0} (ground_of : T → G) (home : G) (seats : List (Seat T G)) (left : List T) → 1 ≤ length seats → All (λ seat. seat_ground seat ≡ Some home) seats
    → All (λ task. All (λ seat. seat_ground seat ≡ Some (ground_of task)) seats) left → All (λ task. ground_of task ≡ home) left
left-own ground_of home [] left some homes are = absurd (omega (arith, some))
left-own {T} {G} ground_of home (seat ∷ seats) left some homes are =
    All-weaker (λ task. All (λ (s : Seat T G). seat_ground s ≡ Some (ground_of task)) (seat ∷ seats)) (λ task. ground_of task ≡ home)
    (λ task all. same_Some (ground_of task) home
    (sym (All-head (λ (s : Seat T G). seat_ground s ≡ Some (ground_of task)) seat seats all) ∙ All-head (λ (s : Seat T G). seat_ground s ≡ Some home) seat seats homes)) left are
