-- Each event keeps the machine's balance, and a quiet machine has posted a cover.
use Rattle.std.proofs.Common.{◌≡◌, ◌≢◌, ℕ, zero, suc, ◌+◌, ◌-◌, ◌≤◌, Option, Some, None, List, [], ◌∷◌, ◌++◌, set, slice_get, length, refl, sym, ap, ◌∙◌, arith, length-append, replicate, sum_by, flat_map, subst}
use Rattle.std.proofs.lemmas.List.{append-nil, length_push}
use Rattle.std.proofs.lemmas.List.Sums.{sum_by-cons, sum_by-append}
use Rattle.search_tree.specs.Cover.{Covers}
use Rattle.pool_schedule.specs.State.{Load, State, pending_of, all_pending, all_held, grown, IsBalanced, IsIdle, idle, start}
use Rattle.pool_schedule.specs.Steps.{Posts, Grows, Puts, Takes, Steals, Step, Runs}
use Rattle.pool_schedule.specs.declared.event.Event.{Event}
use Rattle.pool_schedule.specs.declared.event.Event.TheVariants.{Post, Grow, Put, Take, Steal}
use Rattle.pool_schedule.proofs.Measure.{lying, IsWithin, left_over, extra}
use Rattle.search_tree.proofs.CoverLemmas.{kids_weight, kids-weight, flat-weight}
use Rattle.mine_model.proofs.ElementLemmas.{flat_map_set}

pending_weight : (List ℕ → ℕ) → List Load → ℕ
pending_weight weight workers = sum_by weight (all_pending workers)

held_weight : (List ℕ → ℕ) → List Load → ℕ
held_weight weight workers = sum_by weight (all_held workers)

-- the balance, weighed
abbrev Weighs : List (List ℕ) → (List ℕ → List (List ℕ)) → State → (List ℕ → ℕ) → Type 0
Weighs roots kids machine weight =
    (sum_by weight machine.posted + pending_weight weight machine.workers) + held_weight weight machine.workers
    ≡ (sum_by weight roots + sum_by (kids_weight kids weight) machine.posted) + pending_weight (kids_weight kids weight) machine.workers

weighs_of : (roots : List (List ℕ)) (kids : List ℕ → List (List ℕ)) (machine : State) (weight : List ℕ → ℕ) → IsBalanced roots kids machine → Weighs roots kids machine weight
unfolding pending_weight held_weight
weighs_of roots kids machine weight balance =
    omega (
      arith,
      balance weight,
      sum_by-append weight (machine.posted ++ all_pending machine.workers) (all_held machine.workers),
      sum_by-append weight machine.posted (all_pending machine.workers),
      sum_by-append weight roots (flat_map kids (machine.posted ++ all_pending machine.workers)),
      flat-weight kids weight (machine.posted ++ all_pending machine.workers),
      sum_by-append (kids_weight kids weight) machine.posted (all_pending machine.workers),
    )

balance_of : (roots : List (List ℕ)) (kids : List ℕ → List (List ℕ)) (machine : State) → ((weight : List ℕ → ℕ) → Weighs roots kids machine weight) → IsBalanced roots kids machine
unfolding pending_weight held_weight
balance_of roots kids machine weighs = λ weight.
    omega (
      arith,
      weighs weight,
      sum_by-append weight (machine.posted ++ all_pending machine.workers) (all_held machine.workers),
      sum_by-append weight machine.posted (all_pending machine.workers),
      sum_by-append weight roots (flat_map kids (machine.posted ++ all_pending machine.workers)),
      flat-weight kids weight (machine.posted ++ all_pending machine.workers),
      sum_by-append (kids_weight kids weight) machine.posted (all_pending machine.workers),
    )

pending-set : (weight : List ℕ → ℕ) (workers : List Load) (w : ℕ) (x y : Load) → slice_get workers w ≡ Some x
    → pending_weight weight (set workers w y) + sum_by weight (pending_of x.pending) ≡ pending_weight weight workers + sum_by weight (pending_of y.pending)
unfolding pending_weight
pending-set weight workers w x y at = flat_map_set (λ (worker : Load). pending_of worker.pending) weight workers w x y at

held-set : (weight : List ℕ → ℕ) (workers : List Load) (w : ℕ) (x y : Load) → slice_get workers w ≡ Some x
    → held_weight weight (set workers w y) + (sum_by weight x.stack + sum_by weight x.deque) ≡ held_weight weight workers + (sum_by weight y.stack + sum_by weight y.deque)
unfolding held_weight
held-set weight workers w x y at = omega (
  arith,
  flat_map_set (λ (worker : Load). worker.stack ++ worker.deque) weight workers w x y at,
  sum_by-append weight x.stack x.deque,
  sum_by-append weight y.stack y.deque,
)

one-weight : (weight : List ℕ → ℕ) (label : List ℕ) → sum_by weight (label ∷ []) ≡ weight label
one-weight weight label = let e : sum_by weight (label ∷ []) ≡ weight label + 0 = sum_by-cons weight label [] in omega arith

last-weight : (weight : List ℕ → ℕ) (labels rest : List (List ℕ)) (label : List ℕ) → labels ≡ rest ++ label ∷ [] → sum_by weight labels ≡ sum_by weight rest + weight label
last-weight weight labels rest label is =
    let whole : sum_by weight labels ≡ sum_by weight (rest ++ label ∷ []) = ap (sum_by weight) is in
    omega (arith, sum_by-append weight rest (label ∷ []), one-weight weight label)

first-weight : (weight : List ℕ → ℕ) (labels rest : List (List ℕ)) (label : List ℕ) → labels ≡ label ∷ rest → sum_by weight labels ≡ sum_by weight rest + weight label
first-weight weight labels rest label is =
    let whole : sum_by weight labels ≡ sum_by weight (label ∷ rest) = ap (sum_by weight) is in
    omega (arith, sum_by-cons weight label rest)

no-weight : (weight : List ℕ → ℕ) (labels : List (List ℕ)) → labels ≡ [] → sum_by weight labels ≡ 0
no-weight weight labels is = ap (sum_by weight) is

none-weight : (weight : List ℕ → ℕ) (pending : Option (List ℕ)) → pending ≡ None → sum_by weight (pending_of pending) ≡ 0
none-weight weight pending is = ap (λ (p : Option (List ℕ)). sum_by weight (pending_of p)) is

some-weight : (weight : List ℕ → ℕ) (pending : Option (List ℕ)) (label : List ℕ) → pending ≡ Some label → sum_by weight (pending_of pending) ≡ weight label
some-weight weight pending label is = ap (λ (p : Option (List ℕ)). sum_by weight (pending_of p)) is ∙ one-weight weight label

-- what an event changes of the sums: what is posted was pending, what is pending was held, and its kids are held
record Moves (kids : List ℕ → List (List ℕ)) (event : Event) (before after : State) : Type 0 where
  pub posts : List (List ℕ)
  pub grows : List (List ℕ)
  pub posted : (weight : List ℕ → ℕ) → sum_by weight after.posted ≡ sum_by weight before.posted + sum_by weight posts
  pub pending : (weight : List ℕ → ℕ) → pending_weight weight after.workers + sum_by weight posts ≡ pending_weight weight before.workers + sum_by weight grows
  pub had : (weight : List ℕ → ℕ) → sum_by weight grows ≤ held_weight weight before.workers
  pub held : (weight : List ℕ → ℕ) → held_weight weight after.workers + sum_by weight grows ≡ held_weight weight before.workers + sum_by (kids_weight kids weight) grows
  pub lies : lying after.workers + 1 ≤ lying before.workers + (length posts + length grows) + extra event

part-set : {X : Type 0} (f : X → ℕ) (xs : List X) (i : ℕ) (x y : X) → slice_get xs i ≡ Some x → sum_by f (set xs i y) + f x ≡ sum_by f xs + f y
part-set f [] i x y e = absurd (cc)
part-set f (z ∷ xs) zero x y e = let is : z ≡ x = cc in let same : f z ≡ f x = ap f is in omega (arith, sum_by-cons f z xs, sum_by-cons f y xs)
part-set f (z ∷ xs) (suc i) x y e = omega (arith, sum_by-cons f z xs, sum_by-cons f z (set xs i y), part-set f xs i x y e)

lying-set : (workers : List Load) (w : ℕ) (x y : Load) → slice_get workers w ≡ Some x → lying (set workers w y) + length x.deque ≡ lying workers + length y.deque
lying-set workers w x y at = part-set (λ (worker : Load). length worker.deque) workers w x y at

same-lying : (workers after : List Load) (w : ℕ) (x y : Load) → slice_get workers w ≡ Some x → after ≡ set workers w y → lying after + length x.deque ≡ lying workers + length y.deque
same-lying workers after w x y at is = ap (λ l. lying l + length x.deque) is ∙ lying-set workers w x y at

last-length : {X : Type 0} (xs rest : List X) (x : X) → xs ≡ rest ++ x ∷ [] → length xs ≡ length rest + 1
last-length xs rest x is = ap length is ∙ length_push rest x

same-pending : (weight : List ℕ → ℕ) (workers after : List Load) (w : ℕ) (x y : Load) → slice_get workers w ≡ Some x → after ≡ set workers w y
    → pending_weight weight after + sum_by weight (pending_of x.pending) ≡ pending_weight weight workers + sum_by weight (pending_of y.pending)
same-pending weight workers after w x y at is = rw is (pending-set weight workers w x y at)

same-held : (weight : List ℕ → ℕ) (workers after : List Load) (w : ℕ) (x y : Load) → slice_get workers w ≡ Some x → after ≡ set workers w y
    → held_weight weight after + (sum_by weight x.stack + sum_by weight x.deque) ≡ held_weight weight workers + (sum_by weight y.stack + sum_by weight y.deque)
same-held weight workers after w x y at is = rw is (held-set weight workers w x y at)

same-posted : (weight : List ℕ → ℕ) (before after : List (List ℕ)) → after ≡ before → sum_by weight after ≡ sum_by weight before + 0
same-posted weight before after is = let e : sum_by weight after ≡ sum_by weight before = ap (sum_by weight) is in omega arith

post-moves : (kids : List ℕ → List (List ℕ)) (w : ℕ) (before after : State) → Posts w before after → Moves kids (Post w) before after
post-moves kids w before after s = record {
  posts = s.label ∷ [];
  grows = [];
  had = λ weight. omega arith;
  posted = λ weight. last-weight weight after.posted before.posted s.label s.posted ∙ ap (λ n. sum_by weight before.posted + n) (sym (one-weight weight s.label));
  pending = λ weight. omega (
    arith,
    one-weight weight s.label,
    some-weight weight s.worker.pending s.label s.pending,
    same-pending weight before.workers after.workers w s.worker (record { deque = s.worker.deque; stack = s.worker.stack; pending = None }) s.at s.workers,
  );
  held = λ weight. omega (
    arith,
    same-held weight before.workers after.workers w s.worker (record { deque = s.worker.deque; stack = s.worker.stack; pending = None }) s.at s.workers,
  );
  lies = omega (arith, same-lying before.workers after.workers w s.worker (record { deque = s.worker.deque; stack = s.worker.stack; pending = None }) s.at s.workers);
}

grow-moves : (kids : List ℕ → List (List ℕ)) (w : ℕ) (before after : State) → Grows kids w before after → Moves kids (Grow w) before after
grow-moves kids w before after s = record {
  posts = [];
  grows = s.label ∷ [];
  had = λ weight. omega (
    arith,
    one-weight weight s.label,
    last-weight weight s.worker.stack s.rest s.label s.stack,
    held-set weight before.workers w s.worker (record { deque = s.worker.deque; stack = s.rest; pending = s.worker.pending }) s.at,
  );
  posted = λ weight. same-posted weight before.posted after.posted s.posted;
  pending = λ weight. omega (
    arith,
    one-weight weight s.label,
    none-weight weight s.worker.pending s.pending,
    same-pending weight before.workers after.workers w s.worker (record { deque = s.worker.deque; stack = s.rest ++ kids s.label; pending = Some s.label }) s.at s.workers,
  );
  held = λ weight. omega (
    arith,
    one-weight weight s.label,
    one-weight (kids_weight kids weight) s.label,
    last-weight weight s.worker.stack s.rest s.label s.stack,
    sum_by-append weight s.rest (kids s.label),
    kids-weight kids weight s.label,
    same-held weight before.workers after.workers w s.worker (record { deque = s.worker.deque; stack = s.rest ++ kids s.label; pending = Some s.label }) s.at s.workers,
  );
  lies = omega (arith, same-lying before.workers after.workers w s.worker (record { deque = s.worker.deque; stack = s.rest ++ kids s.label; pending = Some s.label }) s.at s.workers);
}

put-moves : (kids : List ℕ → List (List ℕ)) (w : ℕ) (before after : State) → Puts w before after → Moves kids (Put w) before after
put-moves kids w before after s = record {
  posts = [];
  grows = [];
  had = λ weight. omega arith;
  posted = λ weight. same-posted weight before.posted after.posted s.posted;
  pending = λ weight. omega (
    arith,
    none-weight weight s.worker.pending s.pending,
    same-pending weight before.workers after.workers w s.worker (record { deque = s.worker.deque ++ s.label ∷ []; stack = s.rest; pending = None }) s.at s.workers,
  );
  held = λ weight. omega (
    arith,
    first-weight weight s.worker.stack s.rest s.label s.stack,
    last-weight weight (s.worker.deque ++ s.label ∷ []) s.worker.deque s.label refl,
    same-held weight before.workers after.workers w s.worker (record { deque = s.worker.deque ++ s.label ∷ []; stack = s.rest; pending = None }) s.at s.workers,
  );
  lies = omega (arith, last-length (s.worker.deque ++ s.label ∷ []) s.worker.deque s.label refl, same-lying before.workers after.workers w s.worker (record { deque = s.worker.deque ++ s.label ∷ []; stack = s.rest; pending = None }) s.at s.workers);
}

take-moves : (kids : List ℕ → List (List ℕ)) (w : ℕ) (before after : State) → Takes w before after → Moves kids (Take w) before after
take-moves kids w before after s = record {
  posts = [];
  grows = [];
  had = λ weight. omega arith;
  posted = λ weight. same-posted weight before.posted after.posted s.posted;
  pending = λ weight. omega (
    arith,
    none-weight weight s.worker.pending s.pending,
    same-pending weight before.workers after.workers w s.worker (record { deque = s.rest; stack = s.label ∷ []; pending = None }) s.at s.workers,
  );
  held = λ weight. omega (
    arith,
    no-weight weight s.worker.stack s.stack,
    one-weight weight s.label,
    last-weight weight s.worker.deque s.rest s.label s.deque,
    same-held weight before.workers after.workers w s.worker (record { deque = s.rest; stack = s.label ∷ []; pending = None }) s.at s.workers,
  );
  lies = omega (arith, last-length s.worker.deque s.rest s.label s.deque, same-lying before.workers after.workers w s.worker (record { deque = s.rest; stack = s.label ∷ []; pending = None }) s.at s.workers);
}

get-other : {X : Type 0} (xs : List X) (i j : ℕ) (y x : X) → i ≢ j → slice_get xs j ≡ Some x → slice_get (set xs i y) j ≡ Some x
get-other [] i j y x other is = absurd (cc)
get-other (z ∷ xs) zero zero y x other is = absurd (other refl)
get-other (z ∷ xs) zero (suc j) y x other is = is
get-other (z ∷ xs) (suc i) zero y x other is = is
get-other (z ∷ xs) (suc i) (suc j) y x other is = get-other xs i j y x (λ h. other (ap suc h)) is

steal-moves : (kids : List ℕ → List (List ℕ)) (w from : ℕ) (before after : State) → Steals w from before after → Moves kids (Steal w from) before after
steal-moves kids w from before after s =
    let robbed : Load = record { deque = s.rest; stack = s.victim.stack; pending = s.victim.pending } in
    let thief : Load = record { deque = s.worker.deque; stack = s.label ∷ []; pending = None } in
    let at : slice_get (set before.workers from (record { deque = s.rest; stack = s.victim.stack; pending = s.victim.pending })) w ≡ Some s.worker =
    get-other before.workers from w (record { deque = s.rest; stack = s.victim.stack; pending = s.victim.pending }) s.worker s.other s.at in
    record {
      posts = [];
      grows = [];
      had = λ weight. omega arith;
      posted = λ weight. same-posted weight before.posted after.posted s.posted;
      pending = λ weight. omega (
        arith,
        none-weight weight s.worker.pending s.pending,
        pending-set weight before.workers from s.victim robbed s.at_victim,
        same-pending weight (set before.workers from robbed) after.workers w s.worker thief at s.workers,
      );
      held = λ weight. omega (
        arith,
        no-weight weight s.worker.stack s.stack,
        one-weight weight s.label,
        first-weight weight s.victim.deque s.rest s.label s.deque,
        held-set weight before.workers from s.victim robbed s.at_victim,
        same-held weight (set before.workers from robbed) after.workers w s.worker thief at s.workers,
      );
      lies =
          let shorter : length s.victim.deque ≡ suc (length s.rest) = ap length s.deque in
          omega (
            arith,
            lying-set before.workers from s.victim robbed s.at_victim,
            same-lying (set before.workers from robbed) after.workers w s.worker thief at s.workers,
          );
    }

step-moves : (kids : List ℕ → List (List ℕ)) (event : Event) (before after : State) → Step kids event before after → Moves kids event before after
step-moves kids (Post w) before after s = post-moves kids w before after s
step-moves kids (Grow w) before after s = grow-moves kids w before after s
step-moves kids (Put w) before after s = put-moves kids w before after s
step-moves kids (Take w) before after s = take-moves kids w before after s
step-moves kids (Steal w from) before after s = steal-moves kids w from before after s

pub step-balance : (roots : List (List ℕ)) (kids : List ℕ → List (List ℕ)) (event : Event) (before after : State)
    → Step kids event before after → IsBalanced roots kids before → IsBalanced roots kids after
step-balance roots kids event before after s balance =
    let moves : Moves kids event before after = step-moves kids event before after s in
    balance_of roots kids after (λ weight. omega (
      arith,
      weighs_of roots kids before weight balance,
      moves.posted weight,
      moves.posted (kids_weight kids weight),
      moves.pending weight,
      moves.pending (kids_weight kids weight),
      moves.held weight,
    ))

pub idle-covers : (roots : List (List ℕ)) (kids : List ℕ → List (List ℕ)) (machine : State) → IsBalanced roots kids machine → IsIdle machine → Covers roots kids machine.posted
idle-covers roots kids machine balance still = λ weight.
    let pending : machine.posted ++ all_pending machine.workers ≡ machine.posted = ap (λ l. machine.posted ++ l) still.0 ∙ append-nil machine.posted in
    let left : (machine.posted ++ all_pending machine.workers) ++ all_held machine.workers ≡ machine.posted = ap (λ l. (machine.posted ++ all_pending machine.workers) ++ l) still.1 ∙ append-nil (machine.posted ++ all_pending machine.workers) ∙ pending in
    sym (ap (λ l. sum_by weight l) left) ∙ balance weight ∙ ap (λ l. sum_by weight (roots ++ flat_map kids l)) pending

none-pending : (others : ℕ) → all_pending (replicate others idle) ≡ []
none-pending zero = refl
none-pending (suc n) = none-pending n

none-held : (others : ℕ) → all_held (replicate others idle) ≡ []
none-held zero = refl
none-held (suc n) = none-held n

pub start-balance : (roots : List (List ℕ)) (kids : List ℕ → List (List ℕ)) (workers : ℕ) → IsBalanced roots kids (start roots workers)
start-balance roots kids workers = λ weight.
    let first : State = start roots workers in
    let pending : all_pending first.workers ≡ [] = none-pending (workers - 1) in
    let held : all_held first.workers ≡ roots = ap (λ l. roots ++ l) (none-held (workers - 1)) ∙ append-nil roots in
    ap (λ l. sum_by weight (all_pending first.workers ++ l)) held
    ∙ ap (λ l. sum_by weight (l ++ roots)) pending
    ∙ ap (λ l. sum_by weight l) (sym (append-nil roots))
    ∙ ap (λ l. sum_by weight (roots ++ flat_map kids l)) (sym pending)

-- at the start nothing was grown
pub start-within : (tree roots : List (List ℕ)) (workers : ℕ) → IsWithin tree (start roots workers)
start-within tree roots workers weight =
    let none : sum_by weight (grown (start roots workers)) ≡ 0 = ap (sum_by weight) (none-pending (workers - 1)) in
    omega arith

-- what is grown stays in the tree
pub step-within : (tree roots : List (List ℕ)) (kids : List ℕ → List (List ℕ)) → Covers roots kids tree
    → (event : Event) (before after : State) → Step kids event before after → IsBalanced roots kids before → IsWithin tree before → IsWithin tree after
unfolding pending_weight
step-within tree roots kids covers event before after s balance within weight =
    let moves : Moves kids event before after = step-moves kids event before after s in
    omega (
      arith,
      weighs_of roots kids before weight balance,
      covers weight,
      within (kids_weight kids weight),
      moves.had weight,
      moves.posted weight,
      moves.pending weight,
      flat-weight kids weight tree,
      sum_by-append weight roots (flat_map kids tree),
      sum_by-append weight before.posted (all_pending before.workers),
      sum_by-append weight after.posted (all_pending after.workers),
      sum_by-append (kids_weight kids weight) before.posted (all_pending before.workers),
    )

ones : List ℕ → ℕ
ones label = 1

count-ones : (labels : List (List ℕ)) → sum_by ones labels ≡ length labels
unfolding ones
count-ones [] = refl
count-ones (label ∷ labels) = omega (arith, sum_by-cons ones label labels, count-ones labels)

-- each event but a put leaves less to do
pub step-less : (tree : List (List ℕ)) (kids : List ℕ → List (List ℕ)) (event : Event) (before after : State)
    → Step kids event before after → IsWithin tree after → left_over tree after + 1 ≤ left_over tree before + extra event
unfolding pending_weight
step-less tree kids event before after s within =
    let moves : Moves kids event before after = step-moves kids event before after s in
    omega (
      arith,
      within ones,
      moves.lies,
      moves.posted ones,
      moves.pending ones,
      count-ones moves.posts,
      count-ones moves.grows,
      count-ones before.posted,
      count-ones after.posted,
      count-ones (all_pending before.workers),
      count-ones (all_pending after.workers),
      count-ones tree,
      sum_by-append ones after.posted (all_pending after.workers),
      length-append before.posted (all_pending before.workers),
      length-append after.posted (all_pending after.workers),
    )

-- each list of events keeps the balance
pub runs-balance : (roots : List (List ℕ)) (kids : List ℕ → List (List ℕ)) (events : List Event) (first last : State)
    → Runs kids first events last → IsBalanced roots kids first → IsBalanced roots kids last
runs-balance roots kids [] first last s balance = subst (λ (m : State). IsBalanced roots kids m) (sym s) balance
runs-balance roots kids (event ∷ events) first last s balance =
    let (next, step, later) = s in
    runs-balance roots kids events next last later (step-balance roots kids event first next step balance)
