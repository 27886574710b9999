-- What is done to nodes is done to their labels.
use Rattle.std.proofs.Common.{◌≡◌, ◌≢◌, ℕ, zero, suc, ◌<◌, Option, Some, None, List, [], ◌∷◌, ◌++◌, map, set, slice_get, length, refl, ap, ◌∙◌, arith}
use Rattle.std.specs.Option.{option_map}
use Rattle.std.proofs.lemmas.List.{map-append, map-set, nil_from_length}
use Rattle.std.proofs.lemmas.Option.{slice_get-map}
use Rattle.pool_schedule.specs.State.{Load, State}
use Rattle.pool_schedule.specs.Steps.{Posts, Grows, Puts, Takes, Steals, IsEnabled}
use Rattle.pool_schedule.specs.Worker.{IsBusy, IsFree, PutsNode, TakesNode, GrowsNode}
use Rattle.pool_schedule.specs.Machine.{load, seen, MayStep, PostsNode, StealsNode}
use Rattle.pool_schedule.specs.declared.event.Event.{Event}
use Rattle.pool_schedule.specs.declared.event.Event.TheVariants.{Put, Take, Steal, Grow, Post}
use Rattle.pool_schedule.specs.declared.machine.Machine.{Machine}
use Rattle.pool_schedule.specs.declared.worker.Pending.{Pending}
use Rattle.pool_schedule.specs.declared.worker.Worker.{Worker}

made : List (List ℕ) → List (List ℕ) → Option (List ℕ) → Load
made d h p = record { deque = d; stack = h; pending = p }

pub same-load : (x y : Load) → x.deque ≡ y.deque → x.stack ≡ y.stack → x.pending ≡ y.pending → x ≡ y
unfolding made
same-load x y d h p =
    let one : made x.deque x.stack x.pending ≡ made y.deque x.stack x.pending = ap (λ l. made l x.stack x.pending) d in
    let two : made y.deque x.stack x.pending ≡ made y.deque y.stack x.pending = ap (λ l. made y.deque l x.pending) h in
    let three : made y.deque y.stack x.pending ≡ made y.deque y.stack y.pending = ap (λ l. made y.deque y.stack l) p in
    one ∙ two ∙ three

module _ {N : Type 0} (label : N → List ℕ) where
  pub load-at : (workers : List (Worker N)) (w : ℕ) (x : Worker N) → slice_get workers w ≡ Some x → slice_get (map (load label) workers) w ≡ Some (load label x)
  load-at workers w x at = slice_get-map (load label) workers w ∙ ap (option_map (load label)) at

  load-set : (workers after : List (Worker N)) (w : ℕ) (y : Worker N) → after ≡ set workers w y → map (load label) after ≡ set (map (load label) workers) w (load label y)
  load-set workers after w y is = ap (map (load label)) is ∙ map-set (load label) workers w y

  loaded : (workers after : List (Worker N)) (w : ℕ) (y : Worker N) (l : Load) → after ≡ set workers w y → load label y ≡ l
      → map (load label) after ≡ set (map (load label) workers) w l
  loaded workers after w y l is same = load-set workers after w y is ∙ ap (λ (z : Load). set (map (load label) workers) w z) same

  none-pending : (p : Option Pending) → p ≡ None → option_map (λ (pending : Pending). pending.label) p ≡ None
  none-pending p none = ap (option_map (λ (pending : Pending). pending.label)) none

  last-label : (xs rest : List N) (node : N) → xs ≡ rest ++ node ∷ [] → map label xs ≡ map label rest ++ label node ∷ []
  last-label xs rest node is = ap (map label) is ∙ map-append label rest (node ∷ [])

  only-label : (before after : List N) (node : N) → length before ≡ 0 → after ≡ before ++ node ∷ [] → map label after ≡ label node ∷ []
  only-label before after node none is = ap (map label) (is ∙ ap (λ l. l ++ node ∷ []) (nil_from_length before none))

  no-labels : (xs : List N) → length xs ≡ 0 → map label xs ≡ []
  no-labels xs none = ap (map label) (nil_from_length xs none)

  pub posts-seen : (w : ℕ) (before after : Machine N) → PostsNode w before after → Posts w (seen label before) (seen label after)
  posts-seen w before after s = record {
    worker = load label s.worker;
    label = s.pending.label;
    at = load-at before.workers.items w s.worker s.at;
    pending = ap (option_map (λ (pending : Pending). pending.label)) s.is;
    workers = load-set before.workers.items after.workers.items w (record s.worker { pending = None }) s.workers;
    posted = s.labels;
  }

  -- the state once this worker stands in the place of w
  abbrev pub with_worker : Machine N → ℕ → Worker N → State
  with_worker before w y = record { workers = map (load label) (set before.workers.items w y); posted = before.posted.labels }

  pub puts-seen : (w : ℕ) (x y : Worker N) (before : Machine N) → slice_get before.workers.items w ≡ Some x → IsBusy x → PutsNode x y
      → Puts w (seen label before) (with_worker before w y)
  puts-seen w x y before at busy p = record {
    worker = load label x;
    rest = map label y.stack.items;
    label = label p.node;
    at = load-at before.workers.items w x at;
    pending = none-pending x.pending busy.0;
    stack = ap (map label) p.stack;
    workers = loaded before.workers.items (set before.workers.items w y) w y
        (record { deque = map label x.deque.items ++ label p.node ∷ []; stack = map label y.stack.items; pending = None }) refl
        (same-load _ _ (last-label y.deque.items x.deque.items p.node p.deque) refl (none-pending y.pending (p.pending ∙ busy.0)));
    posted = refl;
  }

  pub takes-seen : (w : ℕ) (x y : Worker N) (before : Machine N) → slice_get before.workers.items w ≡ Some x → IsFree x → TakesNode x y
      → Takes w (seen label before) (with_worker before w y)
  takes-seen w x y before at free p = record {
    worker = load label x;
    rest = map label y.deque.items;
    label = label p.node;
    at = load-at before.workers.items w x at;
    pending = none-pending x.pending free.0;
    stack = no-labels x.stack.items free.1;
    deque = last-label x.deque.items y.deque.items p.node p.deque;
    workers = loaded before.workers.items (set before.workers.items w y) w y
        (record { deque = map label y.deque.items; stack = label p.node ∷ []; pending = None }) refl
        (same-load _ _ refl (only-label x.stack.items y.stack.items p.node free.1 p.stack) (none-pending y.pending (p.pending ∙ free.0)));
    posted = refl;
  }

  pub steals-seen : (w from : ℕ) (before after : Machine N) → StealsNode w from before after → from ≢ w
      → ((x : Worker N) → slice_get before.workers.items w ≡ Some x → IsFree x) → Steals w from (seen label before) (seen label after)
  steals-seen w from before after s other free =
      let f : IsFree s.worker = free s.worker s.at in
      record {
        worker = load label s.worker;
        victim = load label s.victim;
        rest = map label s.robbed.deque.items;
        label = label s.node;
        other = other;
        at = load-at before.workers.items w s.worker s.at;
        at_victim = load-at before.workers.items from s.victim s.at_victim;
        pending = none-pending s.worker.pending f.0;
        stack = no-labels s.worker.stack.items f.1;
        deque = ap (map label) s.lost;
        workers =
            loaded (set before.workers.items from s.robbed) after.workers.items w s.thief
            (record { deque = map label s.worker.deque.items; stack = label s.node ∷ []; pending = None }) s.workers
            (same-load _ _ (ap (map label) s.same.0) (only-label s.worker.stack.items s.thief.stack.items s.node f.1 s.got) (none-pending s.thief.pending (s.same.1 ∙ f.0)))
            ∙ ap (λ (l : List Load). set l w (record { deque = map label s.worker.deque.items; stack = label s.node ∷ []; pending = None }))
            (loaded before.workers.items (set before.workers.items from s.robbed) from s.robbed
            (record { deque = map label s.robbed.deque.items; stack = map label s.victim.stack.items; pending = option_map (λ (pending : Pending). pending.label) s.victim.pending }) refl
            (same-load _ _ refl (ap (map label) s.kept.0) (ap (option_map (λ (pending : Pending). pending.label)) s.kept.1)));
        posted = ap (λ posted. posted.labels) s.posted;
      }

  pub grows-seen : (kids : List ℕ → List (List ℕ)) (row : List ℕ → Option _) (IsOwn : N → Type 0) (w : ℕ) (x y : Worker N) (before : Machine N)
      → slice_get before.workers.items w ≡ Some x → IsBusy x → GrowsNode label kids row IsOwn x y → Grows kids w (seen label before) (with_worker before w y)
  grows-seen kids row IsOwn w x y before at busy p = record {
    worker = load label x;
    rest = map label p.rest;
    label = label p.node;
    at = load-at before.workers.items w x at;
    pending = none-pending x.pending busy.0;
    stack = last-label x.stack.items p.rest p.node p.stack;
    workers = loaded before.workers.items (set before.workers.items w y) w y
        (record { deque = map label x.deque.items; stack = map label p.rest ++ kids (label p.node); pending = Some (label p.node) }) refl
        (same-load _ _ (ap (map label) p.deque)
        (ap (map label) p.stack_after ∙ map-append label p.rest p.new ∙ ap (λ l. map label p.rest ++ l) p.labels)
        (ap (option_map (λ (pending : Pending). pending.label)) p.pending));
    posted = refl;
  }

  -- what is enabled for labels is enabled for nodes

  unload-at : (workers : List (Worker N)) (w : ℕ) (l : Load) → slice_get (map (load label) workers) w ≡ Some l
      → (x : Worker N) × (slice_get workers w ≡ Some x) × (load label x ≡ l)
  unload-at [] w l at = absurd (cc)
  unload-at (x ∷ workers) zero l at = let same : load label x ≡ l = cc in (x, refl, same)
  unload-at (x ∷ workers) (suc w) l at = unload-at workers w l at

  some-pending : (p : Option Pending) (l : List ℕ) → option_map (λ (pending : Pending). pending.label) p ≡ Some l → (pending : Pending) × (p ≡ Some pending)
  some-pending None l is = absurd (cc)
  some-pending (Some pending) l is = (pending, refl)

  no-pending : (p : Option Pending) → option_map (λ (pending : Pending). pending.label) p ≡ None → p ≡ None
  no-pending None is = refl
  no-pending (Some pending) is = absurd (cc)

  pub no-nodes : (xs : List N) → map label xs ≡ [] → length xs ≡ 0
  no-nodes [] is = refl
  no-nodes (x ∷ xs) is = absurd (cc)

  some-nodes : (xs : List N) (l : List ℕ) (rest : List (List ℕ)) → map label xs ≡ l ∷ rest → 0 < length xs
  some-nodes [] l rest is = absurd (cc)
  some-nodes (x ∷ xs) l rest is = omega arith

  last-nodes : (xs : List N) (l : List ℕ) (rest : List (List ℕ)) → map label xs ≡ rest ++ l ∷ [] → 0 < length xs
  last-nodes [] l [] is = absurd (cc)
  last-nodes [] l (y ∷ rest) is = absurd (cc)
  last-nodes (x ∷ xs) l rest is = omega arith

  pub enabled-may : (kids : List ℕ → List (List ℕ)) (event : Event) (machine : Machine N) → IsEnabled kids event (seen label machine) → MayStep event machine.workers.items
  enabled-may kids (Post w) machine (after, s) =
      let (x, at, is) = unload-at machine.workers.items w s.worker s.at in
      (x, at, some-pending x.pending s.label (ap (λ (l : Load). l.pending) is ∙ s.pending))
  enabled-may kids (Grow w) machine (after, s) =
      let (x, at, is) = unload-at machine.workers.items w s.worker s.at in
      (x, at, (no-pending x.pending (ap (λ (l : Load). l.pending) is ∙ s.pending), last-nodes x.stack.items s.label s.rest (ap (λ (l : Load). l.stack) is ∙ s.stack)))
  enabled-may kids (Put w) machine (after, s) =
      let (x, at, is) = unload-at machine.workers.items w s.worker s.at in
      (x, at, (no-pending x.pending (ap (λ (l : Load). l.pending) is ∙ s.pending), some-nodes x.stack.items s.label s.rest (ap (λ (l : Load). l.stack) is ∙ s.stack)))
  enabled-may kids (Take w) machine (after, s) =
      let (x, at, is) = unload-at machine.workers.items w s.worker s.at in (
        x,
        at,
        (no-pending x.pending (ap (λ (l : Load). l.pending) is ∙ s.pending), no-nodes x.stack.items (ap (λ (l : Load). l.stack) is ∙ s.stack)),
        last-nodes x.deque.items s.label s.rest (ap (λ (l : Load). l.deque) is ∙ s.deque),
      )
  enabled-may kids (Steal w from) machine (after, s) =
      let (x, at, is) = unload-at machine.workers.items w s.worker s.at in
      let (v, at_victim, is_victim) = unload-at machine.workers.items from s.victim s.at_victim in (
        x,
        v,
        at,
        at_victim,
        s.other,
        (no-pending x.pending (ap (λ (l : Load). l.pending) is ∙ s.pending), no-nodes x.stack.items (ap (λ (l : Load). l.stack) is ∙ s.stack)),
        some-nodes v.deque.items s.label s.rest (ap (λ (l : Load). l.deque) is_victim ∙ s.deque),
      )
