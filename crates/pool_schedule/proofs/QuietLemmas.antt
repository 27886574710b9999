-- The machine is quiet exactly where it is idle.
use Rattle.std.proofs.Common.{◌≡◌, ℕ, zero, suc, Option, Some, None, List, [], ◌∷◌, ◌++◌, set, slice_get, refl, sym, ap, ◌∙◌, flat_map}
use Rattle.pool_schedule.specs.State.{Load, State, pending_of, IsIdle}
use Rattle.pool_schedule.specs.Steps.{IsQuiet}
use Rattle.pool_schedule.specs.declared.event.Event.TheVariants.{Post, Grow, Put, Take, Steal}

pub both-empty : {X : Type 0} (xs ys : List X) → xs ++ ys ≡ [] → (xs ≡ []) × (ys ≡ [])
both-empty [] ys e = (refl, e)
both-empty (x ∷ xs) ys e = absurd (cc)

flat_map-none : {X Y : Type 0} (f : X → List Y) (xs : List X) → ((i : ℕ) (x : X) → slice_get xs i ≡ Some x → f x ≡ []) → flat_map f xs ≡ []
flat_map-none f [] none = refl
flat_map-none f (x ∷ xs) none =
    let first : f x ≡ [] = none 0 x refl in
    let rest : flat_map f xs ≡ [] = flat_map-none f xs (λ i y is. none (suc i) y is) in
    ap (λ l. l ++ flat_map f xs) first ∙ rest

flat_map-piece : {X Y : Type 0} (f : X → List Y) (xs : List X) (i : ℕ) (x : X) → flat_map f xs ≡ [] → slice_get xs i ≡ Some x → f x ≡ []
flat_map-piece f [] i x none is = absurd (cc)
flat_map-piece f (y ∷ xs) zero x none is = let same : y ≡ x = cc in ap f (sym same) ∙ (both-empty (f y) (flat_map f xs) none).0
flat_map-piece f (y ∷ xs) (suc i) x none is = flat_map-piece f xs i x (both-empty (f y) (flat_map f xs) none).1 is

-- a list that is not empty has a last element
pub has_last : {X : Type 0} (x : X) (xs : List X) → (rest : List X) × (last : X) × (x ∷ xs ≡ rest ++ last ∷ [])
has_last x [] = ([], x, refl)
has_last x (y ∷ ys) = let (rest, last, e) = has_last y ys in (x ∷ rest, last, ap (λ l. x ∷ l) e)

not-last : {X : Type 0} (rest : List X) (x : X) → rest ++ x ∷ [] ≡ [] → ⊥
not-last [] x e = cc
not-last (y ∷ rest) x e = cc

-- an event of the worker is enabled, or it has nothing
worker-rests : (kids : List ℕ → List (List ℕ)) (machine : State) → IsQuiet kids machine → (w : ℕ) (worker : Load) → slice_get machine.workers w ≡ Some worker
    → (pending : Option (List ℕ)) (stack deque : List (List ℕ)) → worker.pending ≡ pending → worker.stack ≡ stack → worker.deque ≡ deque
    → (pending_of pending ≡ []) × (stack ++ deque ≡ [])
worker-rests kids machine quiet w worker at (Some label) stack deque p h d =
    let after : State = record { workers = set machine.workers w (record { deque = worker.deque; stack = worker.stack; pending = None }); posted = machine.posted ++ label ∷ [] } in
    absurd (quiet (Post w) (after, record { worker = worker; label = label; at = at; pending = p; workers = refl; posted = refl }))
worker-rests kids machine quiet w worker at None (label ∷ rest) deque p h d =
    let after : State = record { workers = set machine.workers w (record { deque = worker.deque ++ label ∷ []; stack = rest; pending = None }); posted = machine.posted } in
    absurd (quiet (Put w) (after, record { worker = worker; rest = rest; label = label; at = at; pending = p; stack = h; workers = refl; posted = refl }))
worker-rests kids machine quiet w worker at None [] (label ∷ others) p h d =
    let (rest, last, e) = has_last label others in
    let after : State = record { workers = set machine.workers w (record { deque = rest; stack = last ∷ []; pending = None }); posted = machine.posted } in
    absurd (quiet (Take w) (after, record { worker = worker; rest = rest; label = last; at = at; pending = p; stack = h; deque = d ∙ e; workers = refl; posted = refl }))
worker-rests kids machine quiet w worker at None [] [] p h d = (refl, refl)

pub idle_from_quiet : (kids : List ℕ → List (List ℕ)) (machine : State) → IsQuiet kids machine → IsIdle machine
idle_from_quiet kids machine quiet = (
  flat_map-none (λ (worker : Load). pending_of worker.pending) machine.workers (λ w worker at. (worker-rests kids machine quiet w worker at worker.pending worker.stack worker.deque refl refl refl).0),
  flat_map-none (λ (worker : Load). worker.stack ++ worker.deque) machine.workers (λ w worker at. (worker-rests kids machine quiet w worker at worker.pending worker.stack worker.deque refl refl refl).1),
)

idle-worker : (machine : State) → IsIdle machine → (w : ℕ) (worker : Load) → slice_get machine.workers w ≡ Some worker → (pending_of worker.pending ≡ []) × (worker.stack ≡ []) × (worker.deque ≡ [])
idle-worker machine still w worker at =
    let held : worker.stack ++ worker.deque ≡ [] = flat_map-piece (λ (worker : Load). worker.stack ++ worker.deque) machine.workers w worker still.1 at in
    (flat_map-piece (λ (worker : Load). pending_of worker.pending) machine.workers w worker still.0 at, (both-empty worker.stack worker.deque held).0, (both-empty worker.stack worker.deque held).1)

pub quiet_from_idle : (kids : List ℕ → List (List ℕ)) (machine : State) → IsIdle machine → IsQuiet kids machine
quiet_from_idle kids machine still (Post w) (after, s) =
    let none : pending_of s.worker.pending ≡ [] = (idle-worker machine still w s.worker s.at).0 in
    let some : pending_of s.worker.pending ≡ s.label ∷ [] = ap pending_of s.pending in
    cc
quiet_from_idle kids machine still (Grow w) (after, s) =
    let none : s.worker.stack ≡ [] = (idle-worker machine still w s.worker s.at).1 in not-last s.rest s.label (sym s.stack ∙ none)
quiet_from_idle kids machine still (Put w) (after, s) =
    let none : s.worker.stack ≡ [] = (idle-worker machine still w s.worker s.at).1 in let some : s.worker.stack ≡ s.label ∷ s.rest = s.stack in cc
quiet_from_idle kids machine still (Take w) (after, s) =
    let none : s.worker.deque ≡ [] = (idle-worker machine still w s.worker s.at).2 in not-last s.rest s.label (sym s.deque ∙ none)
quiet_from_idle kids machine still (Steal w from) (after, s) =
    let none : s.victim.deque ≡ [] = (idle-worker machine still from s.victim s.at_victim).2 in let some : s.victim.deque ≡ s.label ∷ s.rest = s.deque in cc
