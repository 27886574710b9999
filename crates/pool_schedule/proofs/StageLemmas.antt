-- What the stages of the workers say of the machine.
use Rattle.std.proofs.Common.{◌≡◌, ◌≢◌, ℕ, ◌<◌, ◌↔◌, Bool, true, false, Option, Some, None, List, [], ◌∷◌, ◌++◌, map, slice_get, get_or, length, refl, sym, ap, ◌∙◌, arith, subst}
use Rattle.std.specs.Prelude.{All, IsTrue, ltb, ◌==◌, not}
use Rattle.std.specs.Option.{option_map}
use borrow.Author.Tests.{ltb-true}
use Rattle.std.proofs.lemmas.Bool.{eqb-true}
use Rattle.std.proofs.lemmas.List.{nil_from_length}
use Rattle.std.proofs.lemmas.List.Elements.{All-cons, All-nil, All-head, All-tail}
use Rattle.std.proofs.lemmas.Option.{slice_get_read}
use Rattle.pool_schedule.specs.State.{pending_of, all_pending, all_held, IsIdle}
use Rattle.pool_schedule.specs.Steps.{IsQuiet}
use Rattle.pool_schedule.specs.Worker.{IsFree, IsFilled, IsAt, HasNothing}
use Rattle.pool_schedule.specs.Machine.{load, seen, MayStep}
use Rattle.pool_schedule.specs.declared.event.Event.{Event}
use Rattle.pool_schedule.specs.declared.event.Event.TheVariants.{Take, Steal}
use Rattle.pool_schedule.specs.declared.machine.Machine.{Machine}
use Rattle.pool_schedule.specs.declared.worker.Pending.{Pending}
use Rattle.pool_schedule.specs.declared.worker.Stage.{Stage}
use Rattle.pool_schedule.specs.declared.worker.Stage.TheVariants.{Pending as Posting, Busy, Free}
use Rattle.pool_schedule.specs.declared.worker.Worker.{Worker}
use Rattle.pool_schedule.proofs.NodeLemmas.{no-nodes}
use Rattle.pool_schedule.proofs.QuietLemmas.{both-empty, idle_from_quiet, quiet_from_idle}

-- an element that was read by its index
pub read-at : {X : Type 0} (xs ys : List X) (i : ℕ) (x : X) → ys ≡ xs → true ≡ ltb i (length ys) → x ≡ get_or ys i x → slice_get xs i ≡ Some x
read-at {X = X} xs ys i x same within is =
    let less : i < length ys = ltb-true i (length ys) (sym within) in
    subst (λ (l : List X). slice_get l i ≡ Some x) same (slice_get_read ys (length ys) i x refl less is)

pub same-element : {X : Type 0} (xs : List X) (i : ℕ) (x y : X) → slice_get xs i ≡ Some x → slice_get xs i ≡ Some y → x ≡ y
same-element xs i x y p q = cc

not-both : (b : Bool) → b ≡ true → not b ≡ true → ⊥
not-both true p q = cc
not-both false p q = cc

filled : {N : Type 0} (nodes : List N) (empty : Bool) → empty ≡ (length nodes == 0) → IsTrue (not empty) → 0 < length nodes
filled [] empty is some = let none : empty ≡ true = is in let not_none : not empty ≡ true = some in absurd (not-both empty none not_none)
filled (x ∷ nodes) empty is some = omega arith

not-empty : {N : Type 0} (nodes : List N) (empty : Bool) → empty ≡ (length nodes == 0) → 0 < length nodes → IsTrue (not empty)
not-empty [] empty is more = absurd (omega arith)
not-empty (x ∷ nodes) true is more = let none : length (x ∷ nodes) ≡ 0 = eqb-true (length (x ∷ nodes)) 0 (sym is) in absurd (omega arith)
not-empty (x ∷ nodes) false is more = refl

module _ {N : Type 0} where
  -- a worker is at one stage
  pub at-one : (worker : Worker N) (s t : Stage) → IsAt worker s → IsAt worker t → s ≡ t
  at-one worker Posting Posting p q = refl
  at-one worker Posting Busy p q = let some : worker.pending ≡ Some p.0 = p.1 in let none : worker.pending ≡ None = q.0 in absurd (cc)
  at-one worker Posting Free p q = let some : worker.pending ≡ Some p.0 = p.1 in let none : worker.pending ≡ None = q.0 in absurd (cc)
  at-one worker Busy Posting p q = let some : worker.pending ≡ Some q.0 = q.1 in let none : worker.pending ≡ None = p.0 in absurd (cc)
  at-one worker Busy Busy p q = refl
  at-one worker Busy Free p q = let some : 0 < length worker.stack.items = p.1 in let none : length worker.stack.items ≡ 0 = q.1 in absurd (omega arith)
  at-one worker Free Posting p q = let some : worker.pending ≡ Some q.0 = q.1 in let none : worker.pending ≡ None = p.0 in absurd (cc)
  at-one worker Free Busy p q = let some : 0 < length worker.stack.items = q.1 in let none : length worker.stack.items ≡ 0 = p.1 in absurd (omega arith)
  at-one worker Free Free p q = refl

  -- the worker that was read is at this stage exactly where its stage is that
  pub is-at : (workers : List (Worker N)) (w : ℕ) (x : Worker N) (s t : Stage) → slice_get workers w ≡ Some x → IsAt x s
      → (s ≡ t) ↔ ((worker : Worker N) × (slice_get workers w ≡ Some worker) × IsAt worker t)
  is-at workers w x s t at p = (
    (λ same. (x, at, subst (λ (u : Stage). IsAt x u) same p)),
    (λ (y, there, q). at-one x s t p (subst (λ (z : Worker N). IsAt z t) (same-element workers w y x there at) q)),
  )

  pub is-filled : (workers : List (Worker N)) (w : ℕ) (x : Worker N) (empty : Bool) → slice_get workers w ≡ Some x → empty ≡ (length x.deque.items == 0)
      → IsTrue (not empty) ↔ ((worker : Worker N) × (slice_get workers w ≡ Some worker) × IsFilled worker)
  is-filled workers w x empty at is = (
    (λ some. (x, at, filled x.deque.items empty is some)),
    (λ (y, there, more). not-empty x.deque.items empty is (subst IsFilled (same-element workers w y x there at) more)),
  )

  abbrev At : (Worker N → Type 0) → List (Worker N) → ℕ → Type 0
  At P workers w = (worker : Worker N) × (slice_get workers w ≡ Some worker) × P worker

  pub at-iff : (workers : List (Worker N)) (event other : Event) (r : Bool) → event ≡ other → IsTrue r ↔ MayStep other workers → IsTrue r ↔ MayStep event workers
  at-iff workers event other r same iff = subst (λ (e : Event). IsTrue r ↔ MayStep e workers) (sym same) iff

  pub take-then : (workers : List (Worker N)) (event : Event) (w : ℕ) (free filled : Bool) → event ≡ Take w
      → (IsTrue free ↔ At IsFree workers w) → free ≡ true → (IsTrue filled ↔ At IsFilled workers w) → IsTrue filled ↔ MayStep event workers
  take-then workers event w free full same at holds iff = at-iff workers event (Take w) full same (
    (λ t. let (x, there, is) = at.0 holds in let (y, here, some) = iff.0 t in (x, there, is, subst IsFilled (same-element workers w y x here there) some)),
    (λ (x, there, is, full). iff.1 (x, there, full)),
  )

  pub take-else : (workers : List (Worker N)) (event : Event) (w : ℕ) (free : Bool) → event ≡ Take w
      → (IsTrue free ↔ At IsFree workers w) → free ≡ false → IsTrue free ↔ MayStep event workers
  take-else workers event w free same at fails = at-iff workers event (Take w) free same (
    (λ holds. let is : free ≡ true = holds in absurd (cc)),
    (λ (x, there, is, full). at.1 (x, there, is)),
  )

  pub steal-then : (workers : List (Worker N)) (event : Event) (w from : ℕ) (free victim : Bool) → event ≡ Steal w from
      → (IsTrue free ↔ At IsFree workers w) → free ≡ true → (IsTrue victim ↔ ((from ≢ w) × At IsFilled workers from)) → IsTrue victim ↔ MayStep event workers
  steal-then workers event w from free victim same at holds iff = at-iff workers event (Steal w from) victim same (
    (λ some. let (x, there, is) = at.0 holds in let (other, (y, here, full)) = iff.0 some in (x, y, there, here, other, is, full)),
    (λ (x, y, there, here, other, is, full). iff.1 (other, (y, here, full))),
  )

  pub steal-else : (workers : List (Worker N)) (event : Event) (w from : ℕ) (free : Bool) → event ≡ Steal w from
      → (IsTrue free ↔ At IsFree workers w) → free ≡ false → IsTrue free ↔ MayStep event workers
  steal-else workers event w from free same at fails = at-iff workers event (Steal w from) free same (
    (λ holds. let is : free ≡ true = holds in absurd (cc)),
    (λ (x, y, there, here, other, is, full). at.1 (x, there, is)),
  )

module _ {N : Type 0} (label : N → List ℕ) where
  no-label : (p : Option Pending) → pending_of (option_map (λ (pending : Pending). pending.label) p) ≡ [] → p ≡ None
  no-label None is = refl
  no-label (Some pending) is = absurd (cc)

  nothing-pending : (workers : List (Worker N)) → All HasNothing workers → all_pending (map (load label) workers) ≡ []
  nothing-pending [] all = refl
  nothing-pending (x ∷ workers) all =
      let none : HasNothing x = All-head HasNothing x workers all in
      ap (λ p. pending_of (option_map (λ (pending : Pending). pending.label) p) ++ all_pending (map (load label) workers)) none.0
      ∙ nothing-pending workers (All-tail HasNothing x workers all)

  nothing-held : (workers : List (Worker N)) → All HasNothing workers → all_held (map (load label) workers) ≡ []
  nothing-held [] all = refl
  nothing-held (x ∷ workers) all =
      let none : HasNothing x = All-head HasNothing x workers all in
      ap (λ l. (map label l ++ map label x.deque.items) ++ all_held (map (load label) workers)) (nil_from_length x.stack.items none.1)
      ∙ ap (λ l. map label l ++ all_held (map (load label) workers)) (nil_from_length x.deque.items none.2)
      ∙ nothing-held workers (All-tail HasNothing x workers all)

  all-nothing : (workers : List (Worker N)) → all_pending (map (load label) workers) ≡ [] → all_held (map (load label) workers) ≡ [] → All HasNothing workers
  all-nothing [] p h = All-nil HasNothing
  all-nothing (x ∷ workers) p h =
      let pending = both-empty (pending_of (load label x).pending) (all_pending (map (load label) workers)) p in
      let held = both-empty (map label x.stack.items ++ map label x.deque.items) (all_held (map (load label) workers)) h in
      let own = both-empty (map label x.stack.items) (map label x.deque.items) held.0 in
      All-cons HasNothing x workers (no-label x.pending pending.0, no-nodes label x.stack.items own.0, no-nodes label x.deque.items own.1) (all-nothing workers pending.1 held.1)

  pub quiet-iff : (kids : List ℕ → List (List ℕ)) (machine : Machine N) → All HasNothing machine.workers.items ↔ IsQuiet kids (seen label machine)
  quiet-iff kids machine = (
    (λ all. quiet_from_idle kids (seen label machine) (nothing-pending machine.workers.items all, nothing-held machine.workers.items all)),
    (λ quiet. let still : IsIdle (seen label machine) = idle_from_quiet kids (seen label machine) quiet in all-nothing machine.workers.items still.0 still.1),
  )
