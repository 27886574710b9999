-- An event that is done as its worker's own lists show is done as the machine's rules say.
use Rattle.std.proofs.Common.{◌≡◌, ◌≢◌, ℕ, Option, Some, List, slice_get, get_or, length, refl, sym, ◌∙◌, subst}
use Rattle.std.proofs.lemmas.Option.{slice_get_within, slice_get_read, get_or_from_slice_get}
use Rattle.mine_model.specs.declared.row.Row.{Row}
use Rattle.pool_schedule.specs.Steps.{Step}
use Rattle.pool_schedule.specs.Worker.{IsBusy, IsFree, IsFilled, PutsNode, TakesNode, GrowsNode}
use Rattle.pool_schedule.specs.Machine.{seen, MayStep, PostsNode, StealsNode}
use Rattle.pool_schedule.specs.declared.event.Event.{Event}
use Rattle.pool_schedule.specs.declared.event.Event.TheVariants.{Put, Take, Steal, Grow, Post}
use Rattle.pool_schedule.specs.declared.machine.Machine.{Machine}
use Rattle.pool_schedule.specs.declared.worker.Worker.{Worker}
use Rattle.pool_schedule.proofs.NodeLemmas.{with_worker, posts-seen, puts-seen, takes-seen, grows-seen, steals-seen}
use Rattle.pool_schedule.proofs.StageLemmas.{same-element}

module _ {N : Type 0} where
  -- where a worker is read, it is the one that stands there
  pub now-is : (workers : List (Worker N)) (w : ℕ) (x now : Worker N) → slice_get workers w ≡ Some x → now ≡ get_or workers w now → x ≡ now
  now-is workers w x now at read = sym (read ∙ get_or_from_slice_get workers w x now at)

  pub at-now : (workers : List (Worker N)) (w : ℕ) (x now : Worker N) → slice_get workers w ≡ Some x → now ≡ get_or workers w now → slice_get workers w ≡ Some now
  at-now workers w x now at read = slice_get_read workers (length workers) w now refl (slice_get_within workers w x at) read

  pub busy-at : (workers : List (Worker N)) (event : Event) (w : ℕ) → event ≡ Put w → MayStep event workers → (x : Worker N) × (slice_get workers w ≡ Some x) × IsBusy x
  busy-at workers event w is may = subst (λ (e : Event). MayStep e workers) is may

  pub growing-at : (workers : List (Worker N)) (event : Event) (w : ℕ) → event ≡ Grow w → MayStep event workers → (x : Worker N) × (slice_get workers w ≡ Some x) × IsBusy x
  growing-at workers event w is may = subst (λ (e : Event). MayStep e workers) is may

  pub taking-at : (workers : List (Worker N)) (event : Event) (w : ℕ) → event ≡ Take w → MayStep event workers → (x : Worker N) × (slice_get workers w ≡ Some x) × IsFree x × IsFilled x
  taking-at workers event w is may = subst (λ (e : Event). MayStep e workers) is may

  stealing-at : (workers : List (Worker N)) (event : Event) (w from : ℕ) → event ≡ Steal w from → MayStep event workers
      → (x v : Worker N) × (slice_get workers w ≡ Some x) × (slice_get workers from ≡ Some v) × (from ≢ w) × IsFree x × IsFilled v
  stealing-at workers event w from is may = subst (λ (e : Event). MayStep e workers) is may

  pub post-done : (label : N → List ℕ) (kids : List ℕ → List (List ℕ)) (before after : Machine N) (event : Event) (w : ℕ) → event ≡ Post w → PostsNode w before after
      → Step kids event (seen label before) (seen label after)
  post-done label kids before after event w is s = subst (λ (e : Event). Step kids e (seen label before) (seen label after)) (sym is) (posts-seen label w before after s)

  pub put-done : (label : N → List ℕ) (kids : List ℕ → List (List ℕ)) (before : Machine N) (event : Event) (w : ℕ) (now y : Worker N) → event ≡ Put w
      → MayStep event before.workers.items → now ≡ get_or before.workers.items w now → PutsNode now y → Step kids event (seen label before) (with_worker label before w y)
  put-done label kids before event w now y is may read p =
      let (x, at, busy) = busy-at before.workers.items event w is may in
      subst (λ (e : Event). Step kids e (seen label before) (with_worker label before w y)) (sym is)
      (puts-seen label w now y before (at-now before.workers.items w x now at read) (subst IsBusy (now-is before.workers.items w x now at read) busy) p)

  pub take-done : (label : N → List ℕ) (kids : List ℕ → List (List ℕ)) (before : Machine N) (event : Event) (w : ℕ) (now y : Worker N) → event ≡ Take w
      → MayStep event before.workers.items → now ≡ get_or before.workers.items w now → TakesNode now y → Step kids event (seen label before) (with_worker label before w y)
  take-done label kids before event w now y is may read p =
      let (x, at, free, filled) = taking-at before.workers.items event w is may in
      subst (λ (e : Event). Step kids e (seen label before) (with_worker label before w y)) (sym is)
      (takes-seen label w now y before (at-now before.workers.items w x now at read) (subst IsFree (now-is before.workers.items w x now at read) free) p)

  pub grow-done : (label : N → List ℕ) (kids : List ℕ → List (List ℕ)) (row : List ℕ → Option Row) (IsOwn : N → Type 0) (before : Machine N) (event : Event) (w : ℕ) (now y : Worker N) → event ≡ Grow w
      → MayStep event before.workers.items → now ≡ get_or before.workers.items w now → GrowsNode label kids row IsOwn now y → Step kids event (seen label before) (with_worker label before w y)
  grow-done label kids row IsOwn before event w now y is may read p =
      let (x, at, busy) = growing-at before.workers.items event w is may in
      subst (λ (e : Event). Step kids e (seen label before) (with_worker label before w y)) (sym is)
      (grows-seen label kids row IsOwn w now y before (at-now before.workers.items w x now at read) (subst IsBusy (now-is before.workers.items w x now at read) busy) p)

  pub steal-done : (label : N → List ℕ) (kids : List ℕ → List (List ℕ)) (before after : Machine N) (event : Event) (w from : ℕ) → event ≡ Steal w from → MayStep event before.workers.items
      → StealsNode w from before after → Step kids event (seen label before) (seen label after)
  steal-done label kids before after event w from is may s =
      let (x, v, at, there, other, free, filled) = stealing-at before.workers.items event w from is may in
      subst (λ (e : Event). Step kids e (seen label before) (seen label after)) (sym is)
      (steals-seen label w from before after s other (λ y here. subst IsFree (same-element before.workers.items w x y at here) free))
