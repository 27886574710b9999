-- How a machine is set up: the first worker has the roots, and the others have nothing.
use Rattle.std.proofs.Common.{◌≡◌, ℕ, zero, suc, ◌+◌, ◌-◌, ◌≤◌, Option, None, List, [], ◌∷◌, ◌++◌, map, replicate, length, refl, sym, ap, ◌∙◌, subst, arith}
use Rattle.std.specs.Prelude.{All, IfSome}
use Rattle.std.specs.Option.{option_map}
use Rattle.std.proofs.lemmas.List.{map-append, length-map, length-replicate}
use Rattle.std.proofs.lemmas.List.Elements.{All-push, All-same, All-nil}
use Rattle.mine_model.specs.declared.row.Row.{Row}
use Rattle.pool_schedule.specs.State.{Load, State, idle, start}
use Rattle.pool_schedule.specs.Machine.{load, AllOwn, PendingRows}
use Rattle.pool_schedule.specs.declared.worker.Pending.{Pending}
use Rattle.pool_schedule.specs.declared.worker.Worker.{Worker}
use Rattle.pool_schedule.proofs.NodeLemmas.{same-load}
use Rattle.pool_schedule.proofs.OwnLemmas.{Owns, RowFits}

replicate-more : {X : Type 0} (n : ℕ) (x : X) → replicate n x ++ x ∷ [] ≡ replicate (suc n) x
replicate-more zero x = refl
replicate-more (suc n) x = ap (λ l. x ∷ l) (replicate-more n x)

abbrev pub first_load : List (List ℕ) → Load
first_load roots = record { deque = roots; stack = []; pending = None }

-- a worker with these nodes in its deque, and nothing else
pub record IsNew {N : Type 0} (x : Worker N) (nodes : List N) : Type 0 where
  pub deque : x.deque.items ≡ nodes
  pub stack : x.stack.items ≡ []
  pub pending : x.pending ≡ None

module _ {N : Type 0} (label : N → List ℕ) where
  new-load : (x : Worker N) (nodes : List N) → IsNew x nodes → load label x ≡ first_load (map label nodes)
  new-load x nodes new =
      same-load (load label x) (first_load (map label nodes)) (ap (map label) new.deque) (ap (map label) new.stack) (ap (option_map (λ (p : Pending). p.label)) new.pending)

  -- the workers so far: the first with the roots, and others with nothing
  abbrev pub AreReady : List (List ℕ) → ℕ → List (Worker N) → Type 0
  AreReady roots workers all = map (load label) all ≡ first_load roots ∷ replicate (workers - 1) idle

  pub ready-first : (none all : List (Worker N)) (x : Worker N) (nodes : List N) (roots : List (List ℕ)) → none ≡ [] → all ≡ none ++ x ∷ [] → IsNew x nodes → map label nodes ≡ roots → AreReady roots 1 all
  ready-first none all x nodes roots empty is new labels =
      ap (map (load label)) (is ∙ ap (λ (l : List (Worker N)). l ++ x ∷ []) empty)
      ∙ ap (λ (l : Load). l ∷ []) (new-load x nodes new ∙ ap first_load labels)

  pub ready-more : (before after : List (Worker N)) (x : Worker N) (roots : List (List ℕ)) (workers : ℕ) → 1 ≤ workers → after ≡ before ++ x ∷ [] → IsNew x [] → AreReady roots workers before
      → AreReady roots (workers + 1) after
  ready-more before after x roots workers some is new ready =
      let next : suc (workers - 1) ≡ workers + 1 - 1 = omega arith in
      ap (map (load label)) is ∙ map-append (load label) before (x ∷ [])
      ∙ ap (λ (l : List Load). l ++ load label x ∷ []) ready
      ∙ ap (λ (l : Load). (first_load roots ∷ replicate (workers - 1) idle) ++ l ∷ []) (new-load x [] new)
      ∙ ap (λ (l : List Load). first_load roots ∷ l) (replicate-more (workers - 1) idle ∙ ap (λ n. replicate n idle) next)

  pub ready-count : (roots : List (List ℕ)) (workers : ℕ) (all : List (Worker N)) → 1 ≤ workers → AreReady roots workers all → length all ≡ workers
  ready-count roots workers all some ready =
      let size : length (map (load label) all) ≡ length (first_load roots ∷ replicate (workers - 1) idle) = ap length ready in
      omega (arith, size, length-map all (load label), length-replicate (workers - 1) idle)

module _ {N : Type 0} (IsOwn : N → Type 0) where
  owns-new : (x : Worker N) (nodes : List N) → IsNew x nodes → All IsOwn nodes → Owns IsOwn x
  owns-new x nodes new own = (All-same IsOwn x.deque.items nodes new.deque own, All-same IsOwn x.stack.items [] new.stack (All-nil IsOwn))

  pub own-more : (before after : List (Worker N)) (x : Worker N) (nodes : List N) → after ≡ before ++ x ∷ [] → IsNew x nodes → All IsOwn nodes → AllOwn IsOwn before → AllOwn IsOwn after
  own-more before after x nodes is new own all = All-same (Owns IsOwn) after (before ++ x ∷ []) is (All-push (Owns IsOwn) before x all (owns-new x nodes new own))

module _ {N : Type 0} (row : List ℕ → Option Row) where
  pub rows-more : (before after : List (Worker N)) (x : Worker N) (nodes : List N) → after ≡ before ++ x ∷ [] → IsNew x nodes → PendingRows row before → PendingRows row after
  rows-more before after x nodes is new all =
      All-same (RowFits row) after (before ++ x ∷ []) is
      (All-push (RowFits row) before x all (subst (λ (p : Option Pending). IfSome p (λ (q : Pending). q.row ≡ row q.label)) (sym new.pending) tt))

abbrev pub state : List Load → List (List ℕ) → State
state workers posted = record { workers = workers; posted = posted }

-- the machine that is set up is the one at the start
pub ready-start : {N : Type 0} (label : N → List ℕ) (roots : List (List ℕ)) (counter workers : ℕ) (all : List (Worker N)) (posted : List (List ℕ))
    → AreReady label roots counter all → counter ≡ workers → posted ≡ [] → state (map (load label) all) posted ≡ start roots workers
ready-start label roots counter workers all posted ready same none =
    ap (λ (l : List Load). state l posted) ready
    ∙ ap (λ (n : ℕ). state (first_load roots ∷ replicate (n - 1) idle) posted) same
    ∙ ap (state (first_load roots ∷ replicate (workers - 1) idle)) none
