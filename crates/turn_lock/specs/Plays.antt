-- What each step tells the pass that makes it.
use Rattle.std.specs.Prelude.{◌≡◌, ◌≢◌, ℕ, ◌%◌, ◌^◌, ◌++◌, List, [], ◌∷◌, map, length, drop}
use Rattle.std.specs.Prelude.{IfSome, Some, Result, Ok, Err}
use Rattle.atomic_table.specs.Table.{Me, Step}
use Rattle.mine_model.specs.declared.memory.NoMemory.{NoMemory}
use Rattle.turn_lock.specs.declared.hand.Hand.{Hand}
use Rattle.turn_lock.specs.declared.hand.Stage.{Stage}
use Rattle.turn_lock.specs.declared.hand.Stage.TheVariants.{Idle, Waiting, Turn}
use Rattle.turn_lock.specs.History.{Made, Part, entries_of}
use Rattle.turn_lock.specs.Turns.{hand, blank}

abbrev pub Seated : Type 0 → Type 0
Seated T = Me T (Hand T)

-- the pass of a new call, or of one that is over
abbrev pub first_part : List Part → List Part
first_part [] = []
first_part (p ∷ ps) = p ∷ []

abbrev pub other_parts : List Part → List Part
other_parts [] = []
other_parts (p ∷ ps) = ps

-- each pass has made the changes of its number, too
abbrev pub made_also : List Made → List Part → List Part
made_also cs parts = map (λ p. (p.0, p.1 ++ entries_of p.0 cs)) parts

-- the ticket of a call that waits
abbrev pub ticket_of : Stage → ℕ
ticket_of Idle = 0
ticket_of (Waiting t) = t
ticket_of (Turn t log) = t

-- the history that the value had when it was taken out
abbrev pub log_before : Stage → List Made
log_before Idle = []
log_before (Waiting t) = []
log_before (Turn t log) = log

-- all these changes are of the pass of this number
abbrev pub AllBy : ℕ → List Made → Type 0
AllBy n [] = Unit {0}
AllBy n (c ∷ cs) = (c.0 ≡ n) × AllBy n cs

module _ {T : Type 0} where
  abbrev pub at_stage : Hand T → Stage → Hand T
  at_stage v stage = hand v.start v.parts stage

  -- a new seat has no pass
  abbrev pub entered : Step T → Seated T → ℕ → Seated T → Type 0
  entered s m found n = n ≡ (blank, [])

  -- the number found is the ticket
  abbrev pub drew : Step T → Seated T → ℕ → Seated T → Type 0
  drew s m found n = (t : ℕ) × (found ≡ t % 2 ^ 64) × (n ≡ (at_stage m.0 (Waiting t), m.1))

  module _ {G : Type 0} (history : T → List Made) (ground_at : T → G) where
    -- the value is out with this pass, and has the lock's ground
    abbrev pub TookValue : Seated T → Seated T → Type 0
    TookValue m n = (y : T) × (n ≡ (at_stage m.0 (Turn (ticket_of m.0.stage) (history y)), (0, y) ∷ []))
        × IfSome m.0.start (λ x. ground_at y ≡ ground_at x)

    -- where the ticket is served the value was taken out, and else nothing changed
    abbrev pub looked : Step T → Seated T → ℕ → Seated T → Type 0
    looked s m found n = (found ≡ ticket_of m.0.stage % 2 ^ 64 → TookValue m n)
        × (found ≢ ticket_of m.0.stage % 2 ^ 64 → n ≡ m)

  module _ {G : Type 0} (history : T → List Made) (ground_at : T → G) where
    -- the one value that is out is changed, and these changes are at the end of its history
    pub record Extends (old new : List (ℕ × T)) (cs : List Made) : Type 0 where
      pub before : T
      pub after : T
      pub was : old ≡ (0, before) ∷ []
      pub is : new ≡ (0, after) ∷ []
      pub longer : history after ≡ history before ++ cs
      pub stays : ground_at after ≡ ground_at before

    -- the value is out with this one pass, which added these changes to its history
    pub record HasTurn (m : Seated T) : Type 0 where
      pub served : ℕ
      pub log : List Made
      pub value : T
      pub start : T
      pub part : Part
      pub added : List Made
      pub stage : m.0.stage ≡ Turn served log
      pub out : m.1 ≡ (0, value) ∷ []
      pub knows : m.0.start ≡ Some start
      pub one : m.0.parts ≡ part ∷ []
      pub longer : history value ≡ log ++ added
      pub own : AllBy part.0 added
      pub stays : ground_at value ≡ ground_at start

  -- the changes that were added while the value was out
  abbrev pub gained : (T → List Made) → List (ℕ × T) → List Made → List Made
  gained history [] log = []
  gained history (x ∷ xs) log = drop (length log) (history x.1)

  -- the pass has made what was added, and its call is over
  abbrev pub put_back : (T → List Made) → Seated T → Seated T
  put_back history m =
      (hand m.0.start (made_also (gained history m.1 (log_before m.0.stage)) m.0.parts) Idle, [])

  abbrev pub passed_on : (T → List Made) → Step T → Seated T → ℕ → Seated T → Type 0
  passed_on history s m found n = n ≡ put_back history m

-- the one change, if it was made
abbrev pub changes : Result (Unit {0}) NoMemory → Made → List Made
changes (Ok x) c = c ∷ []
changes (Err e) c = []
