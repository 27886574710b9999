-- The rule of a lock: what is true of its words, its slot and its hands between any two steps.
-- Word 0 is the ticket word and word 1 the serving word. The lock has one slot, in which the value lies.
use Rattle.std.specs.Prelude.{◌≡◌, ℕ, zero, suc, ◌+◌, ◌%◌, ◌^◌, ◌<◌, ◌≤◌, ◌==◌, ◌⊎◌, if◌then◌else◌}
use Rattle.std.specs.Prelude.{List, [], ◌∷◌, length, sum_by, IfSome, Some, None}
use Rattle.std.specs.Prelude as std
use mathlib.Core.Option.{Option, some, none}
use lib.ListN.{get_elem?}
use Rattle.atomic_table.specs.Table.{State}
use Rattle.turn_lock.specs.declared.hand.Hand.{Hand}
use Rattle.turn_lock.specs.declared.hand.Stage.{Stage}
use Rattle.turn_lock.specs.declared.hand.Stage.TheVariants.{Idle, Waiting, Turn}
use Rattle.turn_lock.specs.History.{Made, Part, entries_of}

abbrev pub numbers_of : List Part → List ℕ
numbers_of [] = []
numbers_of (p ∷ ps) = p.0 ∷ numbers_of ps

-- n passes that made nothing, numbered from k
abbrev pub fresh : ℕ → ℕ → List Part
fresh k zero = []
fresh k (suc n) = (k, []) ∷ fresh (suc k) n

-- the tickets of calls in flight: one, or none
abbrev pub tickets_of : Stage → List ℕ
tickets_of Idle = []
tickets_of (Waiting t) = t ∷ []
tickets_of (Turn t log) = t ∷ []

-- whether the value is out: 1, or 0
abbrev pub out_with : Stage → ℕ
out_with Idle = 0
out_with (Waiting t) = 0
out_with (Turn t log) = 1

abbrev pub times : ℕ → List ℕ → ℕ
times x [] = 0
times x (y ∷ ys) = (if y == x then 1 else 0) + times x ys

abbrev pub absent : {A : Type 0} → Option A → ℕ
absent none = 1
absent (some x) = 0

module _ {T : Type 0} where
  abbrev pub tickets : Hand T → List ℕ
  tickets v = tickets_of v.stage

  abbrev pub numbers : Hand T → List ℕ
  numbers v = numbers_of v.parts

  -- how often a number stands in the lists that the hands have
  abbrev pub often : (Hand T → List ℕ) → ℕ → List (Hand T) → ℕ
  often f x views = sum_by (λ v. times x (f v)) views

  abbrev pub in_flight : List (Hand T) → ℕ
  in_flight views = sum_by (λ v. length (tickets v)) views

  abbrev pub pass_total : List (Hand T) → ℕ
  pass_total views = sum_by (λ v. length v.parts) views

  abbrev pub hand : std.Option T → List Part → Stage → Hand T
  hand start parts stage = record { start = start; parts = parts; stage = stage }

  abbrev pub blank : Hand T
  blank = hand None [] Idle

  abbrev pub first_hand : T → ℕ → Hand T
  first_hand start count = hand (Some start) (fresh 0 count) Idle

-- each part has the entries that the history has of its number
abbrev pub AllMade : List Made → List Part → Type 0
AllMade log [] = Unit {0}
AllMade log (p ∷ ps) = (p.1 ≡ entries_of p.0 log) × AllMade log ps

-- a call in flight is that of one pass, and the value is out only with the one that is served
abbrev pub InStage : ℕ → List Made → ℕ → Stage → Type 0
InStage served log parts Idle = Unit {0}
InStage served log parts (Waiting t) = parts ≡ 1
InStage served log parts (Turn t seen) = (parts ≡ 1) × (t ≡ served) × (seen ≡ log)

module _ {T G : Type 0} (history : T → List Made) (ground_at : T → G) (start : T) where
  -- what a hand has agrees with the lock: the value at the start, what its passes made, and its call's stage
  pub record Fits (served : ℕ) (log : List Made) (v : Hand T) : Type 0 where
    pub knows : IfSome v.start (λ x. x ≡ start)
    pub made : AllMade log v.parts
    pub stage : InStage served log (length v.parts) v.stage

  -- a value that is at home has the history of all passes, and the lock's ground
  abbrev pub AtHome : List Made → Option T → Type 0
  AtHome log none = Unit {0}
  AtHome log (some y) = (history y ≡ log) × (ground_at y ≡ ground_at start)

  -- `served` calls are over, and `flight` have a ticket. `log` is the history, and `home` is the value unless
  -- it is out
  pub record Turns (count : ℕ) (s : State T (Hand T)) : Type 0 where
    pub served : ℕ
    pub flight : ℕ
    pub log : List Made
    pub home : Option T
    pub few : count < 4294967296
    pub words : s.words ≡ ((served + flight) % 2 ^ 64) ∷ (served % 2 ^ 64) ∷ []
    pub slot : s.homes ≡ home ∷ []
    pub value : AtHome log home
    -- the value is out with one hand, or with none
    pub gone : sum_by (λ v. out_with v.stage) s.views ≡ absent home
    pub busy : in_flight s.views ≡ flight
    -- each ticket from the one served to below the next is had once, and no other is had
    pub given : (n : ℕ) → served ≤ n → n < served + flight → often tickets n s.views ≡ 1
    pub others : (n : ℕ) → (n < served) ⊎ (served + flight ≤ n) → often tickets n s.views ≡ 0
    -- each pass is with one hand, no two have one number, and the history has no other's changes
    pub passes : pass_total s.views ≡ count
    pub once : (x : ℕ) → often numbers x s.views ≤ 1
    pub strangers : (x : ℕ) → often numbers x s.views ≡ 0 → entries_of x log ≡ []
    pub hands : (id : ℕ) (v : Hand T) → get_elem? s.views id ≡ some v → Fits served log v
