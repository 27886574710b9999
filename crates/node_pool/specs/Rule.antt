-- The rule of one deque: what its owner put is what its passes took or stole and what it holds.
use Rattle.std.specs.Prelude.{◌≡◌, ℕ, ◌+◌, ◌-◌, ◌<◌, ◌≤◌, Option, Some}
use Rattle.std.specs.Prelude.{List, [], ◌++◌, All, length, map, sum_by}
use Rattle.node_pool.specs.declared.rule.Account.{Account}
use mathlib.Core.Option.{some}
use lib.ListN.{get_elem?}

abbrev pub account : {G : Type 0} → ℕ → List (List ℕ) → List (List ℕ) → Option G → Account G
account parts given got known_ground =
    record { parts = parts; given = given; got = got; known_ground = known_ground }

-- nothing was put or taken with the pass
abbrev pub fresh_account : {G : Type 0} → ℕ → Option G → Account G
fresh_account parts known_ground = account parts [] [] known_ground

-- the pass gave up so many parts
abbrev pub without_parts : {G : Type 0} → Account G → ℕ → Account G
without_parts v parts = account (v.parts - parts) v.given v.got v.known_ground

-- these labels were got with the pass, too
abbrev pub with_labels : {G : Type 0} → Account G → List (List ℕ) → Account G
with_labels v labels = account v.parts v.given (v.got ++ labels) v.known_ground

-- the pass took another back, with what was got by it
abbrev pub with_back : {G : Type 0} → Account G → Account G → Account G
with_back v w = account (v.parts + w.parts) v.given (v.got ++ w.got) v.known_ground

-- a pass with some part of the deque knows its ground; a pass with no part has put and taken nothing
abbrev pub Fits : {G : Type 0} → Option G → Account G → Type 0
Fits known_ground v =
    (0 < v.parts → v.known_ground ≡ known_ground) × (v.parts ≡ 0 → (v.given ≡ []) × (v.got ≡ []))

-- what the labels of the tasks weigh
abbrev pub task_weight : {T : Type 0} → (T → List ℕ) → (List ℕ → ℕ) → List T → ℕ
task_weight label weight tasks = sum_by (λ t. weight (label t)) tasks

-- each task has this ground
abbrev pub HaveGround : {T G : Type 0} → (T → G) → Option G → List T → Type 0
HaveGround ground_of known_ground tasks = All (λ t. Some (ground_of t) ≡ known_ground) tasks

-- what the passes put weighs as much as what they took and what the deque holds
abbrev pub Weighs : {T G : Type 0} → (T → List ℕ) → List T → List (Account G) → (List ℕ → ℕ) → Type 0
Weighs label tasks views weight =
    sum_by (λ v. sum_by weight v.given) views
    ≡ sum_by (λ v. sum_by weight v.got) views + task_weight label weight tasks

-- there is one ground, which each task has; the parts are 64 in all; and the deque is in balance, however
-- labels are weighed
abbrev pub Balanced : {T G : Type 0} → (T → List ℕ) → (T → G) → List T → List (Account G) → Type 0
Balanced {T} {G} label ground_of tasks views =
    (known_ground : Option G)
    × (sum_by (λ v. v.parts) views ≡ 64)
    × ((weight : List ℕ → ℕ) → Weighs label tasks views weight)
    × ((port : ℕ) (v : Account G) → get_elem? views port ≡ some v → Fits known_ground v)
    × HaveGround ground_of known_ground tasks

-- the tasks came out of the deque: they have its ground, and where the pass has all parts, no more were taken
-- than were put
abbrev pub Got : {T G : Type 0} → (T → List ℕ) → (T → G) → Account G → List T → Account G → Type 0
Got label ground_of v tasks w =
    (w ≡ with_labels v (map label tasks))
    × HaveGround ground_of v.known_ground tasks
    × (v.parts ≡ 64 → length w.got ≤ length w.given)
