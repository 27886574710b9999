-- What stands at the places of a part: its sequences one behind another, with a place behind each.
use Rattle.std.specs.Prelude.{◌≡◌, ◌≢◌, ℕ, ◌+◌, ◌^◌, ◌<◌, ◌↔◌, Bool, true, false, Option, Some, None, List, [], length, take, drop, AllPairs, Contains, slice_get, sum_by}
use Rattle.state_bits.specs.Members.{Has}
use Rattle.mine_model.specs.declared.item.Item.{Item}
use Rattle.mining_job.specs.declared.bound.Bound.{Bound}
use Rattle.mining_job.specs.Problems.{Problem, items_of}
use Rattle.sequence_grids.specs.Grids.{GridList, Completes, Continues, Ends, Reads, WritesRank, items_at}
use Rattle.sequence_grids.specs.Kinds.{IsTarget, Writes}
use Rattle.walk_memo.specs.Moves.{MoveSets}
use Rattle.walk_places.specs.declared.places.Record.{Record}

-- how many places lie before those of the sequence of a grid: those of each sequence before it, and one
-- behind each
abbrev pub start_of : GridList → ℕ → ℕ
start_of part grid = sum_by (λ i. length (items_of part.problem i) + 1) (take grid part.sequences)

-- a path that goes on need not write what is needed, once that was seen
abbrev pub goes_with : Option ℕ → Bool
goes_with None = false
goes_with (Some need) = true

-- What the place of t, with the rest of its sequence behind it, does with the state k: paths go on where they
-- write something more, and what is needed was seen or is written, too.
pub record IsMoveAt (problem : Problem) (bound : Bound) (goes : Bool) (t : Item) (rest : List Item)
    (move : MoveSets) (k : ℕ)
    : Type 0 where
  pub silent : Has move.silent k ↔ (Reads problem t k [] × Continues problem bound rest k goes)
  pub writes : Has move.writes k ↔ (Writes problem bound t k × Completes problem bound rest k true)
  pub more : Has move.writes k
      → Has move.more k ↔ Continues problem bound rest k (goes_with bound.need)
  pub unseen : Has move.writes k → Has move.unseen k ↔ Completes problem bound rest k false
  pub ends : Has move.writes k → Has move.ends k ↔ Ends problem rest k

-- the ranks of the kind at the state are what edges into it may write at t, each once
pub record AreRanksAt (problem : Problem) (bound : Bound) (t : Item) (ranks : ℕ → ℕ → List ℕ) (kind k : ℕ)
    : Type 0 where
  pub exact : (rank : ℕ) → Contains (ranks kind k) rank ↔ WritesRank problem bound t k rank
  pub once : AllPairs (λ one other. one ≢ other) (ranks kind k)

-- nothing is entered in silence, nothing is written, and nothing goes on or ends
pub record IsDead (move : MoveSets) : Type 0 where
  pub silent : (k : ℕ) → Has move.silent k → ⊥
  pub writes : (k : ℕ) → Has move.writes k → ⊥
  pub more : (k : ℕ) → Has move.more k → ⊥
  pub unseen : (k : ℕ) → Has move.unseen k → ⊥
  pub ends : (k : ℕ) → Has move.ends k → ⊥

-- the record names a move for paths that have not seen what is needed, and one for those that have
pub record NamesMoves (early late : List MoveSets) (entry : Record) (before behind : MoveSets) : Type 0 where
  pub early_is : slice_get early entry.of ≡ Some before
  pub late_is : slice_get late entry.of ≡ Some behind

-- the record says of each state that edges lead into what the place of t does with it
pub record IsRecordAt (problem : Problem) (bound : Bound) (t : Item) (rest : List Item)
    (early late : List MoveSets) (ranks : ℕ → ℕ → List ℕ) (CanAsk : ℕ → ℕ → Type 0) (entry : Record)
    : Type 0 where
  pub before : MoveSets
  pub behind : MoveSets
  pub names : NamesMoves early late entry before behind
  pub asked : (k : ℕ) → IsTarget problem k → CanAsk entry.kind k
  pub ranks_are : (k : ℕ) → IsTarget problem k → AreRanksAt problem bound t ranks entry.kind k
  pub early_is : (k : ℕ) → IsTarget problem k → IsMoveAt problem bound false t rest before k
  pub late_is : (k : ℕ) → IsTarget problem k → IsMoveAt problem bound true t rest behind k

-- The records of a part: at the place of each item what it does, and behind each sequence one that is dead.
pub record AreRecords (part : GridList) (places : List Record) (early late : List MoveSets)
    (ranks : ℕ → ℕ → List ℕ) (CanAsk : ℕ → ℕ → Type 0)
    : Type 0 where
  pub long : length places ≡ start_of part (length part.sequences)
  pub few : length places < 2 ^ 32
  pub same : length late ≡ length early
  pub known : (entry : Record) → Contains places entry → (entry.of < length early) × (entry.of < length late)
  pub at : (grid position : ℕ) (t : Item) → grid < length part.sequences
      → slice_get (items_at part grid) position ≡ Some t
      → (entry : Record) × (slice_get places (start_of part grid + position) ≡ Some entry)
      × IsRecordAt part.problem part.bound t (drop (position + 1) (items_at part grid)) early late ranks
      CanAsk entry
  pub wall : (grid : ℕ) → grid < length part.sequences
      → (entry : Record) × (before : MoveSets) × (behind : MoveSets)
      × (slice_get places (start_of part grid + length (items_at part grid)) ≡ Some entry)
      × NamesMoves early late entry before behind × IsDead before × IsDead behind
