-- What is written behind what a prefix writes next, which may lack a rank.
use Rattle.std.specs.Prelude.{ℕ, ◌<◌, Bool, true, ◌||◌, ◌&&◌, IsTrue, Option, Some, None, List, [], ◌∷◌, Contains, length}
use Rattle.place_walk.specs.declared.visit.Visit.{Visit}
use Rattle.place_walk.specs.Courses.{Course}
use Rattle.place_walk.specs.Visits.{IsVisit}
use Rattle.stand_sums.specs.Writings.{Ranks, writes, opens, follows}
use Rattle.stand_sums.specs.Files.{stand_at}
use Rattle.mask_sums.specs.Kept.{lacks}

-- it is written next from where the path stands behind the visit
abbrev pub IsBehind : Course → Visit → Visit → Type 0
IsBehind course visit next =
    IsVisit course (stand_at true visit ∷ []) next.place next.kind next.action

-- one of the visits writes the rank and goes on, where the prefix lacks this rank or none, and something
-- passes that is written next behind it
pub record HasBehind (course : Course) (ranks : Ranks) (lacking : Option ℕ) (rank : ℕ) (test : Visit → Bool)
    (visits : List Visit)
    : Type 0 where
  pub visit : Visit
  pub held : Contains visits visit
  pub opening : IsTrue (opens ranks (lacks lacking) rank visit)
  pub next : Visit
  pub behind : IsBehind course visit next
  pub passes : IsTrue (test next)

-- behind the rank the other one can follow
abbrev pub FollowsBehind : Course → Ranks → Option ℕ → ℕ → ℕ → List Visit → Type 0
FollowsBehind course ranks lacking rank other visits =
    HasBehind course ranks lacking rank (follows ranks (lacks lacking) other) visits

-- more is written behind the visit; where a rank is lacking: behind this rank, or up to it
abbrev pub goes_further : Ranks → Option ℕ → Visit → Bool
goes_further ranks None visit = visit.action.more
goes_further ranks (Some need) visit = visit.action.unseen || (writes ranks need visit && visit.action.more)

-- behind the rank something is written that goes on
abbrev pub GoesOnBehind : Course → Ranks → Option ℕ → ℕ → List Visit → Type 0
GoesOnBehind course ranks lacking rank visits =
    HasBehind course ranks lacking rank (goes_further ranks lacking) visits

-- a walk can begin behind the visit, and the ranks of what is written next may be asked for
pub record CanLookBehind (course : Course) (CanAsk : ℕ → ℕ → Type 0) (visit : Visit) : Type 0 where
  pub place : visit.place < length course.places
  pub state : visit.action.state < length course.rows
  pub asked : (next : Visit) → IsBehind course visit next → CanAsk next.kind next.action.state
