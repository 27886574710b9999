-- What a visit may write behind a prefix.
use Rattle.std.specs.Prelude.{◌≢◌, ℕ, ◌<◌, Bool, ◌&&◌, ◌||◌, ◌==◌, if◌then◌else◌, List, All, AllPairs}
use Rattle.std.specs.List.{list_any}
use Rattle.walk_memo.specs.declared.action.Action.{Action}
use Rattle.place_walk.specs.declared.visit.Visit.{Visit}
use Rattle.stand_sums.specs.declared.aim.Aim.{Aim}
use Rattle.stand_sums.specs.Aims.{sees}

-- the ranks as which an item of a kind may be written into a state
abbrev pub Ranks : Type 0
Ranks = ℕ → ℕ → List ℕ

-- the visit may write the rank
abbrev pub writes : Ranks → ℕ → Visit → Bool
writes ranks rank visit = list_any (λ other. other == rank) (ranks visit.kind visit.action.state)

-- more can be written behind the rank; where what is needed is not yet seen with it, that can
abbrev pub goes_on : Aim → ℕ → Action → Bool
goes_on aim rank action = if sees aim rank then action.more else action.unseen

-- what is needed is seen with the rank, and the path can end behind it
abbrev pub stops : Aim → ℕ → Action → Bool
stops aim rank action = sees aim rank && action.ends

-- the visit writes the rank, and goes on
abbrev pub opens : Ranks → Aim → ℕ → Visit → Bool
opens ranks aim rank visit = writes ranks rank visit && goes_on aim rank visit.action

-- the visit writes the rank, and the prefix with it is a pattern
abbrev pub ends : Ranks → Aim → ℕ → Visit → Bool
ends ranks aim rank visit = writes ranks rank visit && stops aim rank visit.action

-- the visit writes the rank, and goes on or ends
abbrev pub follows : Ranks → Aim → ℕ → Visit → Bool
follows ranks aim rank visit = opens ranks aim rank visit || ends ranks aim rank visit

-- the ranks of the visit may be asked for, each is there once, and has room below the end
pub record IsReadable (ranks : Ranks) (CanAsk : ℕ → ℕ → Type 0) (end : ℕ) (visit : Visit) : Type 0 where
  pub asked : CanAsk visit.kind visit.action.state
  pub once : AllPairs (λ one other. one ≢ other) (ranks visit.kind visit.action.state)
  pub within : All (λ rank. rank < end) (ranks visit.kind visit.action.state)
