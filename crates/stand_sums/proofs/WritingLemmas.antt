-- What a visit writes by its kind and its action, how many stands there are, and the places of ranks that were found.
use Rattle.std.proofs.Common.{◌≡◌, ℕ, ◌≤◌, true, false, inl, inr, List, [], ◌∷◌, map, length, refl, arith}
use Rattle.std.proofs.lemmas.Bool.{and_parts, or_cases}
use Rattle.std.proofs.lemmas.List.{length-map}
use Rattle.walk_memo.specs.declared.action.Action.{Action}
use Rattle.place_walk.specs.declared.visit.Visit.{Visit}
use Rattle.stand_sums.specs.declared.aim.Aim.{Aim}
use Rattle.stand_sums.specs.declared.next_rank.NextRank.{NextRank}
use Rattle.stand_sums.specs.Files.{stand_at, stands_at}
use Rattle.stand_sums.specs.Sums.{AreLaidOut}
use Rattle.stand_sums.specs.Writings.{Ranks, writes, goes_on, stops, opens, ends, follows}

-- the visit where its place and its mark are not told
abbrev pub bare : ℕ → Action → Visit
bare kind action = record { place = 0; kind = kind; action = action; first = false }

-- no rank
abbrev pub no_rank : NextRank
no_rank = record { rank = 0; weight = 0; support = 0; longer = 0; first = 0; last = 0 }

-- a visit that the rank follows writes it
pub follows-writes : (ranks : Ranks) (aim : Aim) (rank : ℕ) (visit : Visit) → follows ranks aim rank visit ≡ true → writes ranks rank visit ≡ true
follows-writes ranks aim rank visit following = elim (or_cases (opens ranks aim rank visit) (ends ranks aim rank visit) following) [
  | inl opening ↦ (and_parts (writes ranks rank visit) (goes_on aim rank visit.action) opening).0
  | inr ending ↦ (and_parts (writes ranks rank visit) (stops aim rank visit.action) ending).0
]

pub at-long : (visits : List Visit) → length (stands_at visits) ≡ length visits
at-long [] = refl
at-long (visit ∷ visits) = let rest : length (map (stand_at false) visits) ≡ length visits = length-map visits (stand_at false) in omega (arith, rest)

-- the places go forward
pub laid-forward : (from : ℕ) (found : List NextRank) (end : ℕ) → AreLaidOut from found end → from ≤ end
laid-forward from [] end same = omega (arith, same)
laid-forward from (next ∷ found) end (first, forward, others) = let rest = laid-forward next.last found end others in omega (arith, forward, rest)
