-- Sums that were made in one walk or in several.
use Rattle.std.proofs.Common.{◌≡◌, ℕ, Bool, List, [], refl, subst, arith}
use Rattle.mine_model.specs.Support.{Sequence, Counts}
use Rattle.place_walk.specs.declared.visit.Visit.{Visit}
use Rattle.stand_sums.specs.declared.aim.Aim.{Aim}
use Rattle.stand_sums.specs.Writings.{Ranks, opens, ends, follows}
use Rattle.stand_sums.specs.Sequences.{HasOne, all_weighed}
use Rattle.stand_sums.specs.Sums.{Tally, empty_tally, Grows, stands_among, AreCounted}

-- nothing was counted yet
pub counted-none : (ranks : Ranks) (aim : Aim) (weights : List ℕ) (rank : ℕ) (tally : Tally) → AreCounted ranks aim weights rank [] [] tally tally
counted-none ranks aim weights rank tally = record {
  weight = (0, refl, omega arith);
  support = (0, refl, omega arith);
  longer = (0, refl, omega arith);
  stands = omega arith;
}

-- a sum that grew from nothing is all that was counted
grows-all : (test : Visit → Bool) (sequences : List (Sequence Visit)) (n : ℕ) → Grows test sequences 0 n → Counts (HasOne test) sequences n
grows-all test sequences n (m, counts, is) = subst (Counts (HasOne test) sequences) (let same : m ≡ n = omega (arith, is) in same) counts

module _ (ranks : Ranks) (aim : Aim) (weights : List ℕ) (rank : ℕ) (visits : List Visit) (sequences : List (List Visit)) (tally : Tally)
    (counted : AreCounted ranks aim weights rank visits sequences empty_tally tally) where
  pub weight-all : Counts (HasOne (follows ranks aim rank)) (all_weighed weights sequences) tally.weight
  weight-all = grows-all (follows ranks aim rank) (all_weighed weights sequences) tally.weight counted.weight

  pub support-all : Counts (HasOne (ends ranks aim rank)) (all_weighed weights sequences) tally.support
  support-all = grows-all (ends ranks aim rank) (all_weighed weights sequences) tally.support counted.support

  pub longer-all : Counts (HasOne (opens ranks aim rank)) (all_weighed weights sequences) tally.longer
  longer-all = grows-all (opens ranks aim rank) (all_weighed weights sequences) tally.longer counted.longer

  pub stands-all_among : tally.stands ≡ stands_among ranks aim rank visits
  stands-all_among = let is = counted.stands in omega arith
