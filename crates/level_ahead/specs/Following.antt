-- What was found on the way behind a visit.
use Rattle.std.specs.Prelude.{ℕ, ◌⊎◌, ◌↔◌, Option, List}
use Rattle.state_bits.specs.Members.{Has}
use Rattle.place_walk.specs.declared.visit.Visit.{Visit}
use Rattle.stand_sums.specs.Writings.{Ranks, follows}
use Rattle.stand_sums.specs.Sequences.{HasOne}
use Rattle.mask_sums.specs.Kept.{lacks}
use Rattle.level_ahead.specs.Behind.{goes_further}

-- none of the visits goes on, and the set has the ranks that follow by them, too, where the prefix lacks this
-- rank or none
pub record HasEnded (ranks : Ranks) (lacking : Option ℕ) (visits : List Visit) (before after : ℕ)
    : Type 0 where
  pub ended : HasOne (goes_further ranks lacking) visits → ⊥
  pub added : (rank : ℕ)
      → Has after rank ↔ (Has before rank ⊎ HasOne (follows ranks (lacks lacking) rank) visits)
