-- What items may do under the bound of all ranks, from which it is cut what they may do under a lesser one.
use Rattle.std.specs.Prelude.{ℕ, ◌<◌, ◌↔◌, None, List, length, AllPairs, Contains}
use Rattle.mine_model.specs.declared.item.Item.{Item}
use Rattle.mining_job.specs.declared.bound.Bound.{Bound}
use Rattle.mining_job.specs.Problems.{Problem}
use Rattle.sequence_grids.specs.declared.alphabet.Alphabet.{Alphabet}
use Rattle.sequence_grids.specs.Grids.{WritesRank}
use Rattle.sequence_grids.specs.Places.{IsAlphabetTo}

-- the bound that allows all ranks and needs none
abbrev pub whole_bound : Problem → Bound
whole_bound problem = record { top = length problem.ranking.order; need = None }

-- the kinds of some items of the problem, all that were met, under this bound
abbrev pub IsWholeAlphabet : Problem → Alphabet → Type 0
IsWholeAlphabet problem all = IsAlphabetTo problem (whole_bound problem) all.tables all.kinds 0

-- the ranks are those that edges into the state may write at t, and they rise
pub record AreOutputs (problem : Problem) (bound : Bound) (t : Item) (k : ℕ) (ranks : List ℕ)
    : Type 0 where
  pub outputs : (rank : ℕ) → Contains ranks rank ↔ WritesRank problem bound t k rank
  pub rising : AllPairs (λ low high. low < high) ranks
