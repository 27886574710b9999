-- Sums by rank, of which a part was counted by sets of ranks.
use Rattle.std.specs.Prelude.{ℕ, suc, ◌+◌, List, [], ◌∷◌, slice_index}
use Rattle.stand_sums.specs.Sums.{Tally}
use Rattle.mask_sums.specs.declared.masked.Masked.{Masked}

-- what was counted of the rank by sets, where each sequence weighs 1
abbrev pub masked_at : Masked → ℕ → Tally
masked_at masked rank = record {
  weight = slice_index masked.followed rank;
  support = slice_index masked.ended rank;
  longer = slice_index masked.opened rank;
  stands = slice_index masked.stands rank;
}

-- both sums
abbrev pub plus : Tally → Tally → Tally
plus one other = record {
  weight = one.weight + other.weight;
  support = one.support + other.support;
  longer = one.longer + other.longer;
  stands = one.stands + other.stands;
}

-- the sums of the ranks from this one on, with what was counted of them by sets
abbrev pub together : Masked → ℕ → List Tally → List Tally
together masked rank [] = []
together masked rank (tally ∷ tallies) =
    plus tally (masked_at masked rank) ∷ together masked (suc rank) tallies
