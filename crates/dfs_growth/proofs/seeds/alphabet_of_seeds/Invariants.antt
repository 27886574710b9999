use Rattle.sequence_grids.specs.Wholes.{IsWholeAlphabet}
use Rattle.dfs_growth.proofs.seeds.alphabet_of_seeds.Given as goal

abbrev pub invariant-seeds : goal.invariant-seeds
invariant-seeds l = IsWholeAlphabet l.job l.all
