use Rattle.sequence_grids.specs.Wholes.{IsWholeAlphabet}
use Rattle.sequence_grids.proofs.alphabet.meet_items_of.Given as goal

abbrev pub invariant-loop-number : goal.invariant-loop-number
invariant-loop-number l = IsWholeAlphabet l.job l.all
