use Rattle.sequence_grids.specs.Places.{IsAlphabetTo}
use Rattle.sequence_grids.proofs.alphabet.meet_sequences.Given as goal

abbrev pub invariant-loop-number : goal.invariant-loop-number
invariant-loop-number l = IsAlphabetTo l.job l.bound l.all.tables l.all.kinds l.number
