use Rattle.state_bits.specs.Members.{Has}
use Rattle.level_ahead.proofs.GatherLemmas.{AreLeft, AreCountedSoFar}
use Rattle.level_ahead.proofs.counting.count_sequence.Given as goal

abbrev pub invariant-loop-rank : goal.invariant-loop-rank
invariant-loop-rank l = record {
  left : AreLeft (Has l.gathered.touched) l.yielded l.rank-iterator;
  counted : AreCountedSoFar l.gathered.sets.items l.initial.counts l.counts l.yielded;
}
