use Rattle.state_bits.specs.Members.{Has}
use Rattle.level_ahead.proofs.GatherLemmas.{AreLeft, AreGathered}
use Rattle.level_ahead.proofs.gathered.Gathered.gather.Given as goal

abbrev pub invariant-loop-rank : goal.invariant-loop-rank
invariant-loop-rank l = record {
  left : AreLeft (Has l.wanted) l.yielded l.rank-iterator;
  gathered : AreGathered l.initial.self l.self l.next l.yielded;
}
