use Rattle.state_bits.proofs.LeftLemmas.{IsStrictlyIncreasing-left, All-left, Contains-left}
use Rattle.state_bits.proofs.state_set.StateSet.iter.Goals as goal

pub returns-clause-rising : goal.returns-clause-rising
returns-clause-rising g c = rw c.over.ensures (IsStrictlyIncreasing-left g.row.W c.self.inside.words)

pub returns-clause-members : goal.returns-clause-members
returns-clause-members g c = rw (c.over.ensures, ← c.self.view_is) (Contains-left g.row.W c.self.inside.words c.self.invariant)

pub returns-clause-within : goal.returns-clause-within
returns-clause-within g c = rw c.over.ensures (All-left g.row.W c.self.inside.words)
