use Rattle.std.proofs.Common.{◌≡◌, ◌-◌}
use Rattle.state_bits.specs.Words.{AreWords}
use Rattle.state_bits.specs.Left.{left, IsPlace}
use Rattle.state_bits.proofs.state_iter.StateIterIterator.next.Given as goal

abbrev pub invariant-loop-self : goal.invariant-loop-self
invariant-loop-self g l =
    AreWords g.row.W l.self-inside.words.now × IsPlace g.row.W l.self-inside.read l.self-inside.rest
    × (left g.row.W l.self-inside.words.now l.self-inside.read l.self-inside.rest ≡ left g.row.W l.initial.self-inside.words.now l.initial.self-inside.read l.initial.self-inside.rest)

abbrev pub decreases-loop-self : goal.decreases-loop-self
decreases-loop-self g l = g.row.W - l.self-inside.read
