use Rattle.std.proofs.Common.{arith}
use Rattle.state_bits.proofs.SetLemmas.{AreWords-or, Has-or}
use Rattle.state_bits.proofs.state_set.StateSet.union_with.Goals as goal

pub invariant_of-self : goal.invariant_of-self
invariant_of-self g c = AreWords-or g.row.W c.self.inside.words c.other.inside.words c.join_words.new.words c.self.invariant c.other.invariant (omega arith) c.join_words.ensures

pub returns : goal.returns
returns g c =
    let after = AreWords-or g.row.W c.self.inside.words c.other.inside.words c.join_words.new.words c.self.invariant c.other.invariant (omega arith) c.join_words.ensures in
    rw (← c.self.view_is, ← c.other.view_is)
    (Has-or c.self.inside.words c.other.inside.words c.join_words.new.words c.self.invariant.fit c.other.invariant.fit after.fit c.join_words.ensures)
