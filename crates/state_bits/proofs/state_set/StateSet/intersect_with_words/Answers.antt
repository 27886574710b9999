use Rattle.std.proofs.Common.{arith}
use Rattle.state_bits.proofs.SetLemmas.{AreWords-and, Has-and_bits}
use Rattle.state_bits.proofs.state_set.StateSet.intersect_with_words.Goals as goal

pub invariant_of-self : goal.invariant_of-self
invariant_of-self g c = AreWords-and g.row.W c.self.inside.words c.args.words.now c.keep_words.new.words c.self.invariant (omega arith) c.keep_words.ensures

pub returns : goal.returns
returns g c =
    let after = AreWords-and g.row.W c.self.inside.words c.args.words.now c.keep_words.new.words c.self.invariant (omega arith) c.keep_words.ensures in
    rw (← c.self.view_is) (Has-and_bits c.self.inside.words c.args.words.now c.keep_words.new.words c.self.invariant.fit after.fit c.keep_words.ensures)
