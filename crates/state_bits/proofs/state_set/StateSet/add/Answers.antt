use Rattle.std.proofs.Common.{◌/◌, ◌<◌, length, arith}
use Rattle.state_bits.proofs.SetLemmas.{AreWords-with_bit, Has-with_bit}
use Rattle.state_bits.proofs.state_set.StateSet.add.Goals as goal

pub invariant_of-self : goal.invariant_of-self
invariant_of-self g c = AreWords-with_bit g.row.W c.self.inside.words c.args.q c.self.invariant (omega arith) c.ranges.q.fits

pub returns : goal.returns
returns g c =
    let inside : c.args.q / 64 < length c.self.inside.words = omega arith in
    let after = AreWords-with_bit g.row.W c.self.inside.words c.args.q c.self.invariant inside c.ranges.q.fits in
    rw (← c.self.view_is) (Has-with_bit c.self.inside.words c.args.q c.self.invariant.fit after.fit inside)
