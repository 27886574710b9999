use Rattle.std.proofs.Common.{◌%◌, ◌/◌, get_or, eq-eqb, ◌∙◌, sym}
use Rattle.std.proofs.lemmas.Bool.{eqb-true}
use Rattle.std.proofs.lemmas.Nat.Bits.{shr_and_one}
use Rattle.state_bits.proofs.WordLemmas.{bit_from_member, member_from_bit}
use Rattle.state_bits.proofs.state_set.StateSet.has.Goals as goal

pub returns : goal.returns
returns g c =
    let bit = shr_and_one (get_or c.self.inside.words (c.args.q / 64) 0) (c.args.q % 64) in
    rw (← c.self.view_is) (
      (λ yes. member_from_bit c.self.inside.words c.args.q c.self.invariant.fit (sym bit ∙ eqb-true _ _ yes)),
      (λ has. eq-eqb _ _ (bit ∙ bit_from_member c.self.inside.words c.args.q c.self.invariant.fit has)),
    )
