use Rattle.std.proofs.Common.{arith, ap, ◌∙◌, ◌+◌, ◌-◌, ◌≡◌, length}
use Rattle.node_pool.proofs.Seating.{seat_fresh, seat_rights}
use Rattle.node_pool.proofs.setup.seat.Goals as goal

pub invariant_of-result : goal.invariant_of-result
invariant_of-result g c = let sum : 65 - length c.args.ways.items + length c.args.ways.items ≡ 65 = omega (arith, c.requires.few) in record {
  own = c.requires.own;
  few = c.requires.few;
  parts = ap (λ v. v.parts + length c.args.ways.items) c.requires.owner ∙ sum;
  rights = seat_rights _ _ _ c.requires.ways;
}

pub returns-clause-fresh : goal.returns-clause-fresh
returns-clause-fresh g c = seat_fresh _ _ _ c.args.owner c.args.ways.items c.requires.owner c.requires.ways
