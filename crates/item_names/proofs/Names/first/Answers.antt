use Rattle.std.proofs.Common.{◌<◌, length, subst, take, List, ℕ, arith}
use Rattle.item_names.specs.Names.{IsInterned}
use Rattle.item_names.proofs.JoiningLemmas.{first_more}
use Rattle.item_names.proofs.Names.first.Goals as goal

pub loop-number-preserved : goal.loop-number-preserved
loop-number-preserved c = record {
  front =
      let within : c.loop-number.number < length c.args.self.now = let below = c.loop-number-test.true in let most = c.requires in omega (arith, below, most) in
      let known : IsInterned (take c.loop-number.number c.args.self.now) c.text.result.now c.intern.new.self =
      subst (λ (w : List (List ℕ)). IsInterned w c.text.result.now c.intern.new.self) c.loop-number.invariant.front c.in-Ok.ensures.names in
      first_more c.args.self.now c.intern.new.self c.loop-number.number c.count.ensures.distinct within
      (subst (λ (w : List ℕ). IsInterned (take c.loop-number.number c.args.self.now) w c.intern.new.self) c.text.ensures known);
}
