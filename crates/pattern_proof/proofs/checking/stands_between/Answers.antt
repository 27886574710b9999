use Rattle.std.proofs.Common.{◌<◌, true≢false, sym, arith}
use Rattle.mine_model.proofs.AboveLemmas.{IsAncestor-keeps}
use Rattle.pattern_proof.proofs.checking.stands_between.Goals as goal

pub returns-then-v-items : goal.returns-then-v-items
returns-then-v-items c = (
  (λ wrong. absurd (true≢false (sym wrong))),
  (λ both.
      let less = IsAncestor-keeps c.args.hierarchy.now.links (λ x. x.0 < c.args.hierarchy.now.items) c.items.ensures.within c.args.v c.args.t c.requires both.0 in
      let number = c.items.ensures.number in let more = c.if-v-items.true in
      absurd (omega (arith, less, number, more))),
)
