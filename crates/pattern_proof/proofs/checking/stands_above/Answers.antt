use Rattle.std.proofs.Common.{◌<◌, true≢false, sym, arith}
use Rattle.mine_model.proofs.AboveLemmas.{IsAncestor-keeps}
use Rattle.pattern_proof.proofs.checking.stands_above.Goals as goal

pub returns-then-w-items : goal.returns-then-w-items
returns-then-w-items c = (
  (λ wrong. absurd (true≢false (sym wrong))),
  (λ above.
      let less = IsAncestor-keeps c.args.hierarchy.now.links (λ x. x.0 < c.args.hierarchy.now.items) c.items.ensures.within c.args.w c.args.t c.requires above in
      let number = c.items.ensures.number in let more = c.if-w-items.true in
      absurd (omega (arith, less, number, more))),
)
