use Rattle.std.proofs.Common.{◌≡◌, arith, get_or, refl}
use Rattle.std.proofs.lemmas.List.{get_or_default}
use Rattle.mine_model.specs.declared.item.Item.{Item}
use Rattle.mine_model.proofs.RankLemmas.{HasRank-held}
use Rattle.sequence_grids.proofs.KindLemmas.{ArePushedSoFar-none, ArePushedSoFar-skip, ArePushedSoFar-push, ArePushedSoFar-all, rank_unique}
use Rattle.sequence_grids.proofs.kinds.push_ranks.Goals as goal
use Rattle.sequence_grids.proofs.kinds.push_ranks.Goals.{in-Some+then-rank-top+in_ok-push, in-Some+else-rank-top, in_default}

pub loop-item-init : goal.loop-item-init
loop-item-init c = ArePushedSoFar-none c.args.ranks.now.order c.args.top c.args.items.now c.args.found.now.items c.requires.empty

pub loop-item-preserved : goal.loop-item-preserved
loop-item-preserved c =
    let item : Item = get_or c.args.items.now c.loop-item.item-index (record { 0 = 0 }) in
    let same_item : get_or c.args.items.now c.loop-item.item-index item ≡ item = get_or_default c.args.items.now c.loop-item.item-index item (record { 0 = 0 }) c.loop-item-test.true in
    elim c.match-rank.branch [
      | in-Some+then-rank-top+in_ok-push w ↦ rw (w.found-is, w.in_ok-push.ensures.items)
          (ArePushedSoFar-push c.args.ranks.now.order c.args.top c.args.items.now c.loop-item.found.items c.loop-item.item-index item c.loop-item.invariant c.loop-item-test.true same_item
          c.requires.ranked c.requires.rising w.in-Some.rank w.in-Some.ensures.rank w.if-rank-top.true)
      | in-Some+else-rank-top w ↦ rw w.found-is
          (ArePushedSoFar-skip c.args.ranks.now.order c.args.top c.args.items.now c.loop-item.found.items c.loop-item.item-index item c.loop-item.invariant c.loop-item-test.true same_item
          (λ rank has low.
          let same : rank ≡ w.in-Some.rank = rank_unique c.args.ranks.now.order item rank w.in-Some.rank c.requires.ranked has w.in-Some.ensures.rank in
          let high = w.if-rank-top.false in
          omega arith))
      | in_default w ↦ rw w.found-is
          (ArePushedSoFar-skip c.args.ranks.now.order c.args.top c.args.items.now c.loop-item.found.items c.loop-item.item-index item c.loop-item.invariant c.loop-item-test.true same_item
          (λ rank has low. w.in_default.ensures.none.0 refl (HasRank-held c.args.ranks.now.order item rank has)))
    ]

pub returns-clause-ranks : goal.returns-clause-ranks
returns-clause-ranks c = ArePushedSoFar-all c.args.ranks.now.order c.args.top c.args.items.now c.loop-item.found.items c.loop-item.item-index c.loop-item.invariant c.loop-item-test.false

pub returns-clause-once : goal.returns-clause-once
returns-clause-once c = c.loop-item.invariant.once
