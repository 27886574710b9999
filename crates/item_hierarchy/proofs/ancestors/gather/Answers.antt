use Rattle.std.proofs.Common.{◌≡◌, ◌≢◌, ◌<◌, length, get_or, sym, ◌∙◌, arith}
use Rattle.std.specs.List.{slice_index}
use Rattle.std.proofs.lemmas.List.{get_or_default}
use Rattle.mine_model.specs.declared.item.Item.{Item}
use Rattle.item_hierarchy.proofs.GatheringLemmas.{gathers-none, gathers-same, gathers-more}
use Rattle.item_hierarchy.proofs.ancestors.gather.Goals as goal
use Rattle.item_hierarchy.proofs.ancestors.gather.Goals.{then-index-stamp+else-len-room+in_ok-push, else-index-stamp}

pub loop-w-init : goal.loop-w-init
loop-w-init c = gathers-none c.args.stamp c.args.room c.args.list.now c.args.seen.now.items c.args.gathered.now.items c.requires.stamped c.requires.room

pub loop-w-preserved : goal.loop-w-preserved
loop-w-preserved c =
    let w : Item = get_or c.args.list.now c.loop-w.w-index (record { 0 = 0 }) in
    let within : w.0 < length c.loop-w.seen.items = omega (arith, c.loop-w.invariant.size, c.requires.within c.loop-w.w-index (record { 0 = 0 }) c.loop-w-test.true) in
    let read : c.index.result.now ≡ slice_index c.loop-w.seen.items w.0 = c.index.ensures ∙ get_or_default c.loop-w.seen.items w.0 c.index.result.now 0 within in
    elim c.if-index-stamp.branch [
      | then-index-stamp+else-len-room+in_ok-push b ↦
          let some : length c.loop-w.gathered.items < c.args.room = omega (arith, b.if-len-room.false, b.len.ensures, c.loop-w.gathered.ok.0, c.loop-w.invariant.few) in
          let new : slice_index c.loop-w.seen.items w.0 ≢ c.args.stamp = λ same. b.if-index-stamp.true (read ∙ same) in
          rw (b.seen-is, b.gathered-is, b.in_ok-push.ensures.items)
          (gathers-more c.args.stamp c.args.room c.args.list.now c.loop-w.w-index c.args.seen.now.items c.args.gathered.now.items c.loop-w.seen.items
          c.loop-w.gathered.items c.loop-w.invariant (record { 0 = 0 }) c.loop-w-test.true within new some)
      | else-index-stamp b ↦
          rw (b.seen-is, b.gathered-is)
          (gathers-same c.args.stamp c.args.room c.args.list.now c.loop-w.w-index c.args.seen.now.items c.args.gathered.now.items c.loop-w.seen.items
          c.loop-w.gathered.items c.loop-w.invariant (record { 0 = 0 }) c.loop-w-test.true within (sym read ∙ b.if-index-stamp.false))
    ]
