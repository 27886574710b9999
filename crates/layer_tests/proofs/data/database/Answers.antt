use Rattle.std.proofs.Common.{◌<◌}
use Rattle.std.specs.List.{AllByRecursion}
use Rattle.std.proofs.lemmas.List.Elements.{recursion_from_All}
use Rattle.mine_model.specs.declared.item.Item.{Item}
use Rattle.mine_model.specs.Support.{Sequence}
use Rattle.mine_model.proofs.ListLemmas.{of_both}
use Rattle.layer_tests.proofs.data.database.Goals as goal
use Rattle.layer_tests.proofs.data.database.Goals.{then-are_known+then-sequences-lt4194304+then-items-le65535+in_ok-push_weighted, else-are_known}

pub loop-preserved : goal.loop-preserved
loop-preserved c =
    let Known : Sequence Item → Type 0 = λ s. AllByRecursion (λ t. t.0 < 11) s.items in
    elim c.if-are_known.branch [
      | then-are_known+then-sequences-lt4194304+then-items-le65535+in_ok-push_weighted w ↦
          rw (w.db-is, w.in_ok-push_weighted.ensures.ok)
          (of_both Known c.loop.db _ c.loop.invariant (recursion_from_All (λ t. t.0 < 11) _ (c.are_known.ensures w.if-are_known.true), tt))
      | else-are_known w ↦ rw w.db-is c.loop.invariant
    ]
