use Rattle.std.proofs.Common.{◌<◌, subst}
use Rattle.std.proofs.lemmas.List.Sorted.{All-permutation}
use Rattle.item_hierarchy.specs.declared.edges.EdgeRow.{EdgeRow}
use Rattle.item_hierarchy.proofs.ClosingLemmas.{refusal_moved}
use Rattle.item_hierarchy.specs.Edges.{links_of, IsCloseRefusal}
use Rattle.item_hierarchy.specs.Walking.{IsParentsFirst}
use Rattle.mine_model.specs.Hierarchy.{IsAcyclic}
use Rattle.item_hierarchy.proofs.closing.order.Goals as goal

pub order_of-requires-clause-within : goal.order_of-requires-clause-within
order_of-requires-clause-within c =
    rw c.as_slice-2.ensures.value
    (All-permutation (λ (row : EdgeRow). (row.child.0 < c.args.edges.items) × (row.parent.0 < c.args.edges.items)) _ _ c.in_ok-sorted.ensures.rows c.requires.within)

pub invariant_of-result : goal.invariant_of-result
invariant_of-result c = (
  c.in_ok-sorted.ensures.sorted,
  All-permutation (λ (row : EdgeRow). (row.child.0 < c.args.edges.items) × (row.parent.0 < c.args.edges.items)) _ _ c.in_ok-sorted.ensures.rows c.requires.within,
  subst (λ rows. IsParentsFirst (links_of rows) c.args.edges.items c.in-Ok.order.items) c.as_slice-2.ensures.value c.in-Ok.ensures.order,
  subst (λ rows. IsAcyclic (links_of rows)) c.as_slice-2.ensures.value c.in-Ok.ensures.acyclic,
)

pub returns-in-Err-clause-refusal : goal.returns-in-Err-clause-refusal
returns-in-Err-clause-refusal c =
    refusal_moved c.args.edges.rows.items c.in_ok-sorted.sorted.rows.items c.in_ok-sorted.ensures.rows c.args.edges.items c.in-Err.fault
    (subst (λ rows. IsCloseRefusal c.args.edges.items rows c.in-Err.fault) c.as_slice-2.ensures.value c.in-Err.ensures.refusal)
