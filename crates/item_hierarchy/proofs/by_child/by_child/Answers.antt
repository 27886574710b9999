use Rattle.std.proofs.Common.{◌<◌, rules}
use Rattle.std.proofs.lemmas.List.Sorted.{IsNonDecreasingBy-from_sort_by_key, All-permutation}
use Rattle.item_hierarchy.specs.declared.edges.EdgeRow.{EdgeRow}
use Rattle.item_hierarchy.proofs.by_child.by_child.Goals as goal

pub starts_of-requires-clause-sorted : goal.starts_of-requires-clause-sorted
starts_of-requires-clause-sorted c =
    rw c.as_slice.ensures.value
    (IsNonDecreasingBy-from_sort_by_key (λ (row : EdgeRow). row.child.0) _ c.in_ok-sort_by_key.ensures.sorted (λ a r q k. search rules))

pub starts_of-requires-clause-within : goal.starts_of-requires-clause-within
starts_of-requires-clause-within c =
    rw c.as_slice.ensures.value
    (All-permutation (λ (row : EdgeRow). (row.child.0 < c.args.edges.items) × (row.parent.0 < c.args.edges.items)) _ _
    c.sort_by_key.ensures.permutation c.requires)
