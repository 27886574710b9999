-- Keys of nodes in a table.
use Rattle.std.proofs.Common.{◌≡◌, ◌-◌, ◌<◌, List, [], ◌∷◌, map, arith, sym, ◌∙◌}
use Rattle.std.specs.List.{slice_index_or}
use Rattle.std.proofs.lemmas.List.{length-map}
use Rattle.std.proofs.lemmas.Option.{get_or_from_slice_get}
use Rattle.mine_model.proofs.ElementLemmas.{get-some, slice_get-mapped_by}
use Rattle.open_addressing.specs.Table.{IsSlot}
use Rattle.prefix_counts.specs.declared.node.Node.{Node}
use Rattle.prefix_counts.specs.declared.table.Key.{Key}
use Rattle.prefix_counts.specs.declared.table.Slot.{Slot}
use Rattle.prefix_counts.specs.Table.{key_of, layout, pairs_of}

-- a slot that is taken has the pair of the node whose number it holds
pub pair_of_slot : (nodes : List Node) (slot : Slot) → IsSlot layout (map key_of (pairs_of nodes)) slot → 0 < slot.held
    → slice_index_or (pairs_of nodes) (slot.held - 1) [] ≡ slot.parent ∷ slot.rank ∷ []
pair_of_slot nodes slot is taken =
    let keys = length-map (pairs_of nodes) key_of in
    let pairs = length-map nodes (λ node. node.parent ∷ node.rank ∷ []) in
    let within = is.within in
    let (node, at) = get-some nodes (slot.held - 1) (omega (arith, within, taken, keys, pairs)) in
    let pair = slice_get-mapped_by (λ node. node.parent ∷ node.rank ∷ []) nodes (slot.held - 1) node at in
    let keyed = slice_get-mapped_by key_of (pairs_of nodes) (slot.held - 1) (node.parent ∷ node.rank ∷ []) pair in
    let none : Key = record { parent = 0; rank = 0 } in
    let key : record { parent = slot.parent; rank = slot.rank } ≡ record { parent = node.parent; rank = node.rank } =
    is.key taken ∙ get_or_from_slice_get (map key_of (pairs_of nodes)) (slot.held - 1) (record { parent = node.parent; rank = node.rank }) none keyed in
    get_or_from_slice_get (pairs_of nodes) (slot.held - 1) (node.parent ∷ node.rank ∷ []) [] pair
    ∙ sym (λ j. (key j).parent ∷ (key j).rank ∷ [])
