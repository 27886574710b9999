use Rattle.std.proofs.Common.{◌≡◌, ◌+◌, ◌<◌, ◌++◌, [], ◌∷◌, List, Some, length, map, get_or, ap, sym, subst, ◌∙◌, inr, arith, refl, slice_get, Contains}
use Rattle.std.proofs.lemmas.List.{length-map, map_push}
use Rattle.std.proofs.lemmas.Option.{slice_get-get_or}
use Rattle.open_addressing.specs.Table.{IsTable}
use Rattle.prefix_counts.specs.declared.node.Node.{Node}
use Rattle.prefix_counts.specs.Nodes.{lists_of, sums_of, AreNodes}
use Rattle.prefix_counts.specs.Prefixes.{Prefixes}
use Rattle.prefix_counts.specs.Table.{key_of, layout, pairs_of}
use Rattle.prefix_counts.proofs.NodeLemmas.{lists_of-push, list_found, list_pushed, pushed}
use Rattle.prefix_counts.proofs.PrefixCounts.longer.Goals as goal
use Rattle.prefix_counts.proofs.PrefixCounts.longer.Goals.{After-place}

pub returns-in-Some-clause-number : goal.returns-in-Some-clause-number
returns-in-Some-clause-number c list is =
    let found = subst (λ (n : List Node). slice_get (pairs_of n) c.in-Some.at ≡ Some (c.args.number ∷ c.args.rank ∷ [])) c.as_slice.ensures.value c.in-Some.ensures.number in
    let stands = subst (λ (p : Prefixes). slice_get p.lists c.args.number ≡ Some list) (sym c.self.view_is) is in
    subst (λ (p : Prefixes). slice_get p.lists (c.in-Some.at + 1) ≡ Some (list ++ c.args.rank ∷ [])) c.self.view_is
    (list_found c.self.inside.nodes.items c.self.inside.slots.items c.self.invariant c.in-Some.at c.args.number c.args.rank list found stands)

module _ (c : After-place) where
  items : c.push_reserved.new.self.items ≡ c.self.inside.nodes.items ++ (record { parent = c.args.number; rank = c.args.rank; sum = 0 }) ∷ []
  items = c.push_reserved.ensures.items ∙ ap (λ w. w ++ (record { parent = c.args.number; rank = c.args.rank; sum = 0 }) ∷ []) c.in_ok-reserve.ensures.items

  within : c.args.number < length (lists_of c.self.inside.nodes.items)
  within = subst (λ (p : Prefixes). c.args.number < length p.lists) (sym c.self.view_is) c.requires

  new : Contains (pairs_of c.self.inside.nodes.items) (c.args.number ∷ c.args.rank ∷ []) → ⊥
  new = subst (λ (n : List Node). Contains (pairs_of n) (c.args.number ∷ c.args.rank ∷ []) → ⊥) c.as_slice.ensures.value (c.in_default.ensures.none.0 refl)

  few : length c.self.inside.nodes.items < 4294967294
  few = omega (arith, c.if-count-ge-MOST_NODES.false, c.len-count.ensures)

  table : IsTable layout (map key_of (pairs_of c.self.inside.nodes.items) ++ (record { parent = c.args.number; rank = c.args.rank }) ∷ []) c.place.new.slots.items
  table =
      let nodes = c.self.inside.nodes.items in
      let same : c.as_slice-3.result.now ≡ c.self.inside.nodes.items = c.as_slice-3.ensures.value ∙ c.in_ok-reserve.ensures.items in
      let before = subst (λ (n : List Node). IsTable layout (map key_of (pairs_of n)) c.make_room.new.slots.items) same c.make_room.ensures.table in
      let room = subst (λ (n : List Node). length n < length c.make_room.new.slots.items) same c.in_ok-make_room.ensures.room in
      let keys = length-map (pairs_of nodes) key_of in
      let pairs = length-map nodes (λ (node : Node). node.parent ∷ node.rank ∷ []) in
      c.place.ensures.table (map key_of (pairs_of nodes)) before (omega (arith, keys, pairs, c.len-count.ensures)) (omega (arith, room, c.len-count.ensures))

pub invariant_of-self-2 : goal.invariant_of-self-2
invariant_of-self-2 c =
    let at_end = (goal.at.invariant_of-self-2 c).After-place in
    subst (λ (n : List Node). AreNodes n c.place.new.slots.items) (sym (items at_end))
    (pushed c.self.inside.nodes.items c.self.inside.slots.items c.self.invariant (record { parent = c.args.number; rank = c.args.rank; sum = 0 }) (within at_end) (new at_end) (few at_end) c.place.new.slots.items (table at_end))

pub returns-clause-number : goal.returns-clause-number
returns-clause-number c list is =
    let at_end = (goal.at.returns-clause-number c).After-place in
    let stands = subst (λ (p : Prefixes). slice_get p.lists c.args.number ≡ Some list) (sym c.self.view_is) is in
    subst (λ (n : List Node). slice_get (lists_of n) (c.len-count.result + 1) ≡ Some (list ++ c.args.rank ∷ [])) (sym (items at_end))
    (list_pushed c.self.inside.nodes.items (record { parent = c.args.number; rank = c.args.rank; sum = 0 }) (c.len-count.result + 1) list (omega (arith, c.len-count.ensures)) stands)

pub returns-clause-grown : goal.returns-clause-grown
returns-clause-grown c =
    let at_end = (goal.at.returns-clause-grown c).After-place in
    let node : Node = record { parent = c.args.number; rank = c.args.rank; sum = 0 } in
    inr (
      get_or c.args.self.now.lists c.args.number [],
      slice_get-get_or c.args.self.now.lists c.args.number [] c.requires,
      ap lists_of (items at_end) ∙ lists_of-push c.self.inside.nodes.items node ∙ ap (λ (p : Prefixes). p.lists ++ (get_or p.lists c.args.number [] ++ c.args.rank ∷ []) ∷ []) c.self.view_is,
      ap sums_of (items at_end) ∙ ap (λ w. 0 ∷ w) (map_push (λ (node : Node). node.sum) c.self.inside.nodes.items node) ∙ ap (λ (p : Prefixes). p.sums ++ 0 ∷ []) c.self.view_is,
    )
