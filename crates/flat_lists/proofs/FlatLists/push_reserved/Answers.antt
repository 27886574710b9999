use Rattle.std.proofs.Common.{◌≡◌, ◌+◌, ◌<◌, ◌≤◌, ◌++◌, length, vec_len, ap, arith}
use Rattle.flat_lists.specs.Shelf.{Shelf, elements_of}
use Rattle.flat_lists.proofs.CutLemmas.{length-lists_in, cut-more, lists_in-push}
use Rattle.flat_lists.proofs.ShelfLemmas.{elements_of-lists_in}
use Rattle.flat_lists.proofs.FlatLists.push_reserved.Given.{Over}
use Rattle.flat_lists.proofs.FlatLists.push_reserved.Goals as goal

pub push_reserved-requires : goal.push_reserved-requires
push_reserved-requires g c =
    let room : length c.args.self.now.lists < c.args.self.now.most_lists = c.requires.room_for_list in
    omega (arith, room, ap (λ (s : Shelf _). length s.lists) c.self.view_is, ap (λ (s : Shelf _). s.most_lists) c.self.view_is, length-lists_in c.self.inside.ends.items c.self.inside.elements.items, c.self.inside.ends.ok.0)

pub unwrap-requires : goal.unwrap-requires
unwrap-requires g c =
    let room : elements_of c.args.self.now.lists + length c.args.list.now ≤ c.args.self.now.most_elements = c.requires.room_for_elements in
    c.extend_from_slice.ensures.succeeds (omega (arith, room, ap (λ (s : Shelf _). elements_of s.lists) c.self.view_is, ap (λ (s : Shelf _). s.most_elements) c.self.view_is, elements_of-lists_in c.self.inside.ends.items c.self.inside.elements.items c.self.invariant, c.self.inside.elements.ok.0))

module _ (g : Over) (c : goal.After-push_reserved g) where
  elements : c.extend_from_slice.new.self.items ≡ c.self.inside.elements.items ++ c.args.list.now
  elements = rw c.unwrap.ensures at c.extend_from_slice.ensures.items

  end : c.len-end.result ≡ length c.self.inside.elements.items + length c.args.list.now
  end =
      let more : vec_len c.extend_from_slice.new.self ≡ vec_len c.self.inside.elements + length c.args.list.now = rw c.unwrap.ensures at c.extend_from_slice.ensures.len in
      omega (arith, c.len-end.ensures, more, c.self.inside.elements.ok.0)

pub invariant_of-self : goal.invariant_of-self
invariant_of-self g c =
    rw (c.push_reserved.ensures.items, elements g c)
    (cut-more c.self.inside.ends.items c.self.inside.elements.items c.args.list.now c.len-end.result (end g c) c.self.invariant)

pub returns-clause-lists : goal.returns-clause-lists
returns-clause-lists g c =
    rw (c.push_reserved.ensures.items, elements g c, ← c.self.view_is)
    (lists_in-push c.self.inside.ends.items c.self.inside.elements.items c.args.list.now c.len-end.result (end g c) c.self.invariant)
