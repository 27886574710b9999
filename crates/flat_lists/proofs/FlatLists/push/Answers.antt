use Rattle.std.proofs.Common.{◌≡◌, ◌+◌, [], ◌∷◌, ◌++◌, length, arith}
use Rattle.flat_lists.proofs.CutLemmas.{cut-more, lists_in-push}
use Rattle.flat_lists.proofs.FlatLists.push.Given.{Over}
use Rattle.flat_lists.proofs.FlatLists.push.Goals as goal

module _ (g : Over) (c : goal.After-push_reserved g) where
  ends : c.push_reserved.new.self.items ≡ c.self.inside.ends.items ++ c.len-end.result ∷ []
  ends = rw (c.in_ok-reserve.ensures.items) at c.push_reserved.ensures.items

  end : c.len-end.result ≡ length c.self.inside.elements.items + length c.args.list.now
  end = let len = c.len-end.ensures in let more = c.in_ok-extend_from_slice.ensures.len in let ok = c.self.inside.elements.ok.0 in omega (arith, len, more, ok)

pub invariant_of-self-2 : goal.invariant_of-self-2
invariant_of-self-2 g c =
    rw (ends g c, c.in_ok-extend_from_slice.ensures.items)
    (cut-more c.self.inside.ends.items c.self.inside.elements.items c.args.list.now c.len-end.result (end g c) c.self.invariant)

pub returns-clause-ok : goal.returns-clause-ok
returns-clause-ok g c =
    rw (ends g c, c.in_ok-extend_from_slice.ensures.items, ← c.self.view_is)
    (lists_in-push c.self.inside.ends.items c.self.inside.elements.items c.args.list.now c.len-end.result (end g c) c.self.invariant)
