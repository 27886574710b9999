use Rattle.std.proofs.Common.{ap, arith}
use Rattle.flat_lists.specs.Shelf.{Shelf, elements_of}
use Rattle.flat_lists.proofs.ShelfLemmas.{elements_of-lists_in}
use Rattle.flat_lists.proofs.FlatLists.elements.Goals as goal

pub returns : goal.returns
returns g c =
    omega (arith, c.len.ensures, elements_of-lists_in c.self.inside.ends.items c.self.inside.elements.items c.self.invariant, ap (λ (s : Shelf _). elements_of s.lists) c.self.view_is, c.self.inside.elements.ok.0)
