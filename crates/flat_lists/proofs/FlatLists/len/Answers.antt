use Rattle.std.proofs.Common.{length, ap, arith}
use Rattle.flat_lists.specs.Shelf.{Shelf}
use Rattle.flat_lists.proofs.CutLemmas.{length-lists_in}
use Rattle.flat_lists.proofs.FlatLists.len.Goals as goal

pub returns : goal.returns
returns g c =
    omega (arith, c.len.ensures, length-lists_in c.self.inside.ends.items c.self.inside.elements.items, ap (λ (s : Shelf _). length s.lists) c.self.view_is, c.self.inside.ends.ok.0)
