use Rattle.std.proofs.Common.{◌≡◌, ◌++◌, length}
use Rattle.group_search.specs.Decoded.{edges_in}
use Rattle.group_search.proofs.decoded.push_edges.Given as goal

abbrev pub invariant-pairs : goal.invariant-pairs
invariant-pairs l = l.edges.items ++ edges_in l.base l.left ≡ l.fn.edges.items ++ edges_in l.base l.pairs

abbrev pub decreases-pairs : goal.decreases-pairs
decreases-pairs l = length l.left
