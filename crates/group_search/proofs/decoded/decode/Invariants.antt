use Rattle.std.proofs.Common.{length}
use Rattle.group_search.proofs.DecodeLemmas.{IsReading}
use Rattle.group_search.proofs.decoded.decode.Given as goal

abbrev pub invariant-states : goal.invariant-states
invariant-states l = IsReading l.base l.code l.fn.heads.items l.fn.edges.items l.left l.heads.items l.edges.items

abbrev pub decreases-states : goal.decreases-states
decreases-states l = length l.left
