use Rattle.std.proofs.Common.{take}
use Rattle.group_search.proofs.DecodeLemmas.{AreRead}
use Rattle.group_search.proofs.decoded.decode_all.Given as goal

abbrev pub invariant-groups : goal.invariant-groups
invariant-groups l = AreRead (take l.group-index l.groups) l.heads.items l.edges.items l.loads.items
