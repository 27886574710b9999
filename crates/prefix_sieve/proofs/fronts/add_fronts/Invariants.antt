use Rattle.std.specs.List.{slice_get}
use Rattle.prefix_sieve.proofs.FrontLemmas.{AreAddedTo}
use Rattle.prefix_sieve.proofs.fronts.add_fronts.Given as goal

abbrev pub invariant-loop-edge : goal.invariant-loop-edge
invariant-loop-edge l = AreAddedTo (slice_get l.sieve l.before) l.front l.edges l.edge-index l.fn.next.items l.next.items
