use Rattle.std.proofs.Common.{◌≡◌, [], ◌∷◌, ◌++◌, map, take}
use Rattle.structure_tests.proofs.schedules.grown.Given as goal

abbrev pub invariant-loop-rank : goal.invariant-loop-rank
invariant-loop-rank l = map (λ numbers. numbers.items) l.kids.items ≡ map (λ rank. l.node.items ++ rank ∷ []) (take l.rank-index l.ranks)
