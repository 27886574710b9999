use Rattle.std.proofs.Common.{◌≡◌, ◌++◌, map, Bor}
use Rattle.automaton_model.specs.Automata.{Edge}
use Rattle.automaton_model.proofs.coding.push_targets.Given as goal

abbrev pub invariant-edges : goal.invariant-edges
invariant-edges l = l.waiting.items ≡ l.fn.waiting.items ++ map (λ (edge : Bor Edge). edge.now.to) l.yielded
