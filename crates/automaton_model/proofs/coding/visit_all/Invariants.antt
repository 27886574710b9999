use Rattle.std.proofs.Common.{◌+◌, ◌-◌, ◌*◌, length, reverse}
use Rattle.automaton_model.specs.Walks.{AreVisited}
use Rattle.automaton_model.proofs.coding.visit_all.Given as goal

abbrev pub invariant-states : goal.invariant-states
invariant-states l = AreVisited l.registry l.root l.visited.keys (reverse l.waiting.items)

-- the states that are not visited yet count more than all that can wait
abbrev pub decreases-states : goal.decreases-states
decreases-states l = (length l.registry - length l.visited.keys) * 18446744073709551616 + length l.waiting.items
