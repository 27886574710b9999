use Rattle.std.proofs.Common.{◌≡◌, take}
use Rattle.automaton_model.specs.Automata.{code_of}
use Rattle.automaton_model.proofs.NumberLemmas.{new_states}
use Rattle.automaton_model.proofs.coding.code_from.Given as goal

abbrev pub invariant-states : goal.invariant-states
invariant-states l = l.code.items ≡ code_of (new_states l.registry l.number-items (take l.number-index l.number-items))
