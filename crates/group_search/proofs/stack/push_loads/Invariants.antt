use Rattle.std.proofs.Common.{◌≡◌, List, [], ◌∷◌, ◌++◌, ◌+◌, take}
use Rattle.group_search.specs.declared.loads.LoadedState.{LoadedState}
use Rattle.group_search.specs.Steps.{AreAddedUp}
use Rattle.group_search.proofs.stack.push_loads.Given as goal

abbrev pub invariant-steps : goal.invariant-steps
invariant-steps l =
    (more : List LoadedState) × (l.loads.items ≡ l.fn.loads.items ++ more) × AreAddedUp (take (l.step-index + 1) l.run) (more ++ l.last ∷ [])
