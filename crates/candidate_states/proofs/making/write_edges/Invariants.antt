use Rattle.std.proofs.Common.{take}
use Rattle.std.specs.List.{AllZip}
use Rattle.candidate_states.specs.Kept.{IsMoved}
use Rattle.candidate_states.proofs.making.write_edges.Given as goal

-- the edges of the steps so far
abbrev pub invariant-loop-step : goal.invariant-loop-step
invariant-loop-step l = AllZip (IsMoved l.made) (take l.step-index l.steps) l.edges.items
