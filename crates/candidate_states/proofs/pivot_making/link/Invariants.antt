use Rattle.std.proofs.Common.{take}
use Rattle.candidate_states.specs.Stages.{AreLinked}
use Rattle.candidate_states.proofs.pivot_making.link.Given as goal

-- the edges of the steps so far
abbrev pub invariant-loop-step : goal.invariant-loop-step
invariant-loop-step l = AreLinked l.numbers l.pivot l.stage (take l.step-index l.steps) l.edges.items
