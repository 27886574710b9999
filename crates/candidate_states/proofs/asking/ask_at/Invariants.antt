use Rattle.std.proofs.Common.{◌≡◌, ℕ, ◌<◌, ◌⊎◌, IsTrue, Some, length}
use Rattle.std.specs.List.{slice_get}
use Rattle.candidate_graph.specs.declared.edge.Edge.{Edge}
use Rattle.candidate_states.specs.declared.stages.Stage.{Stage}
use Rattle.candidate_states.specs.Stages.{asked_in, stage_behind, IsTarget, KeepsAsked}
use Rattle.candidate_states.proofs.asking.ask_at.Given as goal

-- what follows by the edges so far is asked for
abbrev pub invariant-loop-step : goal.invariant-loop-step
invariant-loop-step l = record {
  long : length l.asked.items ≡ length l.graph.nodes;
  keeps : KeepsAsked l.initial.asked.items l.asked.items;
  others : (other : ℕ) (stage : Stage) → IsTrue (asked_in l.asked.items other stage) → IsTrue (asked_in l.initial.asked.items other stage) ⊎ IsTarget l.graph.nodes l.node other;
  done : (k : ℕ) (step : Edge) → k < l.step-index → slice_get l.steps k ≡ Some step → IsTrue (asked_in l.asked.items step.next (stage_behind l.pivot l.stage step));
}
