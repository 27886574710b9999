use Rattle.std.proofs.Common.{◌≡◌, ◌+◌, ◌-◌, ℕ, length}
use Rattle.candidate_graph.specs.Kept.{span_at}
use Rattle.candidate_graph.proofs.span.set_span.Given as goal

-- no span is another
abbrev pub invariant-spans : goal.invariant-spans
invariant-spans l = (other : ℕ) → span_at l.spans.items other ≡ span_at l.initial.spans.items other

abbrev pub decreases-spans : goal.decreases-spans
decreases-spans l = l.at + 1 - length l.spans.items
