use Rattle.std.proofs.Common.{◌≡◌, ◌<◌, ℕ, Some}
use Rattle.std.specs.List.{slice_get}
use Rattle.place_walk.specs.declared.visit.Visit.{Visit}
use Rattle.place_walk.specs.Codes.{Fits}
use Rattle.stand_sums.proofs.run.all_fit.Given as goal

abbrev pub invariant-loop-visit : goal.invariant-loop-visit
invariant-loop-visit l = record {
  fit : (k : ℕ) (visit : Visit) → k < l.visit-index → slice_get l.visits k ≡ Some visit → Fits visit.place visit.action.state;
}
