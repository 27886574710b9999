use Rattle.std.proofs.Common.{◌≡◌, ◌++◌, map, take}
use Rattle.place_walk.specs.Ways.{visit_of}
use Rattle.place_walk.proofs.stepping.push_visits.Given as goal

abbrev pub invariant-loop-action : goal.invariant-loop-action
invariant-loop-action l = l.visits.items ≡ l.initial.visits.items ++ map (visit_of l.place l.kind) (take l.action-index l.actions)
