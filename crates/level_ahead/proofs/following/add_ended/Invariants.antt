use Rattle.std.proofs.Common.{ℕ, None, map, take}
use Rattle.place_walk.specs.Ways.{visit_of}
use Rattle.level_ahead.specs.Following.{HasEnded}
use Rattle.level_ahead.proofs.following.add_ended.Given as goal

abbrev pub invariant-loop-action : goal.invariant-loop-action
invariant-loop-action g l = record {
  ended : (place : ℕ) → HasEnded (g.T.Outputs.ranks l.table) None (map (visit_of place l.kind) (take l.action-index l.actions)) l.fn.ranks l.ranks;
}
