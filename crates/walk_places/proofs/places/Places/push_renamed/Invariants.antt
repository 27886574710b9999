use Rattle.std.proofs.Common.{◌≡◌, ◌++◌, map, take}
use Rattle.walk_places.specs.Names.{renamed}
use Rattle.walk_places.proofs.places.Places.push_renamed.Given as goal

abbrev pub invariant-loop-place : goal.invariant-loop-place
invariant-loop-place l = l.self ≡ l.fn.self ++ map (renamed l.names) (take l.place l.more)
