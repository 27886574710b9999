use Rattle.std.proofs.Common.{◌≡◌, ◌+◌, ◌-◌, ◌≤◌, ◌++◌, map, take, length, vec_len, vec_capacity}
use Rattle.walk_places.specs.Records.{recoded}
use Rattle.walk_places.proofs.places.append_codes.Given as goal

abbrev pub invariant-loop-code : goal.invariant-loop-code
invariant-loop-code l = record {
  room : vec_len l.codes + (length l.more - l.code-index) ≤ vec_capacity l.codes;
  added : l.codes.items ≡ l.fn.codes.items ++ map (recoded l.names) (take l.code-index l.more);
}
