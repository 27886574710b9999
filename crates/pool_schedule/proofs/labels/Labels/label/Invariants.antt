use Rattle.std.proofs.Common.{◌≡◌, take, []}
use Rattle.pool_schedule.specs.FrontCoding.{last_by, fresh_in}
use Rattle.pool_schedule.proofs.labels.Labels.label.Given as goal

abbrev pub invariant-loop-code : goal.invariant-loop-code
invariant-loop-code l = record {
  label : l.label.items ≡ last_by [] (take l.code-index l.self-inside.codes.items) l.self-inside.numbers.items;
  start : l.start ≡ fresh_in (take l.code-index l.self-inside.codes.items);
}
