use Rattle.std.proofs.Common.{◌≡◌, ◌∷◌, map, string_bytes, take}
use Rattle.command_line.proofs.words.merged_names.Given as goal

abbrev pub invariant-loop-name : goal.invariant-loop-name
invariant-loop-name l = map string_bytes l.names.items ≡ string_bytes l.fn.first ∷ map (λ name. name.now) (take l.name-index l.others)
