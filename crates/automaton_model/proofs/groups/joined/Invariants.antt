use Rattle.std.proofs.Common.{◌≡◌, ◌++◌, length}
use Rattle.std.specs.Vec.Iter.{into_iter_items, into_iter_len}
use Rattle.automaton_model.specs.Merges.{AreMerged}
use Rattle.automaton_model.proofs.groups.joined.Given as goal

abbrev pub invariant-parts : goal.invariant-parts
invariant-parts l = record {
  seen : l.yielded ++ into_iter_items l.part-iterator ≡ l.fn.parts.items;
  count : into_iter_len l.part-iterator ≡ length (into_iter_items l.part-iterator);
  groups : AreMerged l.yielded l.groups.items;
}
