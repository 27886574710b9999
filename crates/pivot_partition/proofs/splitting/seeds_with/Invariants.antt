use Rattle.std.proofs.Common.{◌≡◌, ◌++◌, length}
use Rattle.std.specs.Vec.Iter.{into_iter_items, into_iter_len}
use Rattle.pivot_partition.proofs.SeedLemmas.{AreSeedsBelow}
use Rattle.pivot_partition.proofs.splitting.seeds_with.Given as goal

abbrev pub invariant-lists : goal.invariant-lists
invariant-lists l = record {
  seen : l.yielded ++ into_iter_items l.sequences-iterator ≡ l.fn.lists.items;
  count : into_iter_len l.sequences-iterator ≡ length (into_iter_items l.sequences-iterator);
  place : l.place ≡ length l.yielded;
  seeds : AreSeedsBelow l.job l.seeds.items l.place;
}
