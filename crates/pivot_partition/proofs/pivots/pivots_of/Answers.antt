use Rattle.std.proofs.Common.{eqb}
use Rattle.std.proofs.lemmas.List.Filters.{dedup_is}
use Rattle.pivot_partition.proofs.MergeLemmas.{sorted-once}
use Rattle.pivot_partition.proofs.pivots.pivots_of.Goals as goal

pub returns : goal.returns
returns c =
    let once = sorted-once c.fill_alone.new.found.items c.sort_unstable.new.self.items c.dedup.new.self.items c.sort_unstable.ensures.permutation c.sort_unstable.ensures.sorted
    (dedup_is eqb c.sort_unstable.new.self.items c.dedup.new.self.items c.dedup.ensures.filtered) in
    let exact = c.in_ok-fill_alone.ensures.exact in
    record {
      rising = once.0;
      exact = λ rank. ((λ held. (exact rank).0 ((once.1 rank).0 held)), (λ is. (once.1 rank).1 ((exact rank).1 is)));
    }
