use Rattle.std.proofs.Common.{rules}
use Rattle.std.specs.Ordering.{is_lt}
use Rattle.std.specs.List.Sorted.{IsSortedBy}
use Rattle.std.proofs.lemmas.Fn.{always_returns_same}
use Rattle.std.proofs.lemmas.List.MinMax.{ranks_by}
use Rattle.mine_model.specs.Names.{named_row}
use Rattle.pattern_writer.specs.Order.{row_cmp}
use Rattle.pattern_writer.proofs.OrderLemmas.{row_cmp_total, Rises-from_sort}
use Rattle.pattern_writer.proofs.ordering.order.Goals as goal

pub returns-clause-rises : goal.returns-clause-rises
returns-clause-rises c =
    let sorted : IsSortedBy (λ first second. is_lt (row_cmp (named_row c.args.names.now first) (named_row c.args.names.now second))) c.sort_unstable_by.new.self =
    c.sort_unstable_by.ensures.sorted _ (ranks_by row_cmp_total (named_row c.args.names.now)) (always_returns_same _ _ _ (λ a r f' k. search rules)) in
    Rises-from_sort c.args.names.now c.args.rows.now _ c.count-count.ensures.distinct c.requires.named c.requires.different c.sort_unstable_by.ensures.permutation sorted
