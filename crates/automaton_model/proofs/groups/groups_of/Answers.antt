use Rattle.std.proofs.Common.{rules}
use Rattle.std.specs.List.Sorted.{IsSortedBy}
use Rattle.std.specs.Ordering.{nat_cmp, is_lt}
use Rattle.std.specs.Cmp.Lexicographic.{slice_cmp}
use Rattle.std.proofs.lemmas.Cmp.{nat_list_cmp_total}
use Rattle.std.proofs.lemmas.Fn.{always_returns_same}
use Rattle.std.proofs.lemmas.List.MinMax.{ranks_by}
use Rattle.automaton_model.specs.declared.groups.Group.{Group}
use Rattle.std.proofs.lemmas.Result.{IfOk-weaker}
use Rattle.automaton_model.specs.Merges.{AreMerged}
use Rattle.automaton_model.proofs.MergeLemmas.{merged-permuted, sorted-codes}
use Rattle.automaton_model.proofs.groups.groups_of.Goals as goal

pub joined-requires : goal.joined-requires
joined-requires c =
    let sorted : IsSortedBy (λ (first : Group) second. is_lt (slice_cmp nat_cmp first.automaton second.automaton)) c.sort_unstable_by.new.self.items =
    c.sort_unstable_by.ensures.sorted _ (ranks_by nat_list_cmp_total (λ (group : Group). group.automaton)) (always_returns_same _ _ _ (λ a r f' k. search rules)) in
    sorted-codes c.sort_unstable_by.new.self.items sorted

pub returns : goal.returns
returns c =
    IfOk-weaker c.joined.result (λ groups. AreMerged c.sort_unstable_by.new.self.items groups.items) (λ groups. AreMerged c.args.parts.items groups.items)
    (λ groups are. merged-permuted c.args.parts.items c.sort_unstable_by.new.self.items groups.items c.sort_unstable_by.ensures.permutation are) c.joined.ensures
