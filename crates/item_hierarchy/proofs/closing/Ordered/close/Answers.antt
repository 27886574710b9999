use Rattle.std.proofs.Common.{sym, subst, IfOk, IfErr}
use Rattle.std.specs.List.Sorted.{IsPermutation}
use Rattle.std.proofs.lemmas.Result.{IfOk-weaker, IfErr-weaker}
use Rattle.item_hierarchy.specs.Edges.{OrderedRows, Closes, IsCloseRefusal}
use Rattle.item_hierarchy.proofs.ClosingLemmas.{closes_moved, refusal_moved}
use Rattle.item_hierarchy.proofs.closing.Ordered.close.Goals as goal

pub returns-clause-closed : goal.returns-clause-closed
returns-clause-closed c rows same =
    let own : IsPermutation rows c.self.inside.sorted.rows.items = subst (λ (o : OrderedRows). IsPermutation rows o.rows) (sym c.self.view_is) same in
    let moved : IsPermutation rows c.as_slice-2.result.now = subst (IsPermutation rows) (sym c.as_slice-2.ensures.value) own in
    subst (λ (o : OrderedRows). IfOk c.close_in_order.result (Closes o.items rows)) c.self.view_is
    (IfOk-weaker c.close_in_order.result _ _ (λ h closes. closes_moved rows c.as_slice-2.result.now moved c.self.inside.items h closes) c.close_in_order.ensures.closed)

pub returns-clause-refusal : goal.returns-clause-refusal
returns-clause-refusal c rows same =
    let own : IsPermutation rows c.self.inside.sorted.rows.items = subst (λ (o : OrderedRows). IsPermutation rows o.rows) (sym c.self.view_is) same in
    let moved : IsPermutation rows c.as_slice-2.result.now = subst (IsPermutation rows) (sym c.as_slice-2.ensures.value) own in
    subst (λ (o : OrderedRows). IfErr c.close_in_order.result (IsCloseRefusal o.items rows)) c.self.view_is
    (IfErr-weaker c.close_in_order.result _ _ (λ e refusal. refusal_moved rows c.as_slice-2.result.now moved c.self.inside.items e refusal) c.close_in_order.ensures.refusal)
