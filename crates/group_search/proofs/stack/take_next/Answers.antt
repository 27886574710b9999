use Rattle.std.proofs.Common.{◌++◌, ◌∷◌, [], ℕ, List, length, slice_range, refl, ap, ◌∙◌, arith}
use Rattle.group_search.specs.declared.loads.LoadedState.{LoadedState}
use Rattle.group_search.proofs.StackLemmas.{top-of, taken}
use Rattle.group_search.proofs.stack.take_next.Goals as goal

pub offset_bounds-deref-next : goal.offset_bounds-deref-next
offset_bounds-deref-next c =
    let entry = top-of c.args.stack.now c.pop.new.self.items c.in-Some.next c.requires c.in-Some.ensures.items in
    let rises = entry.rises in
    let held = entry.held in
    let loads = c.args.stack.now.loads in
    omega (arith, rises, held, loads.ok.0, loads.ok.1, loads.small)

pub slice_bounds-extend_from_slice-count : goal.slice_bounds-extend_from_slice-count
slice_bounds-extend_from_slice-count c = (top-of c.args.stack.now c.pop.new.self.items c.in-Some.next c.requires c.in-Some.ensures.items).rises

pub slice_bounds-extend_from_slice-start : goal.slice_bounds-extend_from_slice-start
slice_bounds-extend_from_slice-start c = (top-of c.args.stack.now c.pop.new.self.items c.in-Some.next c.requires c.in-Some.ensures.items).rises

pub slice_bounds-extend_from_slice-end : goal.slice_bounds-extend_from_slice-end
slice_bounds-extend_from_slice-end c =
    let held = (top-of c.args.stack.now c.pop.new.self.items c.in-Some.next c.requires c.in-Some.ensures.items).held in
    let whole = ap (λ (l : List LoadedState). length l) c.deref.ensures.value in
    omega (arith, held, whole)

pub returns-clause-taken : goal.returns-clause-taken
returns-clause-taken c = λ more.
    taken c.args.stack.now _ c.pop.new.self.items c.in-Some.next _ c.requires c.in-Some.ensures.items refl
    (c.in_ok-push.ensures.items ∙ ap (λ (l : List ℕ). l ++ c.in-Some.next.rank ∷ []) c.truncate-2.ensures.items)
    c.truncate.ensures.items
    (c.in_ok-extend_from_slice.ensures.items ∙ ap (λ (l : List LoadedState). l ++ slice_range c.deref.result.now c.in-Some.next.from c.in-Some.next.end) c.clear.ensures.items
    ∙ ap (λ (l : List LoadedState). slice_range l c.in-Some.next.from c.in-Some.next.end) c.deref.ensures.value)
