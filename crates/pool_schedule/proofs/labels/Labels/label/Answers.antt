use Rattle.std.proofs.Common.{◌≡◌, ◌≤◌, ◌<◌, ◌+◌, ◌-◌, ◌++◌, [], ℕ, List, length, take, drop, get_or, Some, slice_get, sym, ap, ap₂, ◌∙◌, arith, rules}
use Rattle.std.proofs.lemmas.List.{length-take}
use Rattle.pool_schedule.specs.declared.labels.Code.{Code}
use Rattle.pool_schedule.specs.FrontCoding.{labels_by, last_by}
use Rattle.pool_schedule.proofs.CodingLemmas.{length-labels_by, fresh_in-none, last_by-none, fresh_in-more, fresh_in-within, last_by-more, label-at, code_at}
use Rattle.pool_schedule.proofs.labels.Labels.label.Goals as goal

inside : (number : ℕ) (labels : List (List ℕ)) (codes : List Code) (numbers : List ℕ) → number < length labels → labels_by [] codes numbers ≡ labels → number < length codes
inside number labels codes numbers within is = omega (arith, within, length-labels_by [] codes numbers, ap (λ (l : List (List ℕ)). length l) is)

abbrev none : Code
none = record { shared = 0; fresh = 0 }

pub overflow_add-code-items : goal.overflow_add-code-items
overflow_add-code-items c =
    let within = inside c.args.number c.args.self.now c.self.inside.codes.items c.self.inside.numbers.items c.requires c.self.view_is in
    search rules

pub slice_bounds-code-items-end : goal.slice_bounds-code-items-end
slice_bounds-code-items-end c =
    let within = inside c.args.number c.args.self.now c.self.inside.codes.items c.self.inside.numbers.items c.requires c.self.view_is in
    omega (arith, length-take (c.args.number + 1) c.deref.result.now, within, ap (λ (l : List Code). length l) c.deref.ensures.value)

pub loop-code-init : goal.loop-code-init
loop-code-init c = record {
  label = c.new-label.ensures.items ∙ sym (last_by-none [] c.self.inside.numbers.items);
  start = sym fresh_in-none;
}

pub overflow_add-end : goal.overflow_add-end
overflow_add-end c =
    let within = inside c.args.number c.args.self.now c.self.inside.codes.items c.self.inside.numbers.items c.requires c.self.view_is in
    let here = code_at c.self.inside.codes.items c.deref.result.now c.args.number c.loop-code.code-index none c.deref.ensures.value within c.loop-code-test.true in
    let end = fresh_in-within c.self.inside.codes.items c.self.inside.numbers.items c.self.inside.last.items c.self.invariant c.loop-code.code-index _ here.0 here.1 in
    let start = c.loop-code.invariant.start in
    let fits : c.loop-code.start + (get_or (take (c.args.number + 1) c.deref.result.now) c.loop-code.code-index none).fresh ≤ length c.self.inside.numbers.items = omega (arith, end, start) in
    search rules

pub offset_bounds-deref-start : goal.offset_bounds-deref-start
offset_bounds-deref-start c =
    let within = inside c.args.number c.args.self.now c.self.inside.codes.items c.self.inside.numbers.items c.requires c.self.view_is in
    let here = code_at c.self.inside.codes.items c.deref.result.now c.args.number c.loop-code.code-index none c.deref.ensures.value within c.loop-code-test.true in
    let end = fresh_in-within c.self.inside.codes.items c.self.inside.numbers.items c.self.inside.last.items c.self.invariant c.loop-code.code-index _ here.0 here.1 in
    let fits : c.loop-code.start ≤ length c.self.inside.numbers.items = omega (arith, end, c.loop-code.invariant.start) in
    search rules

pub slice_bounds-extend_from_slice-end : goal.slice_bounds-extend_from_slice-end
slice_bounds-extend_from_slice-end c =
    let within = inside c.args.number c.args.self.now c.self.inside.codes.items c.self.inside.numbers.items c.requires c.self.view_is in
    let here = code_at c.self.inside.codes.items c.deref.result.now c.args.number c.loop-code.code-index none c.deref.ensures.value within c.loop-code-test.true in
    let end = fresh_in-within c.self.inside.codes.items c.self.inside.numbers.items c.self.inside.last.items c.self.invariant c.loop-code.code-index _ here.0 here.1 in
    let fits : c.loop-code.start + (get_or (take (c.args.number + 1) c.deref.result.now) c.loop-code.code-index none).fresh ≤ length c.deref-in-loop-code.result.now =
    omega (arith, end, c.loop-code.invariant.start, ap (λ (l : List ℕ). length l) c.deref-in-loop-code.ensures.value) in
    search rules

pub loop-code-preserved : goal.loop-code-preserved
loop-code-preserved c =
    let within = inside c.args.number c.args.self.now c.self.inside.codes.items c.self.inside.numbers.items c.requires c.self.view_is in
    let here = code_at c.self.inside.codes.items c.deref.result.now c.args.number c.loop-code.code-index none c.deref.ensures.value within c.loop-code-test.true in
    let code : Code = get_or (take (c.args.number + 1) c.deref.result.now) c.loop-code.code-index none in
    let count : c.loop-code.start + code.fresh - c.loop-code.start ≡ code.fresh = omega arith in
    record {
      label = c.in_ok-extend_from_slice.ensures.items
          ∙ ap₂ (λ front back. front ++ back) (c.truncate.ensures.items ∙ ap (take code.shared) c.loop-code.invariant.label)
          (ap₂ (λ n numbers. take n (drop c.loop-code.start numbers)) count c.deref-in-loop-code.ensures.value
          ∙ ap (λ n. take code.fresh (drop n c.self.inside.numbers.items)) c.loop-code.invariant.start)
          ∙ sym (last_by-more [] c.self.inside.codes.items c.self.inside.numbers.items c.loop-code.code-index code here.0 here.1);
      start = ap (λ n. n + code.fresh) c.loop-code.invariant.start ∙ sym (fresh_in-more c.self.inside.codes.items c.loop-code.code-index code here.0 here.1);
    }

pub returns : goal.returns
returns c =
    let within = inside c.args.number c.args.self.now c.self.inside.codes.items c.self.inside.numbers.items c.requires c.self.view_is in
    let end : c.loop-code.code-index ≡ c.args.number + 1 =
    omega (arith, c.loop-code-test.false, c.loop-code.auto.code-index-end, within, length-take (c.args.number + 1) c.deref.result.now, ap (λ (l : List Code). length l) c.deref.ensures.value) in
    ap (λ l. slice_get l c.args.number) (sym c.self.view_is)
    ∙ label-at [] c.self.inside.codes.items c.self.inside.numbers.items c.args.number within
    ∙ ap (λ l. Some l)
    (ap (λ n. last_by [] (take n c.self.inside.codes.items) c.self.inside.numbers.items) (sym end) ∙ sym c.loop-code.invariant.label ∙ sym c.new.ensures)
