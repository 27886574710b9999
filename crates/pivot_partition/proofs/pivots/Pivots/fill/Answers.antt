use Rattle.std.proofs.Common.{◌≡◌, ◌∙◌, ◌<◌, ◌≤◌, ℕ, ◌↔◌, IsTrue, Result, Ok, Err, OnOk, false, ◌++◌, length, take, drop, refl, sym, ap, subst, arith}
use Rattle.std.specs.List.{Contains}
use Rattle.std.proofs.lemmas.Bool.{iff_false}
use Rattle.mine_model.proofs.ListLemmas.{written_back}
use Rattle.mining_job.specs.Problems.{Problem, items_of}
use Rattle.sequence_grids.specs.Grids.{GridList, items_at, rest_at, Completes}
use Rattle.pivot_partition.specs.Pivots.{IsPivotOf}
use Rattle.mine_model.specs.Database.{sequence_at}
use Rattle.pivot_partition.specs.Kept.{AreKept}
use Rattle.pivot_partition.specs.Marks.{AreMarked}
use Rattle.pivot_partition.specs.Tops.{bound_by}
use Rattle.pivot_partition.proofs.KeptLemmas.{kept-pushed, kept-cleared, found-pivots, no-pivots}
use Rattle.pivot_partition.proofs.pivots.Pivots.fill.Goals as goal

pub push-requires : goal.push-requires
push-requires c =
    subst (λ (g : GridList). c.args.sequence < length g.problem.sequences) (sym c.self.invariant.grids_are) (subst (λ (p : Problem). c.args.sequence < length p.sequences) (sym c.self.view_is) c.requires)

pub find_in-found_all-requires-clause-problem : goal.find_in-found_all-requires-clause-problem
find_in-found_all-requires-clause-problem c =
    ap (λ (g : GridList). g.problem) (kept-pushed c.self.inside.job.now c.self.inside.grids c.push.new.self c.self.inside.front.items c.self.inside.entered.items c.self.inside.marks.items c.args.sequence c.self.invariant c.in_ok-push.ensures.ok)

pub find_in-found_all-requires-clause-bound : goal.find_in-found_all-requires-clause-bound
find_in-found_all-requires-clause-bound c =
    ap (λ (g : GridList). g.bound.top) (kept-pushed c.self.inside.job.now c.self.inside.grids c.push.new.self c.self.inside.front.items c.self.inside.entered.items c.self.inside.marks.items c.args.sequence c.self.invariant c.in_ok-push.ensures.ok)

pub find_in-found_all-requires-clause-few : goal.find_in-found_all-requires-clause-few
find_in-found_all-requires-clause-few c = c.self.invariant.few

pub find_in-found_all-requires-clause-empty : goal.find_in-found_all-requires-clause-empty
find_in-found_all-requires-clause-empty c = c.clear.ensures.items

on_ok : {T E : Type 0} (r : Result T E) (P Q : Type 0) → (P → Q) → OnOk r P → OnOk r Q
on_ok (Ok x) P Q then p = then p
on_ok (Err e) P Q then p = tt

on_ok_any : {T E : Type 0} (r : Result T E) (Q : Type 0) → Q → OnOk r Q
on_ok_any (Ok x) Q q = q
on_ok_any (Err e) Q q = tt

pub returns-clause-once : goal.returns-clause-once
returns-clause-once c = on_ok_any c.find_in-found_all.result _ c.find_in-found_all.ensures.marked.once

pub returns-clause-exact : goal.returns-clause-exact
returns-clause-exact c =
    let at = kept-pushed c.self.inside.job.now c.self.inside.grids c.push.new.self c.self.inside.front.items c.self.inside.entered.items c.self.inside.marks.items c.args.sequence c.self.invariant c.in_ok-push.ensures.ok in
    on_ok c.find_in-found_all.result _ _
    (λ (exact : (rank : ℕ) → Contains c.find_in-found_all.new.found.items rank ↔ ((1 ≤ rank) × (rank ≤ length c.self.inside.job.now.ranking.order)
    × Completes c.self.inside.job.now (bound_by rank) (items_at c.push.new.self 0) 0 false)).
    subst (λ (p : Problem). (rank : ℕ) → Contains c.find_in-found_all.new.found.items rank ↔ IsPivotOf p (items_of p c.args.sequence) rank) c.self.view_is
    (found-pivots c.self.inside.job.now c.db.ensures.whole c.args.sequence c.find_in-found_all.new.found.items
    (subst (λ (g : GridList). (rank : ℕ) → Contains c.find_in-found_all.new.found.items rank ↔ ((1 ≤ rank) × (rank ≤ length c.self.inside.job.now.ranking.order)
    × Completes c.self.inside.job.now (bound_by rank) (items_at g 0) 0 false)) at exact)))
    c.find_in-found_all.ensures.found

pub returns-then-not-completes-clause-exact : goal.returns-then-not-completes-clause-exact
returns-then-not-completes-clause-exact c =
    let at = kept-pushed c.self.inside.job.now c.self.inside.grids c.push.new.self c.self.inside.front.items c.self.inside.entered.items c.self.inside.marks.items c.args.sequence c.self.invariant c.in_ok-push.ensures.ok in
    let says = subst (λ (g : GridList). IsTrue c.completes.result ↔ Completes g.problem g.bound (rest_at g 0 0) 0 false) at c.completes.ensures in
    subst (λ (p : Problem). (rank : ℕ) → Contains c.clear.new.self.items rank ↔ IsPivotOf p (items_of p c.args.sequence) rank) c.self.view_is
    (no-pivots c.self.inside.job.now c.db.ensures.whole c.args.sequence c.clear.new.self.items c.clear.ensures.items (λ completes. iff_false says c.if-not-completes.true completes))

pub invariant_of-self-then-not-completes : goal.invariant_of-self-then-not-completes
invariant_of-self-then-not-completes c =
    let at = kept-pushed c.self.inside.job.now c.self.inside.grids c.push.new.self c.self.inside.front.items c.self.inside.entered.items c.self.inside.marks.items c.args.sequence c.self.invariant c.in_ok-push.ensures.ok in
    kept-cleared c.self.inside.job.now c.push.new.self c.clear-then-not-completes.new.self c.self.inside.front.items c.self.inside.entered.items c.self.inside.front.items c.self.inside.entered.items
    c.self.inside.marks.items c.self.inside.marks.items c.args.sequence at c.clear-then-not-completes.ensures refl refl refl c.self.invariant.unmarked c.self.inside.grids c.self.invariant

pub sequence-requires : goal.sequence-requires
sequence-requires c = subst (λ l. c.args.sequence < length l) (sym c.db.ensures.sequences) (subst (λ (p : Problem). c.args.sequence < length p.sequences) (sym c.self.view_is) c.requires)

pub overflow_cast-count : goal.overflow_cast-count
overflow_cast-count c = omega (arith, c.sequence.ensures.most)

pub invariant_of-self : goal.invariant_of-self
invariant_of-self c =
    subst (λ (g : GridList). AreKept c.self.inside.job.now g c.self.inside.front.items c.self.inside.entered.items c.self.inside.marks.items) (sym c.in_err-push.ensures.err) c.self.invariant

pub returns-in_err-push-clause-same : goal.returns-in_err-push-clause-same
returns-in_err-push-clause-same c = c.self.view_is

pub returns-then-not-completes-clause-same : goal.returns-then-not-completes-clause-same
returns-then-not-completes-clause-same c = c.self.view_is

pub returns-clause-same : goal.returns-clause-same
returns-clause-same c = c.self.view_is

pub completes-requires-clause-grid : goal.completes-requires-clause-grid
completes-requires-clause-grid c =
    let at = kept-pushed c.self.inside.job.now c.self.inside.grids c.push.new.self c.self.inside.front.items c.self.inside.entered.items c.self.inside.marks.items c.args.sequence c.self.invariant c.in_ok-push.ensures.ok in
    subst (λ (g : GridList). 0 < length g.sequences) (sym at) (omega arith)

pub find_in-found_all-requires-clause-grid : goal.find_in-found_all-requires-clause-grid
find_in-found_all-requires-clause-grid c =
    let at = kept-pushed c.self.inside.job.now c.self.inside.grids c.push.new.self c.self.inside.front.items c.self.inside.entered.items c.self.inside.marks.items c.args.sequence c.self.invariant c.in_ok-push.ensures.ok in
    subst (λ (g : GridList). 0 < length g.sequences) (sym at) (omega arith)

pub find_in-found_all-requires-clause-count : goal.find_in-found_all-requires-clause-count
find_in-found_all-requires-clause-count c =
    let at = kept-pushed c.self.inside.job.now c.self.inside.grids c.push.new.self c.self.inside.front.items c.self.inside.entered.items c.self.inside.marks.items c.args.sequence c.self.invariant c.in_ok-push.ensures.ok in
    ap length (c.sequence.ensures.items ∙ ap (λ l. (sequence_at l c.args.sequence).items) c.db.ensures.sequences) ∙ ap (λ (g : GridList). length (items_at g 0)) (sym at)

pub find_in-found_all-requires-clause-front : goal.find_in-found_all-requires-clause-front
find_in-found_all-requires-clause-front c = ap length c.as_mut_slice.ensures.value ∙ c.self.invariant.front_long

pub find_in-found_all-requires-clause-entered : goal.find_in-found_all-requires-clause-entered
find_in-found_all-requires-clause-entered c = ap length c.as_mut_slice-2.ensures.value ∙ c.self.invariant.entered_long

pub find_in-found_all-requires-clause-marks : goal.find_in-found_all-requires-clause-marks
find_in-found_all-requires-clause-marks c = ap length c.as_mut_slice-3.ensures.value ∙ c.self.invariant.marks_long

pub find_in-found_all-requires-clause-marked : goal.find_in-found_all-requires-clause-marked
find_in-found_all-requires-clause-marked c = rw (c.as_mut_slice-3.ensures.value, c.clear.ensures.items) c.self.invariant.unmarked

pub returns-then-not-completes-clause-once : goal.returns-then-not-completes-clause-once
returns-then-not-completes-clause-once c = rw c.clear.ensures.items (λ i j d less inside. absurd (omega (arith, inside)))

pub unmark-requires : goal.unmark-requires
unmark-requires c =
    let back = written_back c.find_in-found_all.new.marks c.self.inside.marks.items c.self.inside.marks.len
    (omega (arith, c.self.inside.marks.ok.0, c.find_in-found_all.ensures.marks_long, ap length c.as_mut_slice-3.ensures.value)) in
    rw (c.as_mut_slice-4.ensures.value, c.as_slice.ensures.value) (subst (λ m. AreMarked m c.find_in-found_all.new.found.items) (sym back) c.find_in-found_all.ensures.marked)

pub invariant_of-self-2 : goal.invariant_of-self-2
invariant_of-self-2 c =
    let at = kept-pushed c.self.inside.job.now c.self.inside.grids c.push.new.self c.self.inside.front.items c.self.inside.entered.items c.self.inside.marks.items c.args.sequence c.self.invariant c.in_ok-push.ensures.ok in
    let front = written_back c.find_in-found_all.new.front c.self.inside.front.items c.self.inside.front.len
    (omega (arith, c.self.inside.front.ok.0, c.find_in-found_all.ensures.front_long, ap length c.as_mut_slice.ensures.value)) in
    let entered = written_back c.find_in-found_all.new.entered c.self.inside.entered.items c.self.inside.entered.len
    (omega (arith, c.self.inside.entered.ok.0, c.find_in-found_all.ensures.entered_long, ap length c.as_mut_slice-2.ensures.value)) in
    let back = written_back c.find_in-found_all.new.marks c.self.inside.marks.items c.self.inside.marks.len
    (omega (arith, c.self.inside.marks.ok.0, c.find_in-found_all.ensures.marks_long, ap length c.as_mut_slice-3.ensures.value)) in
    let far : length c.unmark.new.marks ≡ length c.self.inside.marks.items =
    c.unmark.ensures.long ∙ ap length (c.as_mut_slice-4.ensures.value ∙ back) ∙ c.find_in-found_all.ensures.marks_long ∙ ap length c.as_mut_slice-3.ensures.value in
    let marks = written_back c.unmark.new.marks (take c.self.inside.marks.len (c.find_in-found_all.new.marks ++ drop (length c.find_in-found_all.new.marks) c.self.inside.marks.items)) c.self.inside.marks.len (omega (arith, c.self.inside.marks.ok.0, far)) in
    rw (front, entered, marks)
    (kept-cleared c.self.inside.job.now c.push.new.self c.clear-2.new.self c.self.inside.front.items c.self.inside.entered.items c.find_in-found_all.new.front c.find_in-found_all.new.entered
    c.self.inside.marks.items c.unmark.new.marks c.args.sequence at c.clear-2.ensures (c.find_in-found_all.ensures.front_long ∙ ap length c.as_mut_slice.ensures.value)
    (c.find_in-found_all.ensures.entered_long ∙ ap length c.as_mut_slice-2.ensures.value) far c.unmark.ensures.none c.self.inside.grids c.self.invariant)
