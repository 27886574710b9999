use Rattle.std.proofs.Common.{◌≡◌, ℕ, ◌-◌, ◌<◌, Result, IfOk, length, ap, ◌∙◌, subst, arith}
use Rattle.std.specs.List.{AllByRecursion, AllZip, range_with_len}
use Rattle.std.specs.Global.{Vec}
use Rattle.rayon.specs.Numbers.{nat_range}
use Rattle.rayon.proofs.ToStd.{nat_range-All}
use Rattle.mine_model.specs.declared.memory.NoMemory.{NoMemory}
use Rattle.flat_lists.specs.Cuts.{list_at, AreCut}
use Rattle.frequency_list.specs.Tallies.{IsTally}
use Rattle.frequency_list.proofs.PieceLemmas.{AreTallies-collected}
use Rattle.frequency_list.proofs.pieces.tallies.Goals as goal

pub collect-requires-clause-ready : goal.collect-requires-clause-ready
collect-requires-clause-ready g c κs within =
    let ends = c.into_par_iter.ensures in
    let inside = nat_range-All (λ i. (i < length c.args.ends.now) × AreCut c.args.ends.now (length c.args.db.now) × AllByRecursion (λ sequence. AllByRecursion (λ t. t.0 < c.args.hierarchy.now.items) sequence.items) c.args.db.now)
    0 (length c.args.ends.now) (λ i low high. (omega (arith, high), c.requires.cut, c.requires.items)) in
    rw (c.map.ensures.base, c.map.ensures.f, c.with_min_len.ensures.base, ends.0, ends.1) (λ k d lt. (inside k d lt, λ y p. tt))

pub returns : goal.returns
returns g c =
    let ends = c.into_par_iter.ensures in
    let whole : length c.args.ends.now - 0 ≡ length c.args.ends.now = omega arith in
    let chain = rw (c.map.ensures.base, c.map.ensures.f, c.with_min_len.ensures.base) at c.in_ok-collect.ensures.1 in
    let places : chain.0 ≡ range_with_len 0 (length c.args.ends.now) = chain.1 ∙ (λ i. nat_range (ends.0 i) (ends.1 i)) ∙ ap (range_with_len 0) whole in
    let Answered : ℕ → Result (Vec ℕ) NoMemory → Type 0 =
    λ piece answer. IfOk answer (λ sums. IsTally c.args.hierarchy.now (list_at c.args.ends.now c.args.db.now piece) sums.items) in
    AreTallies-collected c.args.hierarchy.now c.args.ends.now c.args.db.now c.in_ok-collect.field-0 c.in_ok-collect.ensures.0
    (subst (λ pieces. AllZip Answered pieces c.in_ok-collect.ensures.0) places chain.2) c.in_ok-collect.ensures.2
