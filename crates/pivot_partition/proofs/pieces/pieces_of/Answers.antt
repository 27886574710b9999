use Rattle.std.proofs.Common.{◌≡◌, ℕ, ◌-◌, ◌<◌, ◌^◌, Result, IfOk, ap, ◌∙◌, subst, arith}
use Rattle.std.specs.List.{AllZip, range_with_len}
use Rattle.std.specs.Global.{Vec}
use Rattle.rayon.specs.Numbers.{nat_range}
use Rattle.rayon.proofs.ToStd.{nat_range-All}
use Rattle.mine_model.specs.declared.memory.NoMemory.{NoMemory}
use Rattle.pivot_partition.specs.declared.pairs.Pair.{Pair}
use Rattle.pivot_partition.proofs.PairLemmas.{Piece, pieces-collected}
use Rattle.pivot_partition.proofs.pieces.pieces_of.Goals as goal

pub collect-requires-clause-ready : goal.collect-requires-clause-ready
collect-requires-clause-ready g c κs within =
    let ends = c.into_par_iter.ensures in
    let inside = nat_range-All (λ i. (i < 64) × (c.args.size < 2 ^ 24)) 0 c.args.pieces (λ i low high. (omega arith, c.requires.short)) in
    rw (c.map.ensures.base, c.map.ensures.f, c.with_min_len.ensures.base, ends.0, ends.1) (λ k d lt. (inside k d lt, λ y p. tt))

pub returns : goal.returns
returns g c =
    let ends = c.into_par_iter.ensures in
    let whole : c.args.pieces - 0 ≡ c.args.pieces = omega arith in
    let given = c.in_ok-collect.ensures.1 in
    let places : given.0 ≡ range_with_len 0 c.args.pieces =
    given.1 ∙ ap (λ it. nat_range it.base.start it.base.end) c.map.ensures.base ∙ ap (λ it. nat_range it.start it.end) c.with_min_len.ensures.base
    ∙ (λ i. nat_range (ends.0 i) (ends.1 i)) ∙ ap (range_with_len 0) whole in
    let zip = rw c.map.ensures.f at given.2 in
    let Answered : ℕ → Result (Vec Pair) NoMemory → Type 0 = λ piece answer. IfOk answer (Piece c.args.job.now c.args.size piece) in
    pieces-collected c.args.job.now c.args.size c.args.pieces c.in_ok-collect.field-0 c.in_ok-collect.ensures.0
    (subst (λ pieces. AllZip Answered pieces c.in_ok-collect.ensures.0) places zip) c.in_ok-collect.ensures.2
