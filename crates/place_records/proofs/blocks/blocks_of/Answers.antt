use Rattle.std.proofs.Common.{ℕ, Result, IfOk, ap, subst, ◌∙◌}
use Rattle.rayon.proofs.ToStd.{slice-AllZip}
use Rattle.mine_model.specs.declared.memory.NoMemory.{NoMemory}
use Rattle.place_records.specs.declared.blocks.Span.{Span}
use Rattle.place_records.specs.declared.blocks.Piece.{Piece}
use Rattle.place_records.specs.Spans.{AreSpans, AreBlocks}
use Rattle.place_records.proofs.SpanLemmas.{IsOf, of_answers}
use Rattle.place_records.proofs.blocks.blocks_of.Goals as goal

pub returns : goal.returns
returns g c =
    let (xs, given, zip) = c.in_ok-collect.ensures.1 in
    let shown = given ∙ (ap (λ it. it.base.slice.now) c.map.ensures.base ∙ (ap (λ it. it.slice.now) c.with_min_len.ensures.base ∙ c.par_iter.ensures)) in
    subst (λ f. IfOk c.in_ok-collect.field-0 (λ blocks. (from to : ℕ) → AreSpans from c.args.spans.now to → AreBlocks {W = g.row.W} f.1.now f.2.now f.3.now.kinds from blocks.items to)) c.map.ensures.f
    (of_answers {W = g.row.W} c.map.result.f.1.now c.map.result.f.2.now c.map.result.f.3.now.kinds c.args.spans.now c.in_ok-collect.ensures.0 c.in_ok-collect.field-0
    (slice-AllZip xs c.args.spans.now shown
    (λ (span : Span) (answer : Result (Piece g.row.W) NoMemory). IfOk answer (IsOf {W = g.row.W} c.map.result.f.1.now c.map.result.f.2.now c.map.result.f.3.now.kinds span)) c.in_ok-collect.ensures.0 zip)
    c.in_ok-collect.ensures.2)
