use Rattle.std.proofs.Common.{◌≢◌, ◌<◌, length, inl, inr, sym, ap, ◌∙◌, arith}
use Rattle.std.proofs.Common.{false-eqb}
use Rattle.std.proofs.lemmas.Bool.{eqb-true}
use Rattle.std.proofs.lemmas.List.{nil_from_length}
use Rattle.mine_model.specs.Tokens.{is_free}
use Rattle.std.specs.Char.{is_ascii_digit}
use Rattle.patex_parser.proofs.PartLemmas.{IsCutAt, run-cut, part-number, part-other, all-in-run, not-in-run}
use Rattle.patex_parser.proofs.bounds.part_of.Goals as goal
use Rattle.patex_parser.proofs.bounds.part_of.Goals.{then-is_empty-2-via-then-is_empty-2, then-is_empty-2-via-else-is_empty-2+then-run_of-after}

pub returns-then-is_empty-2 : goal.returns-then-is_empty-2
returns-then-is_empty-2 c =
    let bytes = c.args.bytes.now in
    let free = c.split_at.result.0.now in
    let rest = c.split_at.result.1.now in
    let digits = c.split_at-2.result.0.now in
    let after = c.split_at-2.result.1.now in
    let first : IsCutAt is_free bytes free rest =
    run-cut is_free bytes free rest c.run_of.result c.split_at.ensures.front c.split_at.ensures.back c.run_of.ensures.each c.run_of.ensures.longest in
    let second : IsCutAt is_ascii_digit rest digits after =
    run-cut is_ascii_digit rest digits after c.run_of-2.result c.split_at-2.ensures.front c.split_at-2.ensures.back c.run_of-2.ensures.each c.run_of-2.ensures.longest in
    let some : length rest ≢ 0 = false-eqb (length rest) 0 (sym c.if-is_empty.false ∙ c.is_empty.ensures) in
    part-other bytes free rest digits after first (λ none. some (ap length none)) second
    (elim c.then-is_empty-2.branch [
      | then-is_empty-2-via-then-is_empty-2 w ↦ inl (nil_from_length digits (eqb-true _ _ (sym c.is_empty-2.ensures ∙ w.if-is_empty-2.true)))
      | then-is_empty-2-via-else-is_empty-2+then-run_of-after w ↦ inr (
          let k = w.run_of-else-is_empty-2 in
          let less : k.result < length after = omega (arith, k.ensures.within, w.if-run_of-after.true) in
          λ each. not-in-run is_free after k.result less k.ensures.longest each)
    ])

pub returns : goal.returns
returns c =
    let bytes = c.args.bytes.now in
    let free = c.split_at.result.0.now in
    let rest = c.split_at.result.1.now in
    let digits = c.split_at-2.result.0.now in
    let after = c.split_at-2.result.1.now in
    let first : IsCutAt is_free bytes free rest =
    run-cut is_free bytes free rest c.run_of.result c.split_at.ensures.front c.split_at.ensures.back c.run_of.ensures.each c.run_of.ensures.longest in
    let second : IsCutAt is_ascii_digit rest digits after =
    run-cut is_ascii_digit rest digits after c.run_of-2.result c.split_at-2.ensures.front c.split_at-2.ensures.back c.run_of-2.ensures.each c.run_of-2.ensures.longest in
    let some : length digits ≢ 0 = false-eqb (length digits) 0 (sym c.if-is_empty-2.false ∙ c.is_empty-2.ensures) in
    part-number bytes free rest digits after c.value.result first second (λ none. some (ap length none))
    (all-in-run is_free after c.run_of-else-is_empty-2.result c.if-run_of-after.false c.run_of-else-is_empty-2.ensures.each)
    c.value.ensures
