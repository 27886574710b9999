use Rattle.std.proofs.Common.{◌≡◌, ℕ, ◌+◌, List, length, get_or, refl, sym, ap, ◌∙◌, subst, arith}
use Rattle.mine_model.specs.declared.item.Item.{Item}
use Rattle.mine_model.specs.Database.{sequence_at}
use Rattle.mine_model.specs.Support.{Sequence}
use Rattle.sequence_grids.specs.Grids.{GridList, items_at}
use Rattle.place_records.specs.Records.{start_of}
use Rattle.snapshot_project.proofs.StartLemmas.{start-next}
use Rattle.sequence_candidates.specs.Terrains.{AreStartsTo}
use Rattle.sequence_candidates.proofs.StartLemmas.{starts-none, starts-more}
use Rattle.sequence_candidates.proofs.starts.starts_of.Goals as goal

pub loop-number-init : goal.loop-number-init
loop-number-init c = record {
  starts = λ bound.
      let part : GridList = record { problem = c.args.job.now; bound = bound; sequences = c.args.sequences.now } in
      subst (AreStartsTo part 0) (sym c.new-starts.ensures.items) (starts-none part);
  place = λ bound. refl;
}

pub loop-number-preserved : goal.loop-number-preserved
loop-number-preserved c = record {
  starts = λ bound.
      let part : GridList = record { problem = c.args.job.now; bound = bound; sequences = c.args.sequences.now } in
      let index = c.loop-number.number-index in
      let is : c.in_ok-to_place.field-0 ≡ start_of part index = c.in_ok-to_place.ensures ∙ c.loop-number.invariant.place bound in
      subst (AreStartsTo part (index + 1)) (sym c.in_ok-push.ensures.items)
      (starts-more part index c.in_ok-to_place.field-0 c.loop-number.starts.items (c.loop-number.invariant.starts bound) is);
  place = λ bound.
      let part : GridList = record { problem = c.args.job.now; bound = bound; sequences = c.args.sequences.now } in
      let index = c.loop-number.number-index in
      let number = get_or c.args.sequences.now index 0 in
      let items : c.sequence.result.now ≡ items_at part index = c.sequence.ensures.items
      ∙ ap (λ (l : List (Sequence Item)). (sequence_at l number).items) c.db.ensures.sequences in
      let long : length c.sequence.result.now ≡ length (items_at part index) = ap length items in
      let next : start_of part (index + 1) ≡ start_of part index + length (items_at part index) + 1 = start-next part index c.loop-number-test.true in
      let here : c.loop-number.place ≡ start_of part index = c.loop-number.invariant.place bound in
      omega (arith, next, long, here);
}

pub returns : goal.returns
returns c = λ bound.
    let part : GridList = record { problem = c.args.job.now; bound = bound; sequences = c.args.sequences.now } in
    let done : c.loop-number.number-index ≡ length c.args.sequences.now = omega (arith, c.loop-number-test.false, c.loop-number.auto.number-index-end) in
    subst (λ (n : ℕ). AreStartsTo part n c.loop-number.starts.items) done (c.loop-number.invariant.starts bound)
