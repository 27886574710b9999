use Rattle.std.proofs.Common.{◌≡◌, ℕ, ◌+◌, List, length, get_or, sym, ap, ◌∙◌, subst, arith}
use Rattle.mine_model.specs.declared.item.Item.{Item}
use Rattle.mine_model.specs.Database.{sequence_at}
use Rattle.mine_model.specs.Support.{Sequence}
use Rattle.sequence_grids.specs.Grids.{GridList}
use Rattle.snapshot_project.proofs.BeginLemmas.{AreWeightsBefore, weights-none, weights-more, weights-all}
use Rattle.snapshot_project.proofs.beginning.weights_of.Goals as goal

pub loop-number-init : goal.loop-number-init
loop-number-init c = λ bound.
    let part : GridList = record { problem = c.args.job.now; bound = bound; sequences = c.args.sequences.now } in
    subst (AreWeightsBefore part 0) (sym c.new-weights.ensures.items) (weights-none part)

pub loop-number-preserved : goal.loop-number-preserved
loop-number-preserved c = λ bound.
    let part : GridList = record { problem = c.args.job.now; bound = bound; sequences = c.args.sequences.now } in
    let index = c.loop-number.number-index in
    let number = get_or c.args.sequences.now index 0 in
    let weight : c.weight-weight.result ≡ (sequence_at c.args.job.now.sequences number).weight = c.weight-weight.ensures.weight
    ∙ ap (λ (l : List (Sequence Item)). (sequence_at l number).weight) c.db.ensures.sequences in
    subst (AreWeightsBefore part (index + 1)) (sym c.in_ok-push_all.ensures)
    (weights-more part index c.loop-number.weights.items c.loop-number-test.true (c.loop-number.invariant bound) c.weight-weight.result c.places_of.result weight c.places_of.ensures.places)

pub returns : goal.returns
returns c = λ bound.
    let part : GridList = record { problem = c.args.job.now; bound = bound; sequences = c.args.sequences.now } in
    let done : c.loop-number.number-index ≡ length c.args.sequences.now = omega (arith, c.loop-number-test.false, c.loop-number.auto.number-index-end) in
    weights-all part c.loop-number.weights.items (subst (λ (n : ℕ). AreWeightsBefore part n c.loop-number.weights.items) done (c.loop-number.invariant bound))
