use Rattle.std.proofs.Common.{◌≡◌, ◌≤◌, ◌<◌, ◌*◌, ◌++◌, List, length, take, drop, sym, ap, ◌∙◌, subst, arith}
use Rattle.std.specs.List.{All, AllByRecursion, slice_index, slice_range}
use Rattle.std.proofs.lemmas.List.Elements.{All-from_recursion}
use Rattle.mine_model.specs.declared.item.Item.{Item}
use Rattle.mine_model.specs.Limits.{most_sequences, most_weight}
use Rattle.mine_model.specs.Database.{sequence_at}
use Rattle.mine_model.specs.Support.{Sequence}
use Rattle.mine_model.proofs.ListLemmas.{written_back}
use Rattle.frequency_list.proofs.SequenceLemmas.{at_number, AreFrequencies-more, AreFrequencies-room, part-limits, part-few}
use Rattle.frequency_list.proofs.tally.tally.Goals as goal

pub add_sequence-requires-clause-items : goal.add_sequence-requires-clause-items
add_sequence-requires-clause-items c =
    let inside : c.loop-number.number < length c.args.db.now = omega (arith, c.loop-number-test.true, c.requires.within) in
    let Within : List Item → Type 0 = λ items. All (λ t. t.0 < c.args.hierarchy.now.items) items in
    subst Within (sym c.sequence.ensures.items)
    (All-from_recursion (λ t. t.0 < c.args.hierarchy.now.items) (sequence_at c.args.db.now c.loop-number.number).items
    (at_number (λ s. AllByRecursion (λ t. t.0 < c.args.hierarchy.now.items) s.items) c.args.db.now c.loop-number.number c.requires.items inside))

pub add_sequence-requires-clause-room : goal.add_sequence-requires-clause-room
add_sequence-requires-clause-room c k =
    let part : List (Sequence Item) = slice_range c.args.db.now c.args.from c.loop-number.number in
    let few : length c.args.db.now ≤ most_sequences = omega (arith, c.sequences-sequences.ensures.count, c.sequences-sequences.ensures.most) in
    let most : slice_index c.loop-number.sums.items k ≤ most_sequences * most_weight =
    AreFrequencies-room c.args.hierarchy.now.links part c.loop-number.sums.items
    (part-limits c.args.db.now c.args.from c.loop-number.number c.sequences-sequences.ensures.limits)
    (part-few c.args.db.now c.args.from c.loop-number.number few) c.loop-number.invariant.sums k in
    let same : slice_index c.as_mut_slice.result.now k ≡ slice_index c.loop-number.sums.items k = ap (λ sums. slice_index sums k) c.as_mut_slice.ensures.value in
    omega (arith, same, most, c.weight.ensures.most)

pub loop-number-preserved : goal.loop-number-preserved
loop-number-preserved c =
    let inside : c.loop-number.number < length c.args.db.now = omega (arith, c.loop-number-test.true, c.requires.within) in
    let whole_sums : length c.add_sequence.new.sums ≡ length c.loop-number.sums.items = c.add_sequence.auto.sums ∙ ap length c.as_mut_slice.ensures.value in
    let whole_stamps : length c.add_sequence.new.stamps ≡ length c.loop-number.stamps.items = c.add_sequence.auto.stamps ∙ ap length c.as_mut_slice-in-loop-number.ensures.value in
    let sums : take c.loop-number.sums.len (c.add_sequence.new.sums ++ drop (length c.add_sequence.new.sums) c.loop-number.sums.items) ≡ c.add_sequence.new.sums =
    written_back c.add_sequence.new.sums c.loop-number.sums.items c.loop-number.sums.len (omega (arith, whole_sums, c.loop-number.sums.ok.0)) in
    let stamps : take c.loop-number.stamps.len (c.add_sequence.new.stamps ++ drop (length c.add_sequence.new.stamps) c.loop-number.stamps.items) ≡ c.add_sequence.new.stamps =
    written_back c.add_sequence.new.stamps c.loop-number.stamps.items c.loop-number.stamps.len (omega (arith, whole_stamps, c.loop-number.stamps.ok.0)) in
    rw (sums, stamps) (record {
      sums = AreFrequencies-more c.args.hierarchy.now.links c.args.db.now c.args.from c.loop-number.number c.loop-number.sums.items c.as_mut_slice.result.now c.add_sequence.new.sums
          c.sequence.result.now c.weight.result c.loop-number.auto.number inside whole_sums c.sequence.ensures.items c.weight.ensures.weight c.as_mut_slice.ensures.value
          c.add_sequence.ensures.added c.loop-number.invariant.sums;
      stamped = c.add_sequence.ensures.stamped;
      whole_sums = whole_sums ∙ c.loop-number.invariant.whole_sums;
      whole_stamps = whole_stamps ∙ c.loop-number.invariant.whole_stamps;
    })
