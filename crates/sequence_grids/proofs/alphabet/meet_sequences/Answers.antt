use Rattle.std.proofs.Common.{◌≡◌, ◌∙◌, ◌<◌, List, length, ap, subst, arith}
use Rattle.mine_model.specs.declared.item.Item.{Item}
use Rattle.mine_model.specs.Support.{Sequence}
use Rattle.mine_model.specs.Database.{sequence_at}
use Rattle.mining_job.specs.Problems.{items_of}
use Rattle.sequence_grids.specs.Kinds.{AreMet}
use Rattle.sequence_grids.specs.Places.{IsAlphabetTo}
use Rattle.sequence_grids.proofs.GridLemmas.{items_within}
use Rattle.sequence_grids.proofs.PlaceLemmas.{IsAlphabetTo-more}
use Rattle.sequence_grids.proofs.alphabet.meet_sequences.Goals as goal

pub meet_all-requires-clause-table : goal.meet_all-requires-clause-table
meet_all-requires-clause-table c = c.loop-number.invariant.table_is

pub meet_all-requires-clause-kinds : goal.meet_all-requires-clause-kinds
meet_all-requires-clause-kinds c = c.loop-number.invariant.kinds_are

pub meet_all-requires-clause-items : goal.meet_all-requires-clause-items
meet_all-requires-clause-items c =
    let same : c.sequence-items.result.now ≡ items_of c.args.job.now c.loop-number.number =
    c.sequence-items.ensures.items ∙ ap (λ (sequences : List (Sequence Item)). (sequence_at sequences c.loop-number.number).items) c.db-in-loop-number.ensures.sequences in
    let inside : c.loop-number.number < length c.args.job.now.sequences = omega (arith, c.loop-number-test.true, c.sequences-number-end.ensures.count, ap length c.db.ensures.sequences) in
    rw same (items_within c.args.job.now c.db-in-loop-number.ensures.whole c.loop-number.number inside)

pub loop-number-preserved : goal.loop-number-preserved
loop-number-preserved c =
    let same : c.sequence-items.result.now ≡ items_of c.args.job.now c.loop-number.number =
    c.sequence-items.ensures.items ∙ ap (λ (sequences : List (Sequence Item)). (sequence_at sequences c.loop-number.number).items) c.db-in-loop-number.ensures.sequences in
    IsAlphabetTo-more c.args.job.now c.args.bound c.loop-number.all.tables c.meet_all.new.tables c.loop-number.all.kinds c.meet_all.new.kinds c.loop-number.number c.loop-number.invariant
    c.meet_all.ensures.table c.meet_all.ensures.kinds c.meet_all.ensures.kept
    (subst (AreMet c.meet_all.new.kinds) same c.in_ok-meet_all.ensures.met)

pub returns : goal.returns
returns c =
    let all : c.loop-number.number ≡ length c.args.job.now.sequences = omega (arith, c.sequences-number-end.ensures.count, ap length c.db.ensures.sequences, c.loop-number-test.false) in
    record { all = subst (IsAlphabetTo c.args.job.now c.args.bound c.loop-number.all.tables c.loop-number.all.kinds) all c.loop-number.invariant }
