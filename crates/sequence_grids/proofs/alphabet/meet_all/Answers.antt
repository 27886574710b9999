use Rattle.std.proofs.Common.{List, subst}
use Rattle.std.specs.List.{Contains}
use Rattle.std.proofs.lemmas.List.{take_all}
use Rattle.mine_model.specs.declared.item.Item.{Item}
use Rattle.mine_model.proofs.ListLemmas.{Contains-none}
use Rattle.sequence_grids.specs.Kinds.{IsMet}
use Rattle.sequence_grids.proofs.TableLemmas.{Grows-nothing, Grows-twice}
use Rattle.sequence_grids.proofs.KindLemmas.{KindsGrow-nothing, KindsGrow-twice, AreMet-more}
use Rattle.sequence_grids.proofs.PlaceLemmas.{IsTableOf-grow}
use Rattle.sequence_grids.proofs.alphabet.meet_all.Goals as goal

pub kind_of-requires-clause-states : goal.kind_of-requires-clause-states
kind_of-requires-clause-states c = c.loop-t.invariant.table.states

pub kind_of-requires-clause-kinds : goal.kind_of-requires-clause-kinds
kind_of-requires-clause-kinds c = c.loop-t.invariant.kinds

pub loop-t-init : goal.loop-t-init
loop-t-init c = record {
  table = c.requires.table;
  kinds = c.requires.kinds;
  tables_grow = Grows-nothing c.args.tables.now;
  kinds_grow = KindsGrow-nothing c.args.kinds.now;
  kept = λ t met. met;
  met = λ t held. absurd (Contains-none t held);
}

pub loop-t-preserved : goal.loop-t-preserved
loop-t-preserved c =
    let before = c.loop-t.invariant in
    record {
      table = IsTableOf-grow c.args.job.now c.loop-t.tables c.kind_of.new.tables before.table c.kind_of.ensures.tables;
      kinds = c.kind_of.ensures.kinds;
      tables_grow = Grows-twice c.args.tables.now c.loop-t.tables c.kind_of.new.tables before.tables_grow c.kind_of.ensures.tables;
      kinds_grow = KindsGrow-twice c.args.kinds.now c.loop-t.kinds c.kind_of.new.kinds before.kinds_grow c.kind_of.ensures.grow;
      kept = λ t met. c.kind_of.ensures.kept t (before.kept t met);
      met = AreMet-more c.loop-t.kinds c.kind_of.new.kinds c.args.items.now c.loop-t.t-index _ before.met c.kind_of.ensures.kept c.in_ok-kind_of.ensures.met c.loop-t-test.true;
    }

pub returns-clause-met : goal.returns-clause-met
returns-clause-met c = subst (λ (xs : List Item). (t : Item) → Contains xs t → IsMet c.loop-t.kinds t) (take_all c.loop-t.t-index c.args.items.now c.loop-t-test.false) c.loop-t.invariant.met
