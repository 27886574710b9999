use Rattle.std.proofs.Common.{◌<◌, inl, inr, [], ap, arith}
use Rattle.std.proofs.lemmas.Bool.{cases_eq}
use Rattle.std.proofs.lemmas.List.Elements.{All-contains}
use Rattle.mine_model.specs.declared.item.Item.{Item}
use Rattle.mine_model.specs.Ancestry.{Ancestry}
use Rattle.mine_model.proofs.ListLemmas.{Contains-first}
use Rattle.mining_job.specs.Problems.{items_of}
use Rattle.sequence_grids.proofs.GridLemmas.{items_within}
use Rattle.sequence_grids.proofs.alphabet.meet_items.Goals as goal

pub meet_all-requires-clause-table : goal.meet_all-requires-clause-table
meet_all-requires-clause-table c = c.loop-number.invariant.table

pub meet_all-requires-clause-kinds : goal.meet_all-requires-clause-kinds
meet_all-requires-clause-kinds c = c.loop-number.invariant.kinds

pub loop-number-init : goal.loop-number-init
loop-number-init c = record {
  table = c.requires.none.table_is;
  kinds = c.requires.none.kinds_are;
  met = λ t none. absurd (omega arith);
}

pub loop-number-preserved : goal.loop-number-preserved
loop-number-preserved c =
    let before = c.loop-number.invariant in
    record {
      table = c.meet_all.ensures.table;
      kinds = c.meet_all.ensures.kinds;
      met = λ t below. elim (cases_eq t.0 c.loop-number.number) [
        | inl same ↦ rw same (c.in_ok-meet_all.ensures.met (record { 0 = c.loop-number.number }) (Contains-first (record { 0 = c.loop-number.number }) []))
        | inr other ↦ c.meet_all.ensures.kept t (before.met t (omega (arith, below, other)))
      ];
    }

pub returns : goal.returns
returns c =
    let after = c.loop-number.invariant in
    record {
      all = record {
        table_is = after.table;
        kinds_are = after.kinds;
        met = λ i inside t held.
            let below : t.0 < c.args.job.now.hierarchy.items =
            All-contains (λ (u : Item). u.0 < c.args.job.now.hierarchy.items) (items_of c.args.job.now i) t
            (items_within c.args.job.now c.hierarchy.ensures.whole i inside) held in
            after.met t (omega (arith, below, c.loop-number-test.false, c.items-number-end.ensures.number, ap (λ (h : Ancestry). h.items) c.hierarchy.ensures.hierarchy));
      };
    }
