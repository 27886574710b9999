use Rattle.std.proofs.Common.{◌∙◌, [], ◌∷◌, ◌++◌, take, ap, sym}
use Rattle.std.proofs.lemmas.List.{take_more, take_all}
use Rattle.sequence_grids.proofs.TableLemmas.{inserted_last}
use Rattle.sequence_grids.proofs.table.set_in_order.Goals as goal

pub loop-one-preserved : goal.loop-one-preserved
loop-one-preserved g c =
    let k = c.one-item.result in
    inserted_last g.T.PartialEq.eq c.loop-one.set.keys c.insert_full.new.self.keys k c.in_ok-_index.new c.in_ok-_index.ensures.keys c.in_ok-_index.ensures.added c.if-not-new.false
    ∙ (ap (λ ks. ks ++ k ∷ []) c.loop-one.invariant ∙ sym (take_more c.args.list.now c.loop-one.one-index k c.loop-one-test.true ∙ ap (λ x. take c.loop-one.one-index c.args.list.now ++ x ∷ []) (sym c.one-item.is)))

pub returns : goal.returns
returns g c = c.loop-one.invariant ∙ take_all c.loop-one.one-index c.args.list.now c.loop-one-test.false
