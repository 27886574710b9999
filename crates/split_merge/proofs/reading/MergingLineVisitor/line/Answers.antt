use Rattle.std.proofs.Common.{ℕ, List, inr, refl, sym, subst}
use Rattle.mine_model.specs.declared.item.Item.{Item}
use Rattle.mine_model.specs.Names.{GrowBy}
use Rattle.split_merge.specs.Merging.{IsRowLine}
use Rattle.split_merge.specs.Rows.{HasPattern}
use Rattle.split_merge.proofs.reading.MergingLineVisitor.line.Goals as goal

pub returns-then-has-clause-refused : goal.returns-then-has-clause-refused
returns-then-has-clause-refused c =
    let said = rw c.in-Some.is at c.in_ok-said.ensures.said in
    let items = c.in-Ok.ensures.items in
    record {
      why = (
        refl,
        inr (inr (
          record { pattern = c.intern_fields.new.items.items; support = c.in-Some.said.support },
          subst (λ (p : List (List ℕ)). IsRowLine c.args.self.now.least c.args.text.now (record { pattern = p; support = c.in-Some.said.support })) (sym items.said) said.says,
          subst (λ (p : List Item). HasPattern c.args.self.now.rows p) c.as_slice-2.ensures.value (c.has.ensures.0 c.if-has.true),
          subst (λ (p : List (List ℕ)). GrowBy c.args.self.now.names p c.intern_fields.new.self) (sym items.said) c.in-Ok.ensures.grown,
        )),
      );
      added = c.in-Ok.ensures.kept.0;
      kept = c.in-Ok.ensures.kept.1;
      rows = refl;
    }
