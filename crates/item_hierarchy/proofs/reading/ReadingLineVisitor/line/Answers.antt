use Rattle.std.proofs.Common.{◌≡◌, ℕ, List, ◌++◌, sym, refl, ap, ◌∙◌, subst}
use Rattle.mine_model.specs.Limits.{most_items}
use Rattle.mine_model.specs.Names.{GrowBy}
use Rattle.mine_model.specs.Text.{fields_of}
use Rattle.mine_model.specs.Refusal.{HasMoreNames, links_of_line}
use Rattle.item_names.specs.Fields.{texts_at, AreItemsOf}
use Rattle.item_names.proofs.FieldLemmas.{fields_are_texts}
use Rattle.item_hierarchy.specs.Taking.{rows_of_line}
use Rattle.item_hierarchy.proofs.TakingLemmas.{rows_say, rows_within}
use Rattle.item_hierarchy.proofs.reading.ReadingLineVisitor.line.Goals as goal

pub returns-in-Err-TooMany-clause-refused : goal.returns-in-Err-TooMany-clause-refused
returns-in-Err-TooMany-clause-refused c =
    let fields : fields_of c.args.text.now ≡ texts_at c.args.text.now c.args.fields.now = fields_are_texts c.args.text.now c.args.fields.now c.requires.fields in
    let more = (rw c.in-Err-TooMany.field-0-is at c.in-Err-TooMany.ensures.too_many) refl in
    record {
      why = (refl, subst (λ texts. HasMoreNames most_items (c.args.self.now.names ++ texts)) (sym fields) more);
      added = c.in-Err-TooMany.ensures.kept.0;
      kept = c.in-Err-TooMany.ensures.kept.1;
    }

pub returns-clause-took : goal.returns-clause-took
returns-clause-took c =
    let texts : List (List ℕ) = texts_at c.args.text.now c.args.fields.now in
    let fields : fields_of c.args.text.now ≡ texts = fields_are_texts c.args.text.now c.args.fields.now c.requires.fields in
    let are : AreItemsOf c.intern_fields.new.self c.intern_fields.new.items.items texts = c.in-Ok.ensures.items in
    record {
      sound = c.requires.sound;
      grown = subst (λ names. GrowBy c.args.self.now.names names c.intern_fields.new.self) (sym fields) c.in-Ok.ensures.grown;
      room = c.in-Ok.ensures.room;
      own = rows_of_line c.args.number c.intern_fields.new.items.items;
      pushed = c.in_ok-add_rows.ensures ∙ ap (λ items. c.args.self.now.rows.items ++ rows_of_line c.args.number items) c.as_slice.ensures.value;
      within = rows_within c.intern_fields.new.self c.args.number c.intern_fields.new.items.items texts are;
      said = rows_say c.intern_fields.new.self c.args.number c.intern_fields.new.items.items texts are ∙ ap (links_of_line c.args.number) (sym fields);
    }
