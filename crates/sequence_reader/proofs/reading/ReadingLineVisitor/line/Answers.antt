use Rattle.std.proofs.Common.{◌≤◌, ℕ, List, ◌++◌, length, refl, sym, subst, arith}
use Rattle.std.proofs.lemmas.List.{length-map}
use Rattle.mine_model.specs.Limits.{most_items}
use Rattle.mine_model.specs.Support.{Sequence}
use Rattle.mine_model.specs.Refusal.{HasMoreNames}
use Rattle.item_names.specs.Fields.{texts_at}
use Rattle.sequence_reader.proofs.reading.ReadingLineVisitor.line.Goals as goal

pub returns-in-Err-TooMany-clause-refused : goal.returns-in-Err-TooMany-clause-refused
returns-in-Err-TooMany-clause-refused c =
    let short : length (texts_at c.args.text.now c.in_ok-line.line.items.now) ≤ 65535 =
    let most = c.in_ok-line.ensures.short in rw length-map (omega (arith, most)) in
    let more = (rw c.in-Err-TooMany.field-0-is at c.in-Err-TooMany.ensures.too_many) refl in
    let said = c.in_ok-line.ensures.said in
    record {
      why = (
        c.next_number-number.ensures,
        c.in_ok-line.ensures.few,
        c.in_ok-line.ensures.weighed,
        subst (λ (s : Sequence (List ℕ)). length s.items ≤ 65535) (sym said) short,
        subst (λ (s : Sequence (List ℕ)). HasMoreNames most_items (c.args.self.now.names ++ s.items)) (sym said) more,
      );
      added = c.in-Err-TooMany.ensures.kept.0;
      kept = c.in-Err-TooMany.ensures.kept.1;
    }
