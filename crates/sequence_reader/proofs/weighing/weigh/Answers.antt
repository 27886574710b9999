use Rattle.std.proofs.Common.{ℕ, ap, ◌∙◌, List, true, length}
use Rattle.std.proofs.lemmas.List.Elements.{All-rest}
use Rattle.mine_model.specs.Text.{fields_of}
use Rattle.mine_model.specs.Support.{Sequence}
use Rattle.mine_model.specs.Refusal.{sequence_of}
use Rattle.text_ports.specs.Lines.{IsWithin}
use Rattle.item_names.specs.Fields.{texts_at}
use Rattle.item_names.proofs.FieldLemmas.{fields_are_texts}
use Rattle.sequence_reader.proofs.weighing.weigh.Goals as goal

pub returns-then-not-weighted-clause-said : goal.returns-then-not-weighted-clause-said
returns-then-not-weighted-clause-said c =
    let said : List (List ℕ) → Sequence (List ℕ) = λ w. record { items = w; weight = 1 } in
    ap (λ b. sequence_of b (fields_of c.args.text.now)) c.if-not-weighted.true ∙ ap said (fields_are_texts c.args.text.now c.args.fields.now c.requires)

pub returns-in-Some-weight_in-clause-said : goal.returns-in-Some-weight_in-clause-said
returns-in-Some-weight_in-clause-said c =
    let said : ℕ → Sequence (List ℕ) = λ n. record { items = texts_at c.args.text.now c.in-Some.items.now; weight = n } in
    ap (λ b. sequence_of b (fields_of c.args.text.now)) c.if-not-weighted.false
    ∙ ap (sequence_of true) (fields_are_texts c.args.text.now c.args.fields.now c.requires ∙ ap (texts_at c.args.text.now) c.in-Some.ensures.cases.0)
    ∙ ap said c.in-Some-weight_in.ensures.0.2

pub returns-in-Some-weight_in-clause-within : goal.returns-in-Some-weight_in-clause-within
returns-in-Some-weight_in-clause-within c =
    All-rest (IsWithin (length c.args.text.now)) c.in-Some.first.now c.in-Some.items.now c.args.fields.now c.in-Some.ensures.cases.0 c.requires.within
