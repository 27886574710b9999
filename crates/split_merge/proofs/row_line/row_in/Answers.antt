use Rattle.std.proofs.Common.{◌==◌, ℕ, length, true≢false, ◌∷◌, ◌++◌, List, sym, ap, ◌∙◌}
use Rattle.std.proofs.lemmas.Bool.{eqb-true}
use Rattle.std.proofs.lemmas.List.Elements.{All-rest}
use Rattle.mine_model.specs.Bytes.{tab}
use Rattle.text_ports.specs.declared.lines.Span.{Span}
use Rattle.text_ports.specs.Lines.{IsWithin}
use Rattle.split_merge.proofs.FormLemmas.{text_at, none-said, no-names, no-support, not-spelled, said-by}
use Rattle.split_merge.proofs.row_line.row_in.Goals as goal
use Rattle.split_merge.proofs.row_line.row_in.Goals.{in_default-support_in-via-in-Some-support_in+else-is_spelled, in_default-support_in-via-in_default-support_in}

pub returns-in_default : goal.returns-in_default
returns-in_default c = record { said = none-said c.args.least c.args.text.now c.args.fields.now c.requires c.in_default.ensures.cases }

pub returns-then-is_empty : goal.returns-then-is_empty
returns-then-is_empty c = record {
  said = no-names c.args.least c.args.text.now c.args.fields.now c.requires c.in-Some.first.now c.in-Some.names.now c.in-Some.ensures.cases.0
      (eqb-true (length c.in-Some.names.now) 0 (sym c.is_empty.ensures ∙ c.if-is_empty.true));
}

pub join-requires : goal.join-requires
join-requires c = All-rest (IsWithin (length c.args.text.now)) c.in-Some.first.now c.in-Some.names.now c.args.fields.now c.in-Some.ensures.cases.0 c.requires.within

pub returns-in-Some-support_in : goal.returns-in-Some-support_in
returns-in-Some-support_in c = record {
  said = said-by c.args.least c.args.text.now c.args.fields.now c.requires c.in-Some.first.now c.in-Some.names.now c.in-Some.ensures.cases.0
      c.join.new.joined.items c.in-Some-support_in.support c.in_ok-join.ensures
      (c.is_spelled.ensures.0 c.if-is_spelled.true ∙ ap (λ (l : List ℕ). text_at c.args.text.now c.in-Some.first.now ++ tab ∷ l) c.as_slice.ensures.value)
      c.in-Some-support_in.ensures.0 c.in-Some-support_in.ensures.1 c.in-Some-support_in.ensures.2
      (λ none. true≢false (sym (ap (λ (l : List Span). length l == 0) none) ∙ sym c.is_empty.ensures ∙ c.if-is_empty.false))
      (All-rest (IsWithin (length c.args.text.now)) c.in-Some.first.now c.in-Some.names.now c.args.fields.now c.in-Some.ensures.cases.0 c.requires.within);
}

pub returns-in_default-support_in : goal.returns-in_default-support_in
returns-in_default-support_in c = record {
  said = elim c.in_default-support_in.branch [
    | in_default-support_in-via-in-Some-support_in+else-is_spelled w ↦
        not-spelled c.args.least c.args.text.now c.args.fields.now c.requires c.in-Some.first.now c.in-Some.names.now c.in-Some.ensures.cases.0 c.join.new.joined.items c.in_ok-join.ensures
        (λ spelled. true≢false (sym (w.is_spelled.ensures.1 (spelled ∙ ap (λ (l : List ℕ). text_at c.args.text.now c.in-Some.first.now ++ tab ∷ l) (sym w.as_slice.ensures.value))) ∙ w.if-is_spelled.false))
    | in_default-support_in-via-in_default-support_in w ↦
        no-support c.args.least c.args.text.now c.args.fields.now c.requires c.in-Some.first.now c.in-Some.names.now c.in-Some.ensures.cases.0 w.in_default-support_in.ensures
  ];
}
