use Rattle.std.proofs.Common.{inr, List, true≢false, refl, sym, ◌∙◌, subst, arith}
use Rattle.mine_model.specs.declared.item.Item.{Item}
use Rattle.mine_model.specs.declared.row.Row.{Row}
use Rattle.mine_model.specs.Answer.{ComesBefore}
use Rattle.mine_model.specs.Names.{named_row}
use Rattle.pattern_proof.specs.ProofLines.{SaysRow}
use Rattle.pattern_proof.specs.Taking.{standing_of}
use Rattle.pattern_proof.proofs.JudgedLemmas.{refuse-row, row-alone, behind-open}
use Rattle.pattern_proof.proofs.reading.take_row.Goals as goal

pub returns-in_default-2-clause-refused : goal.returns-in_default-2-clause-refused
returns-in_default-2-clause-refused c =
    let none = rw c.in_default-2.is at c.in_ok-support.ensures in
    inr (
      c.args.number,
      refl,
      (λ known. refuse-row c.args.check.now.job.now c.args.check.now.names.now (standing_of c.args.check.now) c.args.number c.args.text.now c.requires.row c.in_default.ensures
          (λ row says follow. none known row says follow.range.most)),
    )

pub returns-then-support-threshold-clause-refused : goal.returns-then-support-threshold-clause-refused
returns-then-support-threshold-clause-refused c =
    let said = rw c.in-Some-2.is at c.in_ok-support.ensures in
    inr (
      c.args.number,
      refl,
      (λ known. refuse-row c.args.check.now.job.now c.args.check.now.names.now (standing_of c.args.check.now) c.args.number c.args.text.now c.requires.row c.in_default.ensures
          (row-alone c.args.check.now.job.now c.args.check.now.names.now (standing_of c.args.check.now) c.args.number c.args.text.now known
          (record { pattern = c.row_in.new.items.items; support = c.in-Some-2.support }) said.0
          (λ follow. let least = follow.range.least in let less = c.if-support-threshold.true in let same = c.threshold.ensures.threshold in omega (arith, least, less, same)))),
    )

pub returns-then-not-is_behind-clause-refused : goal.returns-then-not-is_behind-clause-refused
returns-then-not-is_behind-clause-refused c =
    let said = rw c.in-Some-2.is at c.in_ok-support.ensures in
    let row : Row = record { pattern = c.new.result; support = c.in-Some-2.support } in
    let says : SaysRow c.args.check.now.names.now c.args.text.now row =
    subst (λ (p : List Item). SaysRow c.args.check.now.names.now c.args.text.now (record { pattern = p; support = c.in-Some-2.support })) (sym c.new.ensures) said.0 in
    inr (
      c.args.number,
      refl,
      (λ known. refuse-row c.args.check.now.job.now c.args.check.now.names.now (standing_of c.args.check.now) c.args.number c.args.text.now c.requires.row c.in_default.ensures
          (row-alone c.args.check.now.job.now c.args.check.now.names.now (standing_of c.args.check.now) c.args.number c.args.text.now known row says
          (λ follow. true≢false (sym (c.is_behind.ensures.1
          (behind-open (λ other. ComesBefore (named_row c.args.check.now.names.now other) (named_row c.args.check.now.names.now row)) c.args.check.now.current follow.behind))
          ∙ c.if-not-is_behind.true)))),
    )
