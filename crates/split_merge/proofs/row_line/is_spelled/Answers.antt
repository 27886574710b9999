use Rattle.std.proofs.Common.{◌≡◌, ◌∷◌, sym, ◌∙◌, true≢false}
use Rattle.std.proofs.lemmas.Slice.Eq.{bytes_eq-Decides}
use Rattle.mine_model.specs.Bytes.{tab}
use Rattle.split_merge.proofs.FormLemmas.{spelled-is, not-stripped}
use Rattle.split_merge.proofs.row_line.is_spelled.Goals as goal

pub returns-in_default : goal.returns-in_default
returns-in_default c = ((λ wrong. absurd (true≢false (sym wrong))), (λ spelled. absurd (not-stripped c.args.text.now c.args.digits.now c.args.names.now c.in_default.ensures.cases spelled)))

pub returns-then-first-eq-TAB : goal.returns-then-first-eq-TAB
returns-then-first-eq-TAB c =
    let front = c.in-Some.ensures.cases in
    let cut = c.in-Some-split_first.ensures.cases.0 in
    let same = bytes_eq-Decides c.in-Some-split_first.behind.now c.args.names.now in
    let is = spelled-is c.args.text.now c.args.digits.now c.args.names.now c.in-Some.rest.now front.0 front.1 in (
      (λ equal. is.0 (cut ∙ (λ j. c.if-first-eq-TAB.true j ∷ same.0 (sym c.eq.ensures ∙ equal) j))),
      (λ spelled.
          let whole : c.in-Some-split_first.first.now ∷ c.in-Some-split_first.behind.now ≡ tab ∷ c.args.names.now = sym cut ∙ is.1 spelled in
          let alike : c.in-Some-split_first.behind.now ≡ c.args.names.now = cc in
          c.eq.ensures ∙ same.1 alike),
    )
