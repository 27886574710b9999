use Rattle.std.proofs.Common.{◌≡◌, ◌∙◌, Some, None, sym, subst, arith}
use Rattle.std.proofs.lemmas.Str.Pattern.{split_parts}
use Rattle.command_line.specs.Words.{IsNumber}
use Rattle.command_line.proofs.ShareTexts.{bytes-plain, share-cut, no-share, count-is}
use Rattle.command_line.proofs.share.read_share.Goals as goal

pub returns-in_err-index : goal.returns-in_err-index
returns-in_err-index c =
    rw c.from_residual.ensures
    (λ share is. no-share c.args.text.now (bytes-plain c.args.text.now (split_parts 47 c.args.text.now None c.in_err-index.ensures.cases (omega arith))) share is)

pub returns-in_err-of : goal.returns-in_err-of
returns-in_err-of c =
    let parts = split_parts 47 c.args.text.now (Some (c.in_ok-index.index, c.in_ok-index.of)) c.in_ok-index.ensures.cases (omega arith) in
    rw c.from_residual-in_err-of.ensures
    (λ share is.
    let cut = share-cut c.args.text.now c.in_ok-index.index.now c.in_ok-index.of.now share parts.0 (bytes-plain c.in_ok-index.index.now parts.1) is in
    c.in_err-of.ensures share.of (subst (λ t. IsNumber 1 64 t share.of) (cut.1 ∙ sym c.as_bytes.ensures.value) is.count))

pub returns-in_err-index-2 : goal.returns-in_err-index-2
returns-in_err-index-2 c =
    let parts = split_parts 47 c.args.text.now (Some (c.in_ok-index.index, c.in_ok-index.of)) c.in_ok-index.ensures.cases (omega arith) in
    rw c.from_residual-in_err-index-2.ensures
    (λ share is.
    let cut = share-cut c.args.text.now c.in_ok-index.index.now c.in_ok-index.of.now share parts.0 (bytes-plain c.in_ok-index.index.now parts.1) is in
    let count : IsNumber 1 64 c.as_bytes.result.now share.of = subst (λ t. IsNumber 1 64 t share.of) (cut.1 ∙ sym c.as_bytes.ensures.value) is.count in
    let of : share.of ≡ c.in_ok-of.of = count-is c.as_bytes.result.now 1 64 share.of c.in_ok-of.of count c.in_ok-of.ensures in
    c.in_err-index-2.ensures share.index
    (subst (λ most. IsNumber 1 most c.as_bytes-2.result.now share.index) of
    (subst (λ t. IsNumber 1 share.of t share.index) (cut.0 ∙ sym c.as_bytes-2.ensures.value) is.index)))
