use Rattle.std.proofs.Common.{◌≡◌, ◌≤◌, ◌<◌, ◌+◌, arith, ap, sym, ◌∙◌, subst}
use Rattle.mine_model.specs.Text.{long_name, is_name_byte}
use Rattle.mine_model.specs.Tokens.{BeginsOtherwise}
use Rattle.text_ports.specs.Scanning.{IsCut, BeginsFaulty}
use Rattle.text_ports.proofs.ScanLemmas.{IsCut-none, IsCut-field, IsCut-long}
use Rattle.text_ports.proofs.scan.scan_field.Goals as goal

pub returns-then-end-at-clause-cut : goal.returns-then-end-at-clause-cut
returns-then-end-at-clause-cut c =
    let same = c.if-end-at.true in
    (c.name_end-end.ensures.within.0, subst (λ n. IsCut c.args.rest.now n c.args.spans.now.items) (sym same) (IsCut-none _ _ _ c.requires.scanned), c.name_end-end.ensures.stop)

pub returns-then-end-at-gt-MOST_NAME_BYTES-clause-long : goal.returns-then-end-at-gt-MOST_NAME_BYTES-clause-long
returns-then-end-at-gt-MOST_NAME_BYTES-clause-long c column is =
    let rises = c.name_end-end.ensures.within.0 in
    let long = c.if-end-at-gt-MOST_NAME_BYTES.true in
    let there : c.args.at + 255 + 1 ≡ column = cc in
    subst (BeginsFaulty c.args.rest.now long_name) there
    (IsCut-long c.args.rest.now c.args.at c.name_end-end.result c.args.spans.now.items c.requires.scanned (omega (arith, rises, long)) c.name_end-end.ensures.within.1 c.name_end-end.ensures.names
    (omega (arith, rises, long)) c.name_end-end.ensures.stop)

pub returns-in-Ok-clause-cut : goal.returns-in-Ok-clause-cut
returns-in-Ok-clause-cut c =
    let rises = c.name_end-end.ensures.within.0 in
    let apart = c.if-end-at.false in
    let few = c.if-end-at-gt-MOST_NAME_BYTES.false in (
      rises,
      IsCut-field c.args.rest.now c.args.at c.name_end-end.result c.args.spans.now.items c.requires.scanned (omega (arith, rises, apart)) c.name_end-end.ensures.within.1 c.name_end-end.ensures.names
          _ (omega (arith, rises, few)) c.in-Ok.ensures.items,
      c.name_end-end.ensures.stop,
    )
