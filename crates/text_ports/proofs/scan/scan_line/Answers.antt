use Rattle.std.proofs.Common.{◌≡◌, ◌≤◌, ◌<◌, ◌+◌, arith, ap, sym, ◌∙◌, subst}
use Rattle.mine_model.specs.Text.{bad_byte}
use Rattle.text_ports.specs.Scanning.{BeginsFaulty}
use Rattle.text_ports.proofs.ScanLemmas.{IsScanned-blank, AreFields-cut, IsSoundLine-cut, lines_behind-cut, BeginsFaulty-bad}
use Rattle.text_ports.proofs.scan.scan_line.Goals as goal

pub loop-end-preserved : goal.loop-end-preserved
loop-end-preserved c =
    let (b, is, blank, within) = c.in-Blank.ensures in
    IsScanned-blank c.args.rest.now c.in_ok-end.end c.scan_field.new.spans.items c.in_ok-end.ensures.cut.1 b is blank within

pub returns-in-LineEnd-clause-lines : goal.returns-in-LineEnd-clause-lines
returns-in-LineEnd-clause-lines c =
    lines_behind-cut c.args.rest.now c.in_ok-end.end c.scan_field.new.spans.items c.in_ok-end.ensures.cut.1 c.in-LineEnd.next c.requires.some c.in-LineEnd.ensures.0

pub returns-in-LineEnd-clause-fields : goal.returns-in-LineEnd-clause-fields
returns-in-LineEnd-clause-fields c = AreFields-cut c.args.rest.now c.in_ok-end.end c.scan_field.new.spans.items c.in_ok-end.ensures.cut.1

pub returns-in-LineEnd-clause-sound : goal.returns-in-LineEnd-clause-sound
returns-in-LineEnd-clause-sound c = IsSoundLine-cut c.args.rest.now c.in_ok-end.end c.scan_field.new.spans.items c.in_ok-end.ensures.cut.1

pub returns-in-BadByte-clause-bad : goal.returns-in-BadByte-clause-bad
returns-in-BadByte-clause-bad c column is =
    let there : c.in_ok-end.end + 1 ≡ column = cc in
    subst (BeginsFaulty c.args.rest.now bad_byte) there
    (BeginsFaulty-bad c.args.rest.now c.in_ok-end.end c.scan_field.new.spans.items c.in_ok-end.ensures.cut.1 c.in-BadByte.ensures.0)
