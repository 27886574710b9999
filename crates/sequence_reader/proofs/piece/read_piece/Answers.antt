use Rattle.text_ports.specs.Scanning.{lines_behind}
use Rattle.sequence_reader.proofs.BehindLemmas.{piece_taken}
use Rattle.sequence_reader.proofs.piece.read_piece.Goals as goal

pub returns-in-Ok : goal.returns-in-Ok
returns-in-Ok c = piece_taken (lines_behind c.args.bytes.now) _ c.visit_lines.new.visitor c.requires.room c.in_ok-new.ensures c.new-3.ensures c.in-Ok.ensures.taken.0
