use Rattle.std.proofs.Common.{ℕ, List, Result, IfOk, ◌∙◌}
use Rattle.std.specs.Borrow.{Bor}
use Rattle.rayon.proofs.ToStd.{slice-AllZip}
use Rattle.text_ports.specs.Scanning.{lines_behind}
use Rattle.sequence_reader.specs.declared.reading.Reading.{Reading}
use Rattle.sequence_reader.specs.declared.sequence_fault.SequenceFault.{SequenceFault}
use Rattle.sequence_reader.specs.Taking.{behind, IsTaken}
use Rattle.sequence_reader.proofs.PieceLemmas.{of_answers}
use Rattle.sequence_reader.proofs.pieces.read_pieces.Goals as goal

pub returns-in-Ok : goal.returns-in-Ok
returns-in-Ok g c =
    let chain = rw (c.map.ensures.base, c.map.ensures.f, c.with_min_len.ensures.base) at c.in-Ok.ensures.1 in
    of_answers c.args.known.now c.args.weighted c.args.pieces.now c.in-Ok.ensures.0 c.in-Ok.readings
    (slice-AllZip chain.0 c.args.pieces.now (chain.1 ∙ c.par_iter.ensures)
    (λ (piece : Bor (List ℕ)) (answer : Result Reading SequenceFault). IfOk answer (λ reading. IsTaken c.args.known.now c.args.weighted (lines_behind piece.now) (behind c.args.known.now reading))) c.in-Ok.ensures.0 chain.2)
    c.in-Ok.ensures.2
