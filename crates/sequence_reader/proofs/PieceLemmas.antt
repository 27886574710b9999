-- What threads read of pieces.
use Rattle.std.proofs.Common.{◌≡◌, ℕ, Bool, List, [], ◌∷◌, map, Result, Ok, Err, IfOk, subst}
use Rattle.std.specs.Borrow.{Bor}
use Rattle.std.specs.List.{AllZip, Contains}
use Rattle.std.specs.Global.{Vec}
use Rattle.std.specs.Result.{MatchResult}
use Rattle.text_ports.specs.Scanning.{lines_behind}
use Rattle.sequence_reader.specs.declared.reading.Reading.{Reading}
use Rattle.sequence_reader.specs.declared.sequence_fault.SequenceFault.{SequenceFault}
use Rattle.sequence_reader.specs.Taking.{behind, IsTaken}

module _ (known : List (List ℕ)) (weighted : Bool) where
  of_parts : (pieces : List (Bor (List ℕ))) (parts : List Reading)
      → AllZip (λ (piece : Bor (List ℕ)) (answer : Result Reading SequenceFault). IfOk answer (λ reading. IsTaken known weighted (lines_behind piece.now) (behind known reading))) pieces (map Ok parts)
      → AllZip (λ piece reading. IsTaken known weighted (lines_behind piece.now) (behind known reading)) pieces parts
  of_parts [] [] zip = zip
  of_parts [] (part ∷ parts) zip = zip
  of_parts (piece ∷ pieces) [] zip = zip
  of_parts (piece ∷ pieces) (part ∷ parts) zip = (zip.0, of_parts pieces parts zip.1)

  -- where each answer is a reading of its piece, those that were collected are
  pub of_answers : (pieces : List (Bor (List ℕ))) (answers : List (Result Reading SequenceFault)) (collected : Result (Vec Reading) SequenceFault)
      → AllZip (λ (piece : Bor (List ℕ)) (answer : Result Reading SequenceFault). IfOk answer (λ reading. IsTaken known weighted (lines_behind piece.now) (behind known reading))) pieces answers
      → MatchResult collected (λ v. (parts : List Reading) × (answers ≡ map Ok parts) × (v.items ≡ parts)) (λ e. Contains answers (Err e))
      → IfOk collected (λ readings. AllZip (λ piece reading. IsTaken known weighted (lines_behind piece.now) (behind known reading)) pieces readings.items)
  of_answers pieces answers (Err e) zip from = tt
  of_answers pieces answers (Ok v) zip (parts, same, is) =
      rw is (of_parts pieces parts
      (subst (λ xs. AllZip (λ (piece : Bor (List ℕ)) (answer : Result Reading SequenceFault). IfOk answer (λ reading. IsTaken known weighted (lines_behind piece.now) (behind known reading))) pieces xs) same zip))
