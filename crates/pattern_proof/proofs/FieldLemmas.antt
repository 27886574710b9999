-- Fields of lines are names of files.
use Rattle.std.proofs.Common.{◌≢◌, ℕ, ◌⊎◌, inl, inr, Bool, true, false, List, [], ◌∷◌, Contains}
use Rattle.std.specs.List.{AllByRecursion}
use Rattle.mine_model.specs.Names.{AreDistinct, IsFileName}
use Rattle.mine_model.specs.Refusal.{names_of, sequence_of, sequences_of_lines, sequences_of, items_of}
use Rattle.mine_model.specs.Text.{is_name_byte, fields_of, lines_of}
use Rattle.mine_model.specs.Tokens.{Each}
use Rattle.mine_model.proofs.ListLemmas.{AllByRecursion-from, AllByRecursion-contained, AllByRecursion-weaker, of_both}
use Rattle.mine_model.proofs.FieldLemmas.{fields-named}
use Rattle.pattern_proof.specs.ProofLines.{AreFileNames}

lines-named : (lines : List (List ℕ)) → AllByRecursion IsFileName (names_of lines)
lines-named [] = tt
lines-named (line ∷ lines) = of_both IsFileName (fields_of line) (names_of lines) (fields-named line) (lines-named lines)

sequence-named : (weighted : Bool) (fields : List (List ℕ)) → AllByRecursion IsFileName fields → AllByRecursion IsFileName (sequence_of weighted fields).items
sequence-named false fields all = all
sequence-named true [] all = tt
sequence-named true (digits ∷ items) all = all.1

sequences-named : (weighted : Bool) (lines : List (List ℕ)) → AllByRecursion IsFileName (items_of (sequences_of_lines weighted lines))
sequences-named weighted [] = tt
sequences-named weighted (line ∷ lines) =
    of_both IsFileName (sequence_of weighted (fields_of line)).items (items_of (sequences_of_lines weighted lines)) (sequence-named weighted (fields_of line) (fields-named line)) (sequences-named weighted lines)

pub file-names : (names : List (List ℕ)) → AreDistinct names → (lines : List (List ℕ)) (weighted : Bool) (bytes : List ℕ)
    → ((name : List ℕ) → Contains names name → Contains (names_of lines) name ⊎ Contains (items_of (sequences_of weighted bytes)) name) → AreFileNames names
file-names names distinct lines weighted bytes from =
    let all : AllByRecursion IsFileName names = AllByRecursion-from IsFileName names (λ name held. elim (from name held) [
      | inl there ↦ AllByRecursion-contained IsFileName (names_of lines) name (lines-named lines) there
      | inr there ↦ AllByRecursion-contained IsFileName (items_of (sequences_of weighted bytes)) name (sequences-named weighted (lines_of bytes)) there
    ]) in
    record {
      distinct = distinct;
      some = AllByRecursion-weaker IsFileName (λ name. name ≢ []) (λ name is. is.0) names all;
      bytes = AllByRecursion-weaker IsFileName (Each is_name_byte true) (λ name is. is.1) names all;
    }
