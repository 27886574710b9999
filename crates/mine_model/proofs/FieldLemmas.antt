-- The fields of a line are names of a file.
use Rattle.std.proofs.Common.{◌≡◌, ℕ, ◌+◌, Bool, true, false, if◌then◌else◌, List, [], ◌∷◌, map, length, refl}
use Rattle.std.specs.List.{AllByRecursion}
use Rattle.mine_model.specs.Names.{IsFileName}
use Rattle.mine_model.specs.Text.{is_name_byte, pieces_by_blank, onto_first, Field, fields_from, fields_of}
use Rattle.mine_model.specs.Tokens.{Each}

onto-named : (b : ℕ) (pieces : List (List ℕ)) → is_name_byte b ≡ true → AllByRecursion (Each is_name_byte true) pieces → AllByRecursion (Each is_name_byte true) (onto_first b pieces)
onto-named b [] is all = ((is, tt), tt)
onto-named b (piece ∷ pieces) is all = ((is, all.0), all.1)

-- pieces are of name bytes alone
pub pieces-named : (bytes : List ℕ) → AllByRecursion (Each is_name_byte true) (pieces_by_blank bytes)
pieces-named [] = (tt, tt)
pieces-named (b ∷ bytes) = by (is_name_byte b) refl (pieces-named bytes)
  where
    by : (named : Bool) → is_name_byte b ≡ named → AllByRecursion (Each is_name_byte true) (pieces_by_blank bytes)
        → AllByRecursion (Each is_name_byte true) (if named then onto_first b (pieces_by_blank bytes) else [] ∷ pieces_by_blank bytes)
    by true is all = onto-named b (pieces_by_blank bytes) is all
    by false is all = (tt, all)

pub texts-named : (column : ℕ) (pieces : List (List ℕ)) → AllByRecursion (Each is_name_byte true) pieces → AllByRecursion IsFileName (map (λ (field : Field). field.text) (fields_from column pieces))
texts-named column [] all = tt
texts-named column ([] ∷ pieces) all = texts-named (column + 1) pieces all.1
texts-named column ((b ∷ bytes) ∷ pieces) all = (((λ none. (cc)), all.0), texts-named (column + length (b ∷ bytes) + 1) pieces all.1)

-- each field of a line is a name
pub fields-named : (line : List ℕ) → AllByRecursion IsFileName (fields_of line)
fields-named line = texts-named 1 (pieces_by_blank line) (pieces-named line)
