-- Names behind known ones.
use Rattle.std.proofs.Common.{◌≡◌, ℕ, ◌+◌, ◌≤◌, Some, List, [], ◌∷◌, ◌++◌, length, slice_get, inl, inr, refl, sym, ap, ◌∙◌, subst, arith, append_assoc, length-append}
use Rattle.std.specs.List.{Contains}
use Rattle.std.proofs.lemmas.List.{append-nil, get_or_append_left, get_or-append-add}
use Rattle.std.proofs.lemmas.List.Elements.{Contains-append_left, Contains-append_right, Contains-append_cases}
use Rattle.std.proofs.lemmas.Option.{slice_get_within, slice_get_read, get_or_from_slice_get}
use Rattle.mine_model.specs.Limits.{most_items}
use Rattle.mine_model.specs.Names.{GrowBy}
use Rattle.text_ports.specs.Lines.{WasGiven, TookAll}
use Rattle.sequence_reader.specs.declared.piece.Piece.{Piece}
use Rattle.sequence_reader.specs.Taking.{behind, TookLine, TookPieceLine, IsTaken}
use Rattle.sequence_reader.proofs.TakingLemmas.{IsTaken-start, more_taken}

-- a known name keeps its number
pub known_number : (known own : List (List ℕ)) (i : ℕ) (name : List ℕ) → slice_get known i ≡ Some name → slice_get (known ++ own) i ≡ Some name
known_number known own i name is =
    let within = slice_get_within known i name is in
    let size = length-append known own in
    slice_get_read (known ++ own) (length (known ++ own)) i name refl (omega (arith, within, size))
    (sym (get_or_append_left known own name i within ∙ get_or_from_slice_get known i name name is))

-- a name with a number is among the names
pub held_at : (names : List (List ℕ)) (i : ℕ) (name : List ℕ) → slice_get names i ≡ Some name → Contains names name
held_at names i name is = (i, slice_get_within names i name is, get_or_from_slice_get names i name name is)

-- the numbers of the others begin behind them
pub own_number : (known own : List (List ℕ)) (i : ℕ) (name : List ℕ) → slice_get own i ≡ Some name → slice_get (known ++ own) (length known + i) ≡ Some name
own_number known own i name is =
    let within = slice_get_within own i name is in
    let size = length-append known own in
    slice_get_read (known ++ own) (length (known ++ own)) (length known + i) name refl (omega (arith, within, size))
    (sym (get_or-append-add known own i name ∙ get_or_from_slice_get own i name name is))

-- names grow behind known ones as they grow alone
pub GrowBy-behind : (known old names new : List (List ℕ)) → GrowBy old names new → GrowBy (known ++ old) names (known ++ new)
GrowBy-behind known old names new grown = record {
  added = grown.added;
  behind = ap (λ w. known ++ w) grown.behind ∙ sym (append_assoc known old grown.added);
  exact = λ name. (λ inside. forth name inside, λ inside. back name inside);
}
  where
    forth : (name : List ℕ) → Contains (known ++ new) name → Contains ((known ++ old) ++ names) name
    forth name inside = elim (Contains-append_cases known new name inside) [
      | inl here ↦ Contains-append_left (known ++ old) names name (Contains-append_left known old name here)
      | inr there ↦ elim (Contains-append_cases old names name ((grown.exact name).0 there)) [
        | inl before ↦ Contains-append_left (known ++ old) names name (Contains-append_right known old name before)
        | inr met ↦ Contains-append_right (known ++ old) names name met
      ]
    ]

    back : (name : List ℕ) → Contains ((known ++ old) ++ names) name → Contains (known ++ new) name
    back name inside = elim (Contains-append_cases (known ++ old) names name inside) [
      | inl here ↦ elim (Contains-append_cases known old name here) [
        | inl first ↦ Contains-append_left known new name first
        | inr before ↦ Contains-append_right known new name ((grown.exact name).1 (Contains-append_left old names name before))
      ]
      | inr met ↦ Contains-append_right known new name ((grown.exact name).1 (Contains-append_right old names name met))
    ]

-- What was read of a piece

-- lines that a piece was given became sequences by the known names and its own
given : (n : ℕ) (lines : List (List ℕ)) (v w : Piece) → WasGiven TookPieceLine n lines v w
    → WasGiven TookLine n lines (behind v.known.now v.own) (behind v.known.now w.own)
given n [] v w same = ap (λ (p : Piece). behind v.known.now p.own) same
given n (text ∷ lines) v w (between, took, later) =
    (behind v.known.now between.own, took.took, subst (λ known. WasGiven TookLine (n + 1) lines (behind known.now between.own) (behind known.now w.own)) took.known (given (n + 1) lines between w later))

pub piece_taken : (lines : List (List ℕ)) (v w : Piece) → length v.known.now ≤ most_items → v.own.names ≡ [] → v.own.db ≡ []
    → TookAll TookPieceLine lines v w → IsTaken v.known.now v.own.weighted lines (behind v.known.now w.own)
piece_taken lines v w room new empty took =
    let all : v.known.now ++ v.own.names ≡ v.known.now = ap (λ names. v.known.now ++ names) new ∙ append-nil v.known.now in
    let taken : IsTaken (v.known.now ++ v.own.names) v.own.weighted lines (behind v.known.now w.own) =
    more_taken (v.known.now ++ v.own.names) v.own.weighted [] (behind v.known.now v.own) (behind v.known.now w.own)
    (IsTaken-start (behind v.known.now v.own) (subst (λ names. length names ≤ most_items) (sym all) room) empty) lines
    (record { sound = took.sound; given = given 1 lines v w took.given }) in
    subst (λ names. IsTaken names v.own.weighted lines (behind v.known.now w.own)) all taken
