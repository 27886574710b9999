-- Lines of bytes that are cut between lines.
use Rattle.std.proofs.Common.{◌≡◌, ℕ, ◌==◌, ◌<◌, ◌+◌, Bool, true, false, List, [], ◌∷◌, ◌++◌, map, length, take, drop, get_or, refl, sym, ap, ◌∙◌, append_assoc}
use Rattle.std.proofs.lemmas.List.{map-append, take_more, take-append-drop}
use Rattle.mine_model.specs.Bytes.{line_feed}
use Rattle.mine_model.specs.Text.{onto_first, pieces_by_feed, without_return}
use Rattle.text_ports.specs.Scanning.{lines_behind}

-- bytes that end with a line feed have a first piece
HasPiece : List ℕ → Type 0
HasPiece bytes = (piece : List ℕ) × (pieces : List (List ℕ)) × (pieces_by_feed bytes ≡ piece ∷ pieces)

some_piece-more : (b : ℕ) (bytes : List ℕ) (t : Bool) → (b == line_feed) ≡ t → HasPiece bytes → HasPiece (b ∷ bytes)
unfolding HasPiece
some_piece-more b bytes true e some = ([], pieces_by_feed bytes, rw e refl)
some_piece-more b bytes false e (piece, pieces, is) = (b ∷ piece, pieces, rw (e, is) refl)

some_piece : (front : List ℕ) → HasPiece (front ++ line_feed ∷ [])
unfolding HasPiece
some_piece [] = ([], [], refl)
some_piece (b ∷ front) = some_piece-more b (front ++ line_feed ∷ []) (b == line_feed) refl (some_piece front)

-- one byte more before both
pieces-append-more : (b : ℕ) (front rest whole : List ℕ) (t : Bool) → (b == line_feed) ≡ t → HasPiece front → pieces_by_feed whole ≡ pieces_by_feed front ++ pieces_by_feed rest
    → pieces_by_feed (b ∷ whole) ≡ pieces_by_feed (b ∷ front) ++ pieces_by_feed rest
unfolding HasPiece
pieces-append-more b front rest whole true e some same = rw e (ap (λ w. [] ∷ w) same)
pieces-append-more b front rest whole false e (piece, pieces, is) same =
    rw e (ap (onto_first b) (same ∙ ap (λ w. w ++ pieces_by_feed rest) is) ∙ ap (λ w. onto_first b w ++ pieces_by_feed rest) (sym is))

pieces-append : (front rest : List ℕ) → pieces_by_feed (front ++ line_feed ∷ rest) ≡ pieces_by_feed (front ++ line_feed ∷ []) ++ pieces_by_feed rest
pieces-append [] rest = refl
pieces-append (b ∷ front) rest =
    pieces-append-more b (front ++ line_feed ∷ []) rest (front ++ line_feed ∷ rest) (b == line_feed) refl (some_piece front) (pieces-append front rest)

-- bytes that end with a line feed, and others behind
pub lines_behind-append : (front rest : List ℕ) → lines_behind ((front ++ line_feed ∷ []) ++ rest) ≡ lines_behind (front ++ line_feed ∷ []) ++ lines_behind rest
lines_behind-append front rest =
    ap lines_behind (append_assoc front (line_feed ∷ []) rest) ∙ ap (map without_return) (pieces-append front rest)
    ∙ map-append without_return (pieces_by_feed (front ++ line_feed ∷ [])) (pieces_by_feed rest)

-- the lines before a place behind a line feed, and those behind it
pub lines_behind-cut : (bytes : List ℕ) (end : ℕ) → end < length bytes → get_or bytes end 0 ≡ line_feed
    → lines_behind bytes ≡ lines_behind (take (end + 1) bytes) ++ lines_behind (drop (end + 1) bytes)
lines_behind-cut bytes end within feed =
    let front : List ℕ = take end bytes in
    let rest : List ℕ = drop (end + 1) bytes in
    let cut : take (end + 1) bytes ≡ front ++ line_feed ∷ [] = take_more bytes end 0 within ∙ ap (λ b. front ++ b ∷ []) feed in
    let whole : bytes ≡ front ++ line_feed ∷ rest = sym (take-append-drop (end + 1) bytes) ∙ ap (λ w. w ++ rest) cut ∙ append_assoc front (line_feed ∷ []) rest in
    ap lines_behind (whole ∙ sym (append_assoc front (line_feed ∷ []) rest)) ∙ lines_behind-append front rest ∙ ap (λ w. lines_behind w ++ lines_behind rest) (sym cut)
