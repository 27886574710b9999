-- Texts that are made piece by piece.
use Rattle.std.proofs.Common.{◌≡◌, ℕ, ◌+◌, ◌-◌, ◌≤◌, ◌<◌, List, [], ◌∷◌, ◌++◌, length, map, take, drop, get_or, sym, ap, ◌∙◌, append_assoc, arith}
use Rattle.std.specs.List.{flat_map, join_with_byte}
use Rattle.std.proofs.Math.Seq.{take-add}
use Rattle.std.proofs.lemmas.Grind.{flat_map-append}
use Rattle.std.proofs.lemmas.List.Folds.{flat_map-map}
use Rattle.std.proofs.lemmas.List.{append-nil, take_more, flat_map_more, take-append-drop, drop_all, length-drop}
use borrow.Rule.Slice.PartMut.{put_mid}

-- joined pieces are the first, and each other behind the byte
pub join-flat_map : (c : ℕ) (piece : List ℕ) (pieces : List (List ℕ))
    → piece ++ flat_map (λ other. c ∷ other) pieces ≡ join_with_byte c (piece ∷ pieces)
join-flat_map c piece [] = append-nil piece
join-flat_map c piece (other ∷ pieces) = ap (λ rest. piece ++ (c ∷ rest)) (join-flat_map c other pieces)

-- the names of items, joined, behind a front
pub joined_names : {X : Type 0} (c : ℕ) (name : X → List ℕ) (front : List ℕ) (items : List X) (first : X) (others : List X) → items ≡ first ∷ others
    → (front ++ name first) ++ flat_map (λ item. c ∷ name item) others ≡ front ++ join_with_byte c (map name items)
joined_names c name front items first others is =
    append_assoc front (name first) (flat_map (λ item. c ∷ name item) others)
    ∙ ap (λ w. front ++ w)
    (ap (λ w. name first ++ w) (sym (flat_map-map (λ other. c ∷ other) name others))
    ∙ join-flat_map c (name first) (map name others) ∙ ap (λ xs. join_with_byte c (map name xs)) (sym is))

-- one piece more, at the next place
pub one_more : {X : Type 0} (f : X → List ℕ) (xs : List X) (i : ℕ) (d : X) (front : List ℕ) → i < length xs
    → (front ++ flat_map f (take i xs)) ++ f (get_or xs i d) ≡ front ++ flat_map f (take (i + 1) xs)
one_more f xs i d front within =
    flat_map_more f front (take i xs) (get_or xs i d) ∙ ap (λ ys. front ++ flat_map f ys) (sym (take_more xs i d within))

-- the pieces of the first elements and those of the others
pub all_of_both : {X : Type 0} (f : X → List ℕ) (xs : List X) (n : ℕ) (front : List ℕ)
    → (front ++ flat_map f (take n xs)) ++ flat_map f (drop n xs) ≡ front ++ flat_map f xs
all_of_both f xs n front =
    append_assoc front (flat_map f (take n xs)) (flat_map f (drop n xs))
    ∙ ap (λ w. front ++ w) (sym (flat_map-append f (take n xs) (drop n xs)) ∙ ap (flat_map f) (take-append-drop n xs))

-- the bytes up to here, and those from here
pub both_parts : (front bytes : List ℕ) (at : ℕ) → (front ++ take at bytes) ++ drop at bytes ≡ front ++ bytes
both_parts front bytes at = append_assoc front (take at bytes) (drop at bytes) ∙ ap (λ w. front ++ w) (take-append-drop at bytes)

-- the bytes up to here, and the next ones
pub next_part : (front bytes : List ℕ) (at n : ℕ)
    → (front ++ take at bytes) ++ take n (drop at bytes) ≡ front ++ take (at + n) bytes
next_part front bytes at n = append_assoc front (take at bytes) (take n (drop at bytes)) ∙ ap (λ w. front ++ w) (sym (take-add at n bytes))

-- a part that was written up to the end
pub written_to_end : (held : ℕ) (room piece : List ℕ) → put_mid held (length room - held) room piece ≡ take held room ++ piece
written_to_end held room piece =
    ap (λ w. take held room ++ (piece ++ w)) (drop_all (length room - held) (drop held room) (omega (arith, length-drop held room)))
    ∙ ap (λ w. take held room ++ w) (append-nil piece)
