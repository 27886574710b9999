-- What a sink tells after several pieces.
use Rattle.std.proofs.Common.{◌≡◌, ℕ, ◌+◌, ◌-◌, ◌≤◌, ◌++◌, Option, Some, None, IfSome, List, length, take, drop, min, sym, ap, ◌∙◌, arith, append_assoc, length-drop, length-take}
use Rattle.std.proofs.Math.Seq.{take-add}
use Rattle.std.proofs.lemmas.List.{take-take}

-- after one text and then another, both in a row were written
pub told_then : (before between after : Option (List ℕ)) (x y z : List ℕ)
    → IfSome before (λ b. between ≡ Some (b ++ x)) → IfSome between (λ b. after ≡ Some (b ++ y)) → x ++ y ≡ z
    → IfSome before (λ b. after ≡ Some (b ++ z))
told_then None between after x y z p q e = tt
told_then (Some b) between after x y z p q e =
    let q' : after ≡ Some ((b ++ x) ++ y) = rw p at q in
    q' ∙ ap Some (append_assoc b x y ∙ ap (λ w. b ++ w) e)

-- the first n bytes of the piece from a to e stand in the text
pub piece_within : (xs : List ℕ) (a e n : ℕ) → e ≤ length xs → a ≤ e → n ≤ length (take (e - a) (drop a xs)) → a + n ≤ e
piece_within xs a e n end start fits =
    let m : length (take (e - a) (drop a xs)) ≡ min (e - a) (length xs - a) = simp (length-take, length-drop) in
    omega (arith, m)

-- and go on where the first a bytes end
pub piece_joins : (xs : List ℕ) (a e n : ℕ) → n ≤ e - a → take a xs ++ take n (take (e - a) (drop a xs)) ≡ take (a + n) xs
piece_joins xs a e n fits = rw (take-take n (e - a) (drop a xs) fits) (sym (take-add a n xs))
