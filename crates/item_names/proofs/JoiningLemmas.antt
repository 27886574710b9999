-- Lemmas on the first names.
use Rattle.std.proofs.Common.{◌≡◌, ℕ, ◌+◌, ◌<◌, inl, inr, List, [], length, take, get_or, length-take, sym, ◌∙◌, subst, arith}
use Rattle.std.specs.List.{Contains}
use Rattle.std.proofs.lemmas.List.{take_more, get_or-take, take-append-drop, get_or_default}
use Rattle.std.proofs.lemmas.List.Elements.{Contains-append_left}
use Rattle.mine_model.specs.Names.{AreDistinct}
use Rattle.item_names.specs.Names.{IsInterned}

-- what is among the first is among all
pub Contains-front : {X : Type 0} (xs : List X) (n : ℕ) (x : X) → Contains (take n xs) x → Contains xs x
Contains-front xs n x inside = subst (λ w. Contains w x) (take-append-drop n xs) (Contains-append_left (take n xs) _ x inside)

-- where names differ, none is among those before it
not_before : (names : List (List ℕ)) (i : ℕ) → AreDistinct names → i < length names → Contains (take i names) (get_or names i []) → ⊥
not_before names i distinct within (k, below, is) =
    let size = length-take i names in
    let low : k < i = omega (arith, below, size, within) in
    let same : get_or names k [] ≡ get_or names i [] =
    sym (get_or-take i names k [] low) ∙ get_or_default (take i names) k [] (get_or names i []) below ∙ is in
    let one : k ≡ i = distinct k i (omega (arith, low, within)) within same in
    omega (arith, one, low)

-- with the next name, they are the first names and one more
pub first_more : (names new : List (List ℕ)) (i : ℕ) → AreDistinct names → i < length names → IsInterned (take i names) (get_or names i []) new → new ≡ take (i + 1) names
first_more names new i distinct within (inl held) = absurd (not_before names i distinct within held.0)
first_more names new i distinct within (inr more) = more.1 ∙ sym (take_more names i [] within)
