-- Elements of lists.
use Rattle.std.proofs.Common.{◌≡◌, ℕ, ◌+◌, ◌-◌, ◌≤◌, ◌<◌, Some, List, length, get_or, drop, sym, ap, ◌∙◌, arith}
use Rattle.std.specs.List.{slice_get, slice_range}
use Rattle.std.proofs.lemmas.Option.{slice_get_within, slice_get-get_or, get_or_from_slice_get}
use Rattle.std.proofs.lemmas.List.{length-take, length-drop, get_or-take, get_or-drop}

-- an element of a range
pub get-ranged : {X : Type 0} (xs : List X) (from end k : ℕ) (x : X) → end ≤ length xs → slice_get (slice_range xs from end) k ≡ Some x
    → (k < end - from) × (slice_get xs (from + k) ≡ Some x)
get-ranged xs from end k x within at =
    let inside : k < length (slice_range xs from end) = slice_get_within (slice_range xs from end) k x at in
    let less : k < end - from = omega (arith, inside, length-take (end - from) (drop from xs)) in
    let read : get_or (slice_range xs from end) k x ≡ get_or xs (from + k) x = get_or-take (end - from) (drop from xs) k x less ∙ get_or-drop from xs k x in
    (less, slice_get-get_or xs (from + k) x (omega arith) ∙ ap (λ y. Some y) (sym read ∙ get_or_from_slice_get (slice_range xs from end) k x x at))

pub ranged-get : {X : Type 0} (xs : List X) (from end k : ℕ) (x : X) → end ≤ length xs → k < end - from → slice_get xs (from + k) ≡ Some x
    → slice_get (slice_range xs from end) k ≡ Some x
ranged-get xs from end k x within less at =
    let long : length (slice_range xs from end) ≡ end - from =
    omega (arith, less, within, length-take (end - from) (drop from xs), length-drop from xs) in
    let read : get_or (slice_range xs from end) k x ≡ get_or xs (from + k) x = get_or-take (end - from) (drop from xs) k x less ∙ get_or-drop from xs k x in
    slice_get-get_or (slice_range xs from end) k x (omega (arith, less, long)) ∙ ap (λ y. Some y) (read ∙ get_or_from_slice_get xs (from + k) x x at)
