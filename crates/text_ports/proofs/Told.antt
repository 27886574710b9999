-- What a file tells while it is read.
use Rattle.std.proofs.Common.{◌≡◌, subst, ℕ, ◌++◌, Option, Some, None, IfSome, ◌<◌, ◌↔◌, List, [], take, drop, length, refl, sym, ap, ◌∙◌, append_assoc, length-append, arith}
use Rattle.std.proofs.lemmas.List.{take-append-drop, append-nil}
use Rattle.text_ports.specs.Lines.{WereRead}

-- Of the bytes that a file holds these were read, and the rest is left.
pub IsReadTo : Option (List ℕ) → Option (List ℕ) → List ℕ → Type 0
IsReadTo holds left read = IfSome holds (λ bytes. (rest : List ℕ) × (left ≡ Some rest) × (bytes ≡ read ++ rest))

pub IsReadTo-start : (holds left : Option (List ℕ)) → left ≡ holds → IsReadTo holds left []
unfolding IsReadTo
IsReadTo-start None left e = tt
IsReadTo-start (Some bytes) left e = (bytes, e, refl)

pub IsReadTo-more : (holds left after : Option (List ℕ)) (read piece : List ℕ) (n : ℕ)
    → IsReadTo holds left read
    → IfSome left (λ bytes. piece ≡ take n bytes) → IfSome left (λ bytes. after ≡ Some (drop n bytes))
    → IsReadTo holds after (read ++ piece)
unfolding IsReadTo
IsReadTo-more None left after read piece n p q r = tt
IsReadTo-more (Some bytes) left after read piece n (rest, is, whole) q r =
    let q' : piece ≡ take n rest = rw is at q in
    let r' : after ≡ Some (drop n rest) = rw is at r in
    (drop n rest, r', whole ∙ ap (λ w. read ++ w) (sym (take-append-drop n rest)) ∙ sym (append_assoc read (take n rest) (drop n rest)) ∙ ap (λ w. (read ++ w) ++ drop n rest) (sym q'))

pub IsReadTo-end : (holds left : Option (List ℕ)) (read : List ℕ) (n : ℕ)
    → IsReadTo holds left read → IfSome left (λ bytes. (n ≡ 0) ↔ (bytes ≡ [])) → n ≡ 0 → IfSome holds (λ bytes. read ≡ bytes)
unfolding IsReadTo
IsReadTo-end None left read n p q e = tt
IsReadTo-end (Some bytes) left read n (rest, is, whole) q e =
    let q' : (n ≡ 0) ↔ (rest ≡ []) = rw is at q in
    let none : rest ≡ [] = q'.0 e in
    sym (whole ∙ ap (λ w. read ++ w) none ∙ append-nil read)

pub IsReadTo-length : (holds left : Option (List ℕ)) (read : List ℕ) (limit : ℕ)
    → IsReadTo holds left read → limit < length read → IfSome holds (λ bytes. limit < length bytes)
unfolding IsReadTo
IsReadTo-length None left read limit p over = tt
IsReadTo-length (Some bytes) left read limit (rest, is, whole) over = rw (whole, length-append) (omega arith)

-- what holds of the bytes that were read holds of those that are told
pub of_told : (told : Option (List ℕ)) (P : List ℕ → Type 0) (bytes : List ℕ) → WereRead told bytes → P bytes → IfSome told P
of_told None P bytes read p = tt
of_told (Some held) P bytes read p = subst P read.same p
