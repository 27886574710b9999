-- The bit of a deque that was found dry.
use Rattle.std.proofs.Common.{◌≡◌, ℕ, ◌<◌, ◌*◌, ◌^◌, ◌%◌, ◌==◌, ◌||◌, bit_or, true, false, refl, sym, subst, w64, eq-eqb, ne_eqb}
use Rattle.std.specs.Int.{bit_at}
use Rattle.std.proofs.lemmas.Nat.Bits.{bit_at_set_same, bit_at_set_other}
use mathlib.Core.Logic.{dite}
use native.Mathlib.Decide.{ℕ_discrete}

pub marked : (dry deque k : ℕ) → deque < 64 → (bit_at (bit_or dry (1 * 2 ^ deque % 2 ^ 64)) k == 1) ≡ (k == deque || (bit_at dry k == 1))
marked dry deque k within = dite (ℕ_discrete k deque)
    (λ is.
    let here : bit_at (bit_or dry (1 * 2 ^ deque % 2 ^ 64)) k ≡ 1 = subst (λ (j : ℕ). bit_at (bit_or dry (1 * 2 ^ deque % 2 ^ 64)) j ≡ 1) (sym is) (bit_at_set_same w64 dry deque within) in
    let left : (bit_at (bit_or dry (1 * 2 ^ deque % 2 ^ 64)) k == 1) ≡ true = eq-eqb _ 1 here in
    let right : (k == deque) ≡ true = eq-eqb k deque is in rw (left, right) refl)
    (λ other.
    let there : bit_at (bit_or dry (1 * 2 ^ deque % 2 ^ 64)) k ≡ bit_at dry k = bit_at_set_other w64 dry deque within k other in
    let right : (k == deque) ≡ false = ne_eqb k deque other in rw (right, there) refl)
