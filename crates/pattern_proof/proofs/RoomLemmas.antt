-- Room for paths.
use Rattle.std.proofs.Common.{◌≡◌, ℕ, ◌+◌, ◌*◌, ◌/◌, ◌≤◌, ◌<◌, subst, sym, arith}
use Rattle.std.proofs.Math.Nat.{mul-le-mul, mul-le-mul_right}

-- room for more is room for less
pub room-fits : (n most m longest w : ℕ) → n ≤ most → m ≤ longest → (n + 1) * (m + 1) * w ≤ (most + 1) * (longest + 1) * w
room-fits n most m longest w shorter fewer =
    mul-le-mul_right w (mul-le-mul {n₁ = n + 1} {m₁ = m + 1} {n₂ = most + 1} {m₂ = longest + 1} (omega (arith, shorter)) (omega (arith, fewer)))

-- a table for so many items has room where some of them are read without an output
pub words-within : (n m silents w long : ℕ) → silents + m ≡ n → (n + 1) * (m + 1) * w < 64 * long → (m + 1) * (silents + 1) * w / 64 + 1 ≤ long
words-within n m silents w long cut room =
    let cells : (m + 1) * (silents + 1) ≤ (m + 1) * (n + 1) = mul-le-mul {n₁ = m + 1} {m₁ = silents + 1} {n₂ = m + 1} {m₂ = n + 1} (omega arith) (omega (arith, cut)) in
    let bits : (m + 1) * (silents + 1) * w ≤ (m + 1) * (n + 1) * w = mul-le-mul_right w cells in
    let swapped : (m + 1) * (n + 1) ≡ (n + 1) * (m + 1) = grind arith in
    let room' : (m + 1) * (n + 1) * w < 64 * long = subst (λ k. k * w < 64 * long) (sym swapped) room in
    omega (arith, bits, room')
