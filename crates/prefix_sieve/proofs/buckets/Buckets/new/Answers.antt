use Rattle.std.proofs.Common.{◌≡◌, ℕ, ◌+◌, ◌-◌, ◌^◌, length, subst, arith, rules}
use Rattle.prefix_sieve.proofs.buckets.Buckets.new.Goals as goal

pub invariant_of-result : goal.invariant_of-result
invariant_of-result c =
    let back : c.args.bits ≡ c.args.bits - 6 + 6 = omega (arith, c.requires.least) in
    let whole : length c.in_ok-vec.field-0.items ≡ 2 ^ c.args.bits = search rules in
    (c.args.bits - 6, subst (λ (bits : ℕ). length c.in_ok-vec.field-0.items ≡ 2 ^ bits) back whole)
