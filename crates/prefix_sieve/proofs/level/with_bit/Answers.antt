use Rattle.std.proofs.Common.{ℕ, nat_eq, ap, sym, ◌∙◌, w64}
use Rattle.std.proofs.lemmas.Nat.Bits.{bit_at_set_same, bit_at_set_other}
use Rattle.prefix_sieve.proofs.level.with_bit.Goals as goal

pub returns-then-on-clause-here : goal.returns-then-on-clause-here
returns-then-on-clause-here c =
    ap (λ (bit : ℕ). nat_eq bit 1) (bit_at_set_same w64 c.args.word c.args.at c.requires.within) ∙ sym c.if-on.true

pub returns-then-on-clause-others : goal.returns-then-on-clause-others
returns-then-on-clause-others c = λ k apart. bit_at_set_other w64 c.args.word c.args.at c.requires.within k apart
