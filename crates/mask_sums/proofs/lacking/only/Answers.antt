use Rattle.std.proofs.Common.{ℕ, inl, inr, true≢false, arith, sym, subst, ◌∙◌}
use Rattle.state_bits.specs.Members.{Has}
use Rattle.state_bits.proofs.NeighbourLemmas.{Has-none}
use Rattle.mask_sums.proofs.lacking.only.Goals.{else-rank-lt256-via-then-rank-lt256+else-has, else-rank-lt256-via-else-rank-lt256}
use Rattle.mask_sums.proofs.lacking.only.Goals as goal

pub returns-then-has : goal.returns-then-has
returns-then-has c member = (
  (λ has. elim ((c.add.ensures member).0 has) [
    | inl had ↦ absurd (Has-none member (subst (λ (set : ℕ). Has set member) c.new-found.ensures had))
    | inr same ↦ (subst (Has c.args.set.now) (sym same) (c.has.ensures.0 c.if-has.true), same)
  ]),
  (λ (has, same). (c.add.ensures member).1 (inr same)),
)

pub returns-else-rank-lt256 : goal.returns-else-rank-lt256
returns-else-rank-lt256 c member = (
  (λ has. absurd (Has-none member (subst (λ (set : ℕ). Has set member) c.new-found.ensures has))),
  (λ (has, same). elim c.else-rank-lt256.branch [
    | else-rank-lt256-via-then-rank-lt256+else-has w ↦ absurd (true≢false (sym (w.has.ensures.1 (subst (Has c.args.set.now) same has)) ∙ w.if-has.false))
    | else-rank-lt256-via-else-rank-lt256 w ↦ let past = w.if-rank-lt256.false in let few = c.requires.few member has in absurd (omega arith)
  ]),
)
