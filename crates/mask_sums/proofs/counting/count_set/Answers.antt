use Rattle.std.proofs.Common.{◌≡◌, ℕ, refl, subst}
use Rattle.state_bits.specs.Members.{Has}
use Rattle.state_bits.proofs.NeighbourLemmas.{Has-none}
use Rattle.mask_sums.proofs.counting.count_set.Goals as goal

pub returns-then-is_empty : goal.returns-then-is_empty
returns-then-is_empty c =
    let none : c.args.set.now ≡ 0 = c.is_empty.ensures.0 c.if-is_empty.true in
    record {
      members = λ rank few has. absurd (Has-none rank (subst (λ (n : ℕ). Has n rank) none has));
      others = λ rank lacks. refl;
    }
