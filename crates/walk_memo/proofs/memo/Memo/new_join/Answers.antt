use Rattle.std.proofs.Common.{◌<◌, ℕ, length, subst, sym, rules, inl, inr}
use Rattle.state_bits.specs.Members.{Has}
use Rattle.walk_memo.proofs.memo.Memo.new_join.Goals as goal

pub number_of-requires : goal.number_of-requires
number_of-requires g c =
    let within : (q : ℕ) → Has c.with-joined.result q → q < length c.args.self.now.rows = λ q has. (elim ((c.with-joined.ensures q).0 has) [
      | inl had ↦ c.set.ensures.within q had
      | inr same ↦ subst (λ (s : ℕ). s < length c.args.self.now.rows) (sym same) c.requires.state
    ]) in
    let width = c.requires.width in
    search rules
