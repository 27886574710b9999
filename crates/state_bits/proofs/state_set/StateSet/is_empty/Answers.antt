use Rattle.std.proofs.Common.{length, inl, inr}
use Rattle.std.proofs.lemmas.Bool.{cases_lt}
use Rattle.std.proofs.lemmas.List.{get_or_past}
use Rattle.state_bits.proofs.WordLemmas.{joined-zero, joined-some}
use Rattle.state_bits.proofs.state_set.StateSet.is_empty.Goals as goal

pub returns : goal.returns
returns g c =
    rw (← c.self.view_is) (
      (λ yes. joined-zero c.self.inside.words (λ k. elim (cases_lt k (length c.self.inside.words)) [
        | inl inside ↦ c.are_zero.ensures.0 yes k inside
        | inr outside ↦ get_or_past c.self.inside.words k 0 outside
      ])),
      (λ empty. c.are_zero.ensures.1 (λ k _. joined-some c.self.inside.words empty k)),
    )
