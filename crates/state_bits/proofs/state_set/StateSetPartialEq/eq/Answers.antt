use Rattle.std.proofs.Common.{ap, sym, ◌∙◌, inl, inr, eq-eqb}
use Rattle.std.proofs.lemmas.Bool.{cases_Bool, ne_eqb, both_ways}
use Rattle.state_bits.specs.Words.{joined}
use Rattle.state_bits.proofs.WordLemmas.{same_words}
use Rattle.state_bits.proofs.state_set.StateSetPartialEq.eq.Goals as goal
use lib.Pointwise.{bytes_decides}

pub returns : goal.returns
returns g c =
    let decides = bytes_decides c.self.inside.words c.other.inside.words in
    rw (← c.self.view_is, ← c.other.view_is, c.eq.ensures)
    (elim (cases_Bool c.eq.result) [
      | inl same_rows ↦ sym c.eq.ensures ∙ (same_rows ∙ sym (eq-eqb (joined c.self.inside.words) (joined c.other.inside.words) (ap joined (decides.0 (sym c.eq.ensures ∙ same_rows)))))
      | inr other_rows ↦ sym c.eq.ensures ∙ (other_rows ∙ sym (ne_eqb (joined c.self.inside.words) (joined c.other.inside.words)
          (λ same. both_ways _ (sym c.eq.ensures ∙ other_rows) (decides.1 (same_words g.row.W c.self.inside.words c.other.inside.words c.self.invariant c.other.invariant same)))))
    ])
