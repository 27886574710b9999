use Rattle.std.proofs.Common.{inl, inr, sym, subst}
use Rattle.std.specs.List.{Contains}
use Rattle.std.proofs.lemmas.Bool.{iff_false}
use Rattle.pivot_partition.proofs.reading.least_output.Goals as goal

pub returns : goal.returns
returns c = λ p below.
    let is = c.least_of.ensures p below in (
      (λ low. let (rank, held, under) = is.0 low in inr (rank, subst (λ l. Contains l rank) c.outputs.ensures held, under)),
      (λ goes. elim goes [
        | inl silent ↦ absurd (iff_false c.has_bit.ensures c.if-has_bit.false silent)
        | inr (rank, held, under) ↦ is.1 (rank, subst (λ l. Contains l rank) (sym c.outputs.ensures) held, under)
      ]),
    )
