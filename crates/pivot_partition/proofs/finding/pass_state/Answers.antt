use Rattle.std.proofs.Common.{◌≤◌, ◌<◌, inl, inr, length, sym, subst, arith}
use Rattle.std.specs.List.{All, Contains}
use Rattle.pivot_partition.proofs.finding.pass_state.Goals as goal

pub returns-then-top-eq-NONE-clause-found : goal.returns-then-top-eq-NONE-clause-found
returns-then-top-eq-NONE-clause-found c = λ rank below. (
  (λ held. inl held),
  (λ either. elim either [
    | inl held ↦ held
    | inr (low, under, out) ↦ absurd (omega (arith, low, below, c.if-top-eq-NONE.true))
  ]),
)

pub returns-then-top-eq-NONE-clause-least : goal.returns-then-top-eq-NONE-clause-least
returns-then-top-eq-NONE-clause-least c = λ p below. (
  (λ low. absurd (omega (arith, low, below))),
  (λ (goes, low). absurd (omega (arith, low, below, c.if-top-eq-NONE.true))),
)

pub mark_from-requires-clause-within : goal.mark_from-requires-clause-within
mark_from-requires-clause-within c = subst (λ l. All (λ rank. rank < length c.args.marks.now) l) (sym c.outputs.ensures) c.requires.within

pub returns-clause-found : goal.returns-clause-found
returns-clause-found c = λ rank below.
    let is = c.in_ok-mark_from.ensures.found rank in (
      (λ held. elim (is.0 held) [
        | inl old ↦ inl old
        | inr (out, high) ↦ inr (omega (arith, high, c.max.ensures), omega (arith, high, c.max.ensures), subst (λ l. Contains l rank) c.outputs.ensures out)
      ]),
      (λ either. elim either [
        | inl old ↦ is.1 (inl old)
        | inr (low, under, out) ↦ is.1 (inr (subst (λ l. Contains l rank) (sym c.outputs.ensures) out, omega (arith, low, under, c.max.ensures)))
      ]),
    )

pub returns-clause-least : goal.returns-clause-least
returns-clause-least c = λ p below.
    let is = c.least_output.ensures p below in (
      (λ low. (is.0 (omega (arith, low, c.max-2.ensures)), omega (arith, low, c.max-2.ensures))),
      (λ (goes, under). let least : c.least_output.result ≤ p = is.1 goes in omega (arith, least, under, c.max-2.ensures)),
    )
