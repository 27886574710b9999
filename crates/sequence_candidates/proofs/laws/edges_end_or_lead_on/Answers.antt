use Rattle.std.proofs.Common.{inl, inr}
use Rattle.sequence_candidates.proofs.laws.edges_end_or_lead_on.Goals as goal

pub returns : goal.returns
returns c = λ part items nodes are whole number rank edge has.
    elim (are.on number rank edge has) [
      | inl yes' ↦ inl yes'
      | inr (at, rest, at_is, can) ↦
          inr (rest, (c.candidates_are_the_paths.ensures are.courses are.ranks part.bound.need nodes are.graph whole edge.next at at_is rest).1 can)
    ]
