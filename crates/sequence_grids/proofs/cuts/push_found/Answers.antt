use Rattle.sequence_grids.proofs.cuts.push_found.Goals as goal

pub returns-clause-outputs : goal.returns-clause-outputs
returns-clause-outputs c = (
  c.as_slice.result.now,
  c.in_ok-extend_from_slice.ensures.items,
  record {
    outputs = rw c.as_slice.ensures.value c.in_ok-silent.ensures.found;
    rising = rw c.as_slice.ensures.value c.in_ok-silent.ensures.rising;
  },
)
