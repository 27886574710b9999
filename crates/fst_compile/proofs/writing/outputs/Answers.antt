use Rattle.fst_compile.proofs.writing.outputs.Goals as goal

pub returns-in_ok-write_between-in-Climb-clause-outputs : goal.returns-in_ok-write_between-in-Climb-clause-outputs
returns-in_ok-write_between-in-Climb-clause-outputs c =
    let matches = c.is_above-in-Climb.ensures.0 c.if-is_above-2.true in
    rw c.in-Climb.is (λ v. ((λ held. (matches, (c.in_ok-write_between-in-Climb.ensures.between v).0 held)), (λ (_, may). (c.in_ok-write_between-in-Climb.ensures.between v).1 may)))

pub returns-in_ok-write_all-in-AnyClimb-clause-outputs : goal.returns-in_ok-write_all-in-AnyClimb-clause-outputs
returns-in_ok-write_all-in-AnyClimb-clause-outputs c =
    rw (c.in-AnyClimb.is, c.in_ok-write_all-in-AnyClimb.ensures.ok)
    (λ v. ((λ held. (tt, (c.ancestors.ensures.ancestors v).0 held)), (λ (_, up). (c.ancestors.ensures.ancestors v).1 up)))
