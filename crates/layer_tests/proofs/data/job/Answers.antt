use Rattle.layer_tests.proofs.data.job.Goals as goal

pub new-requires-clause-items : goal.new-requires-clause-items
new-requires-clause-items g c = rw c.in_ok-hierarchy.ensures c.in_ok-db.ensures

pub new-requires-clause-named : goal.new-requires-clause-named
new-requires-clause-named g c = rw c.in_ok-hierarchy.ensures c.in_ok-fst.ensures.named
