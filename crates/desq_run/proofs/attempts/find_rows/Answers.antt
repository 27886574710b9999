use Rattle.desq_run.proofs.attempts.find_rows.Goals as goal

pub merge_input-requires-clause-named : goal.merge_input-requires-clause-named
merge_input-requires-clause-named g c = rw c.in-Some.is at c.merged_files.ensures

pub mine_input-requires-clause-mined : goal.mine_input-requires-clause-mined
mine_input-requires-clause-mined g c = λ _ _. rw c.in-None.is at c.merged_files.ensures
