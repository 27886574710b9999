use Rattle.desq_run.proofs.attempts.write_answer.Goals as goal

pub returns-in-Make-clause-cut : goal.returns-in-Make-clause-cut
returns-in-Make-clause-cut g c = rw c.in-Make.is c.write_summary.ensures.cut

pub returns-in-Read-clause-cut : goal.returns-in-Read-clause-cut
returns-in-Read-clause-cut g c = rw c.in-Read.is c.write_text.ensures.cut

pub returns-in-Merge-clause-cut : goal.returns-in-Merge-clause-cut
returns-in-Merge-clause-cut g c = rw c.in-Merge.is c.write_text-in-Merge.ensures.cut

pub returns-in-Embed-clause-cut : goal.returns-in-Embed-clause-cut
returns-in-Embed-clause-cut g c = rw c.in-Embed.is c.write_text-in-Embed.ensures.cut
