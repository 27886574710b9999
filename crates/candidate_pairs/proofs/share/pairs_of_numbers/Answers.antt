use Rattle.std.proofs.Common.{◌≡◌, ◌≤◌, length, ap, arith}
use Rattle.snapshot_project.proofs.PartLemmas.{rising-few}
use Rattle.candidate_pairs.proofs.share.pairs_of_numbers.Goals as goal

pub overflow_cast-numbers : goal.overflow_cast-numbers
overflow_cast-numbers c =
    let problem = c.args.job.now in
    let few : length c.args.numbers.now ≤ length problem.sequences = rising-few c.args.numbers.now (length problem.sequences) c.requires.rising c.requires.within in
    let whole : length c.db.result.now ≡ length problem.sequences = ap length c.db.ensures.sequences in
    omega (arith, few, whole, c.sequences-few.ensures.count, c.sequences-few.ensures.most)
