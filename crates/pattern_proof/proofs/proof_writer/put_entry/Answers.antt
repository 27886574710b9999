use Rattle.std.proofs.Common.{ℕ, List, take}
use Rattle.mine_model.specs.declared.row.Row.{Row}
use Rattle.mining_job.specs.Problems.{Problem}
use Rattle.pattern_writer.proofs.WrittenLemmas.{on_err}
use Rattle.pattern_proof.proofs.CitedLemmas.{all-there}
use Rattle.pattern_proof.proofs.EntryLemmas.{entry-held, entry-cut, row-cut-off}
use Rattle.pattern_proof.proofs.proof_writer.put_entry.Goals as goal

pub returns-in_err-behind_row-clause-cut : goal.returns-in_err-behind_row-clause-cut
returns-in_err-behind_row-clause-cut g c =
    let problem : Problem = c.args.source.now.job.now in
    let row : Row = c.args.row.now in
    let front : List ℕ = take c.args.filled c.args.text.now in
    let (paths, full) = all-there problem c.threshold-threshold.ensures.whole c.args.source.now.lists.now.listed.items row c.requires.frequent c.args.first c.requires.listed in
    on_err _ _ (row-cut-off problem c.args.source.now.names.now row (g.O.Sink.written c.args.out.now) (g.O.Sink.written c.args.out.now) (g.O.Sink.written c.put_line.new.out) front front paths full c.in_err-behind_row.ensures.cut)

pub returns-clause-held : goal.returns-clause-held
returns-clause-held g c =
    let problem : Problem = c.args.source.now.job.now in
    entry-held problem c.args.source.now.names.now c.args.row.now (g.O.Sink.written c.args.out.now) (g.O.Sink.written c.put_line.new.out) (g.O.Sink.written c.put_paths.new.out)
    (take c.in_ok-behind_row.behind_row c.put_line.new.room) (take c.args.filled c.args.text.now) c.put_paths.result c.put_paths.new.text c.in_ok-behind_row.ensures.held c.put_paths.ensures.held

pub returns-clause-cut : goal.returns-clause-cut
returns-clause-cut g c =
    let problem : Problem = c.args.source.now.job.now in
    entry-cut problem c.args.source.now.names.now c.args.row.now (g.O.Sink.written c.args.out.now) (g.O.Sink.written c.put_line.new.out) (g.O.Sink.written c.put_paths.new.out)
    (take c.in_ok-behind_row.behind_row c.put_line.new.room) (take c.args.filled c.args.text.now) c.put_paths.result c.in_ok-behind_row.ensures.held c.put_paths.ensures.cut
