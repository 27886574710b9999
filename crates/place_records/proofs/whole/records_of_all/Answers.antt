use Rattle.std.proofs.lemmas.Result.{IfOk-at_ok}
use Rattle.sequence_grids.specs.Columns.{AreColumns}
use Rattle.place_records.specs.Records.{AreRecords}
use Rattle.place_records.specs.Ranks.{ranks_of, CanAskOf}
use Rattle.place_records.proofs.FillLemmas.{AreMade-same}
use Rattle.place_records.proofs.whole.records_of_all.Goals as goal

pub returns-clause-records : goal.returns-clause-records
returns-clause-records g c =
    let sequences = c.made_by_threads.new.sequences.items in
    let same = c.without_numbers-kinds.ensures in
    let kinds = c.without_numbers-kinds.result in
    let columns : AreColumns c.args.job.now.transducer.labels kinds.columns.numbers.items kinds.columns.heads.items = rw same.columns c.in_ok-alphabet.ensures.kinds_are.columns_are in
    IfOk-at_ok (λ found. AreRecords (record { problem = c.args.job.now; bound = c.args.bound; sequences = sequences }) found.places found.early found.late (ranks_of found.table) (CanAskOf found.table)) c.in_ok-records.was
    (c.with_table.ensures c.args.job.now c.args.bound sequences
    (AreMade-same c.args.job.now c.args.bound _ kinds same.columns same.kinds same.ends same.ranks sequences _ _ _ c.in_ok-made.ensures.made) columns)
