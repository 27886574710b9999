use Rattle.std.proofs.Common.{rules, ◌≡◌, ◌*◌, ◌<◌, length, refl, subst}
use Rattle.std.specs.List.{AllByRecursion}
use Rattle.std.specs.Result.{IfOk}
use Rattle.sequence_grids.specs.Columns.{AreColumns}
use Rattle.sequence_grids.specs.Grids.{GridList}
use Rattle.place_records.specs.Records.{AreRecords}
use Rattle.place_records.specs.Ranks.{ranks_of, CanAskOf}
use Rattle.sequence_grids.specs.Places.{AreKept}
use Rattle.place_records.proofs.FillLemmas.{AreKept-of}
use Rattle.place_records.proofs.making.records.Goals as goal

pub make-made-requires : goal.make-made-requires
make-made-requires g c =
    let parts = c.into_parts-parts.result in
    let from = c.into_parts-parts.ensures in
    let kinds = c.without_numbers-kinds.ensures in
    let width = c.requires.width in
    let room : length c.into_parts-parts.result.job.now.transducer.labels < 64 * g.row.W = rw from.job c.requires.room in
    let within : AllByRecursion (λ i. i < length c.into_parts-parts.result.job.now.sequences) c.as_slice-3.result.now = rw (from.job, c.as_slice-3.ensures.value, from.sequences) c.requires.within in
    let kept : AreKept c.into_parts-parts.result.job.now c.into_parts-parts.result.bound c.into_parts-parts.result.tables c.without_numbers-kinds.result c.as_slice.result.now c.as_slice-2.result.now c.as_slice-3.result.now =
    rw (from.job, from.bound, c.as_slice.ensures.value, c.as_slice-2.ensures.value, c.as_slice-3.ensures.value, from.sequences)
    (AreKept-of c.args.grids.problem c.args.grids.bound parts.tables parts.kinds c.without_numbers-kinds.result parts.places.items parts.ends.items c.args.grids.sequences from.grids
    kinds.columns kinds.kinds kinds.ends kinds.ranks) in
    search rules

pub returns : goal.returns
returns g c =
    let parts = c.into_parts-parts.result in
    let from = c.into_parts-parts.ensures in
    let columns : AreColumns c.into_parts-parts.result.job.now.transducer.labels c.without_numbers-kinds.result.columns.numbers.items c.without_numbers-kinds.result.columns.heads.items =
    rw (from.job, c.without_numbers-kinds.ensures.columns) from.grids.columns_are in
    let part : GridList = record { problem = c.into_parts-parts.result.job.now; bound = c.into_parts-parts.result.bound; sequences = c.as_slice-3.result.now } in
    let same : part ≡ c.args.grids = rw (from.job, from.bound, c.as_slice-3.ensures.value, from.sequences) refl in
    subst (λ (p : GridList). IfOk c.with_table.result (λ found. AreRecords p found.places found.early found.late (ranks_of found.table) (CanAskOf found.table))) same
    (c.with_table.ensures parts.job.now parts.bound c.as_slice-3.result.now c.make-made.ensures columns)
