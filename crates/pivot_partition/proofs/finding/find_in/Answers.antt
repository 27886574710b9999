use Rattle.std.proofs.Common.{◌∙◌, sym, subst}
use Rattle.sequence_grids.specs.Grids.{items_at}
use Rattle.pivot_partition.specs.Tops.{IsTableFrom}
use Rattle.pivot_partition.proofs.finding.find_in.Goals as goal

pub find-requires-clause-table : goal.find-requires-clause-table
find-requires-clause-table c = subst (IsTableFrom c.args.job.now (items_at c.args.grids.now 0) 0) (sym c.as_slice.ensures.value) c.in_ok-fill_table.ensures.table

pub find-requires-clause-entered : goal.find-requires-clause-entered
find-requires-clause-entered c = c.fill_table.ensures.long ∙ c.requires.entered

pub returns-clause-entered_long : goal.returns-clause-entered_long
returns-clause-entered_long c = c.find.ensures.entered_long ∙ c.fill_table.ensures.long
