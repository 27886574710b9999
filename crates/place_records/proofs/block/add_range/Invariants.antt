use Rattle.place_records.specs.Blocks.{IsOver, IsBlock}
use Rattle.place_records.proofs.block.add_range.Given as goal

abbrev pub invariant-loop-number : goal.invariant-loop-number
invariant-loop-number g l = record {
  over : IsOver l.job l.bound l.kinds l.block.twins;
  block : IsBlock l.job l.bound l.kinds l.from l.number l.block.twins.twins l.block.sequences.items l.block.places;
}
