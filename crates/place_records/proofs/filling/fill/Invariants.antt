use Rattle.place_records.specs.Numbers.{TwinsGrow}
use Rattle.place_records.specs.Filled.{AreFilledTo}
use Rattle.place_records.proofs.filling.fill.Given as goal

abbrev pub invariant-loop-grid : goal.invariant-loop-grid
invariant-loop-grid g l = record {
  twins : TwinsGrow l.fn.twins l.twins;
  filled : AreFilledTo (record { problem = l.job; bound = l.bound; sequences = l.sequences }) l.twins.twins l.kinds l.places l.grid;
}
