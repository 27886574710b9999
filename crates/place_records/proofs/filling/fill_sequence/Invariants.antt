use Rattle.std.proofs.Common.{◌≡◌, ◌+◌, length}
use Rattle.sequence_grids.specs.Kinds.{Extends}
use Rattle.place_records.specs.Numbers.{TwinsGrow}
use Rattle.place_records.specs.Filled.{AreUpTo, AreKnown}
use Rattle.place_records.proofs.filling.fill_sequence.Given as goal

abbrev pub invariant-loop-position : goal.invariant-loop-position
invariant-loop-position g l = record {
  twins : TwinsGrow l.fn.twins l.twins;
  grow : Extends l.fn.places l.places;
  long : length l.places ≡ length l.fn.places + l.position;
  known : AreKnown l.twins.twins l.places;
  here : AreUpTo l.job l.bound l.twins.twins l.kinds l.items l.places (length l.fn.places) l.position;
}
