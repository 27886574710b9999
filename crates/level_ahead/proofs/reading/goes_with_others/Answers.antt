use Rattle.std.proofs.Common.{refl}
use Rattle.level_ahead.proofs.reading.goes_with_others.Goals as goal
