use Rattle.packed_snapshots.specs.Snapshots.{start}
use Rattle.packed_snapshots.specs.Packed.{numbers_behind}
use Rattle.packed_snapshots.proofs.NumberLemmas.{AreNumbers-one}
use Rattle.packed_snapshots.proofs.laws.equal_snapshots_have_equal_bytes.Goals as goal

pub returns : goal.returns
returns c list first second is also = AreNumbers-one (numbers_behind start list) first second is.packed also.packed
