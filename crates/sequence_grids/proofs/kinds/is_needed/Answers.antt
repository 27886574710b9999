use Rattle.sequence_grids.proofs.KindLemmas.{some_element}
use Rattle.sequence_grids.proofs.kinds.is_needed.Goals as goal

pub returns-in-None : goal.returns-in-None
returns-in-None c = rw (c.is_empty.ensures, c.in-None.is) (some_element c.args.ranks.now)
