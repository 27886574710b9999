use Rattle.text_ports.proofs.Places.{opened}
use Rattle.text_ports.proofs.held.Held.open.Goals as goal

pub returns-clause-found : goal.returns-clause-found
returns-clause-found c = rw c.is_some.ensures (opened _ _ _ (rw c.as_slice.ensures.value at c.place_of-self.ensures)).0

pub returns-clause-left : goal.returns-clause-left
returns-clause-left c = (opened _ _ _ (rw c.as_slice.ensures.value at c.place_of-self.ensures)).1
