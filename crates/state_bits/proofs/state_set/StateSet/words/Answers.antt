use Rattle.std.proofs.Common.{sym}
use Rattle.state_bits.specs.WordLaws.{words_of_set}
use Rattle.state_bits.proofs.state_set.StateSet.words.Goals as goal

pub returns : goal.returns
returns g c = rw (← c.self.view_is) (sym (words_of_set g.row.W c.self.inside.words c.self.invariant))
