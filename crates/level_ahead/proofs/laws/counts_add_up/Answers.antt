use Rattle.std.proofs.Common.{[]}
use Rattle.level_ahead.proofs.AddLemmas.{none-added, more-added}
use Rattle.level_ahead.proofs.laws.counts_add_up.Goals as goal

pub returns-clause-none : goal.returns-clause-none
returns-clause-none c course ranks lacking behind = none-added course ranks lacking [] behind tt

pub returns-clause-more : goal.returns-clause-more
returns-clause-more c course ranks lacking sequences others before between after first then = more-added course ranks lacking sequences others before between after first then
