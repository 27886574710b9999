use Rattle.std.proofs.Common.{length}
use Rattle.mine_model.specs.Limits.{most_length}
use Rattle.group_search.proofs.SearchLemmas.{loads-sound}
use Rattle.group_search.proofs.searching.rows_of.Goals as goal

pub search-requires-clause-sound : goal.search-requires-clause-sound
search-requires-clause-sound g c =
    loads-sound (g.A.Automata.states_of c.args.automata.now) (length c.args.ranks.now.order) most_length c.args.loads.now c.requires.there c.requires.finite c.requires.fits
