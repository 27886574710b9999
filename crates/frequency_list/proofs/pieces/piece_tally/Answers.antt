use Rattle.std.proofs.Common.{length}
use Rattle.flat_lists.proofs.CutLemmas.{end_within}
use Rattle.frequency_list.proofs.pieces.piece_tally.Goals as goal

pub tally-requires-clause-within : goal.tally-requires-clause-within
tally-requires-clause-within c = end_within c.args.ends.now (length c.args.db.now) c.requires.cut c.args.piece c.requires.piece
