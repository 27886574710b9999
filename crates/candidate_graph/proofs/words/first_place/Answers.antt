use Rattle.std.proofs.Common.{arith}
use Rattle.candidate_graph.proofs.WordLemmas.{first-none, first-some}
use Rattle.candidate_graph.proofs.words.first_place.Goals as goal

pub returns-then-words-lt3 : goal.returns-then-words-lt3
returns-then-words-lt3 c = first-none c.args.words.now (omega arith)

pub returns-else-words-lt3 : goal.returns-else-words-lt3
returns-else-words-lt3 c = first-some c.args.words.now (omega arith)
