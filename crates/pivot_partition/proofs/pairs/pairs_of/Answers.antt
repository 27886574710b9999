use Rattle.std.proofs.Common.{◌≤◌, IfOk, length, sym, subst}
use Rattle.std.specs.Global.{Vec}
use Rattle.mining_job.specs.Problems.{Problem}
use Rattle.pivot_partition.specs.declared.pairs.Pair.{Pair}
use Rattle.pivot_partition.specs.Pairs.{ArePairs}
use Rattle.pivot_partition.proofs.pairs.pairs_of.Goals as goal

pub pairs_with-pairs-requires-clause-within : goal.pairs_with-pairs-requires-clause-within
pairs_with-pairs-requires-clause-within c = subst (λ (p : Problem). c.args.to ≤ length p.sequences) (sym c.in_ok-pivots.ensures) c.requires.within

pub returns : goal.returns
returns c = subst (λ (p : Problem). IfOk c.pairs_with-pairs.result (λ (pairs : Vec Pair). ArePairs p c.args.from c.args.to pairs.items)) c.in_ok-pivots.ensures c.pairs_with-pairs.ensures
