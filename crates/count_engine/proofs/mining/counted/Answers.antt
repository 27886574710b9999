use Rattle.std.proofs.Common.{◌^◌}
use Rattle.count_engine.proofs.mining.counted.Goals as goal

pub counts_of-requires-clause-shares : goal.counts_of-requires-clause-shares
counts_of-requires-clause-shares g c κs within = (2 ^ c.bits_for.result, c.in_ok-sieve.ensures.shares (2 ^ c.bits_for.result) c.in_ok-shares.ensures)
