use Rattle.std.proofs.Common.{◌∙◌, ap}
use Rattle.prefix_sieve.specs.Buckets.{flags_of}
use Rattle.sieve_passes.proofs.LevelLemmas.{open-flags}
use Rattle.sieve_passes.proofs.making.open_level.Goals as goal

pub returns : goal.returns
returns c = λ threshold. c.in_ok-level.ensures ∙ ap (flags_of 0) c.in_ok-buckets.ensures ∙ open-flags threshold
