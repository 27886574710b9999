use Rattle.std.proofs.Common.{ℕ, ap, sym, ◌∙◌}
use Rattle.prefix_sieve.specs.Hashes.{start, mixed}
use Rattle.prefix_sieve.proofs.HashLemmas.{mixed_behind}
use Rattle.prefix_sieve.proofs.hashes.hash_behind.Goals as goal

pub returns : goal.returns
returns c = λ list is. c.mixed.ensures ∙ ap (λ (h : ℕ). mixed h c.args.rank) is ∙ sym (mixed_behind start list c.args.rank)
