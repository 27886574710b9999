use Rattle.std.proofs.Common.{◌≡◌, ℕ, ◌%◌, ◌-◌, subst, sym, bit_and}
use Rattle.std.proofs.lemmas.Nat.{and_mask}
use Rattle.prefix_sieve.proofs.buckets.bucket_of.Goals as goal

pub returns-clause-bucket : goal.returns-clause-bucket
returns-clause-bucket c =
    subst (λ (count : ℕ). bit_and c.args.hash (count - 1) ≡ c.args.hash % count) (sym c.requires.1) (and_mask c.args.hash c.requires.0)
