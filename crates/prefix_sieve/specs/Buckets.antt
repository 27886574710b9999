-- Sums of weights by bucket, and which buckets reach a threshold.
use Rattle.std.specs.Prelude.{◌≡◌, ℕ, ◌+◌, ◌%◌, min, nat_le, Bool, true, List, length, map, set, slice_index_or, ◌≤◌}

-- a sum stops here
abbrev pub top : ℕ
top = 4294967295

-- the sum with a weight more, up to where sums stop
abbrev pub capped : ℕ → ℕ → ℕ
capped sum weight = min (sum + weight) top

-- the bucket of a hash, among so many
abbrev pub bucket_of : ℕ → ℕ → ℕ
bucket_of count hash = hash % count

-- the sum of the bucket of the hash
abbrev pub sum_of : List ℕ → ℕ → ℕ
sum_of sums hash = slice_index_or sums (bucket_of (length sums) hash) 0

-- no sum is less than before
abbrev pub AreNoLess : List ℕ → List ℕ → Type 0
AreNoLess before after = (hash : ℕ) → sum_of before hash ≤ sum_of after hash

-- the sums where the bucket of the hash has the weight more
abbrev pub raised : List ℕ → ℕ → ℕ → List ℕ
raised sums hash weight = set sums (bucket_of (length sums) hash) (capped (sum_of sums hash) weight)

-- each bucket has what both sums of it make together
pub record AreJoined (some others all : List ℕ) : Type 0 where
  pub same : length others ≡ length some
  pub long : length all ≡ length some
  pub each : (bucket : ℕ)
      → slice_index_or all bucket 0 ≡ capped (slice_index_or some bucket 0) (slice_index_or others bucket 0)

-- whether the sum reaches the threshold; a sum that stopped reaches each
abbrev pub reaches : ℕ → ℕ → Bool
reaches threshold sum = nat_le (min threshold top) sum

-- which buckets reach the threshold
abbrev pub flags_of : ℕ → List ℕ → List Bool
flags_of threshold sums = map (reaches threshold) sums

-- whether the bucket of the hash is one of those; a hash without a bucket is as good
abbrev pub flag_of : List Bool → ℕ → Bool
flag_of flags hash = slice_index_or flags (bucket_of (length flags) hash) true
