-- A sieve of prefixes, level by level: which prefixes pass, and what the sums of a level hold. A prefix is
-- the beginning of the list of ranks of a candidate, and never empty.
use Rattle.std.specs.Prelude.{◌≡◌, ℕ, ◌+◌, ◌≤◌, ◌<◌, ◌⊎◌, Bool, true, IsTrue, Option, Some, None, List, [], ◌∷◌, ◌++◌, length, take, slice_get}
use Rattle.mine_model.specs.declared.item.Item.{Item}
use Rattle.mine_model.specs.Answer.{Data}
use Rattle.mine_model.specs.Candidates.{IsCandidate}
use Rattle.mine_model.specs.Growth.{WeighAtLeast}
use Rattle.mine_model.specs.Ranks.{AreRanked}
use Rattle.mine_model.specs.Support.{Sequence}
use Rattle.prefix_sieve.specs.Buckets.{top, capped, sum_of, flags_of, flag_of, AreNoLess}

-- ---- candidates behind a prefix

-- the items generate a candidate with these ranks
abbrev pub HasCandidate : Data Item → List Item → List ℕ → List Item → Type 0
HasCandidate d order ranks items =
    (pattern : List Item) × IsCandidate d items pattern × AreRanked order pattern ranks

-- the items generate a candidate whose ranks begin with these
abbrev pub HasBehind : Data Item → List Item → List ℕ → List Item → Type 0
HasBehind d order prefix items = (rest : List ℕ) × HasCandidate d order (prefix ++ rest) items

-- ---- levels

-- whether the level of prefixes with so many ranks before their last lets those with the hash pass; where
-- there is no such level, all pass
abbrev pub lets_pass : Option (List Bool) → ℕ → Bool
lets_pass None hash = true
lets_pass (Some flags) hash = flag_of flags hash

-- the list and each of its prefixes pass
abbrev pub PassesAll : (List ℕ → ℕ) → List (List Bool) → List ℕ → Type 0
PassesAll hash levels list = (before : List ℕ) (rank : ℕ) (behind : List ℕ) → list ≡ before ++ rank ∷ behind
    → IsTrue (lets_pass (slice_get levels (length before)) (hash (before ++ rank ∷ [])))

-- A pass behind these levels looks at the prefix: it has more ranks than there are levels, up to so many, and
-- all its prefixes for which there is a level passed.
pub record IsLookedAt (hash : List ℕ → ℕ) (levels : List (List Bool)) (longest : ℕ) (prefix : List ℕ)
    : Type 0 where
  pub longer : length levels < length prefix
  pub most : length prefix ≤ longest
  pub passed : PassesAll hash levels prefix

-- ---- sums

-- Nothing is lost: the bucket of each prefix that the pass looks at has at least what the sequences weigh
-- that have a candidate behind it, up to where sums stop.
abbrev pub HasEnough : Data Item → List Item → (List ℕ → ℕ) → List (List Bool) → ℕ → List (Sequence Item)
    → List ℕ → Type 0
HasEnough d order hash levels longest sequences sums =
    (prefix : List ℕ) → IsLookedAt hash levels longest prefix → (n : ℕ) → n ≤ top
    → WeighAtLeast (HasBehind d order prefix) sequences n → n ≤ sum_of sums (hash prefix)

-- A sequence was added: no sum is less than before, and the bucket of each prefix that the pass looks at, and
-- behind which the sequence has a candidate, has its weight more. Buckets may have more than that.
pub record HasRaised (d : Data Item) (order : List Item) (hash : List ℕ → ℕ) (levels : List (List Bool))
    (longest : ℕ) (sequence : Sequence Item) (before after : List ℕ) : Type 0 where
  pub never_less : AreNoLess before after
  pub raised : (prefix : List ℕ) → IsLookedAt hash levels longest prefix
      → HasBehind d order prefix sequence.items
      → capped (sum_of before (hash prefix)) sequence.weight ≤ sum_of after (hash prefix)

-- each of the sequences is dealt to one of two workers, who may take them in any order
abbrev pub AreDealt : List (Sequence Item) → List (Sequence Item) → List (Sequence Item) → Type 0
AreDealt [] some others = (some ≡ []) × (others ≡ [])
AreDealt (sequence ∷ all) some others =
    ((before : List (Sequence Item)) × (behind : List (Sequence Item)) × (some ≡ before ++ sequence ∷ behind)
    × AreDealt all (before ++ behind) others)
    ⊎ ((before : List (Sequence Item)) × (behind : List (Sequence Item))
    × (others ≡ before ++ sequence ∷ behind) × AreDealt all some (before ++ behind))

-- Each level is that of sums over all sequences in which nothing was lost, by a pass behind some of the
-- levels before it.
abbrev pub AreLevels : Data Item → List Item → (List ℕ → ℕ) → List (List Bool) → Type 0
AreLevels d order hash levels = (number : ℕ) (flags : List Bool) → slice_get levels number ≡ Some flags
    → (known : ℕ) × (sums : List ℕ) × (known ≤ number) × (flags ≡ flags_of d.threshold sums)
    × HasEnough d order hash (take known levels) (number + 1) d.sequences sums
