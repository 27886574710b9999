-- The counts of all members, from their digits.
use Rattle.std.specs.Prelude.{ℕ, ◌+◌, ◌*◌, ◌^◌, ◌<◌, ◌≤◌, ◌↔◌, List, [], ◌∷◌, map, take}
use Rattle.std.specs.Int.{bit_at}
use Rattle.std.specs.List.{range_with_len}
use Rattle.state_bits.specs.Members.{Has}
use Rattle.member_counts.specs.declared.digits.Digits.{Digits}
use Rattle.member_counts.specs.declared.low.Low.{Low}
use Rattle.member_counts.specs.Digits.{digit, low_count}

-- the member's count, whose lowest digit comes first
unfoldable pub count_in : {W : ℕ} → List (Digits W) → ℕ → ℕ
count_in [] q = 0
count_in (lowest ∷ higher) q = digit lowest q + 2 * count_in higher q

-- how many of the sets hold the member
unfoldable pub sets_with : List ℕ → ℕ → ℕ
sets_with [] q = 0
sets_with (set ∷ sets) q = bit_at set q + sets_with sets q

-- its count in what was added up, and with the first so many of the sets that wait
abbrev pub added_up : {W : ℕ} → Low W → List (Digits W) → ℕ → ℕ
added_up low digits q = low_count low q + 8 * count_in digits q

abbrev pub count_of : {W : ℕ} → List ℕ → ℕ → Low W → List (Digits W) → ℕ → ℕ
count_of waiting filled low digits q = sets_with (take filled waiting) q + added_up low digits q

-- the counts of all members
unfoldable pub counts_in : (W : ℕ) → List ℕ → ℕ → Low W → List (Digits W) → List ℕ
counts_in W waiting filled low digits = map (count_of waiting filled low digits) (range_with_len 0 (64 * W))

-- fewer than eight sets wait, no count is above the number of sets, and the members are those for which there
-- is room
pub record AreCounts (W filled : ℕ) (low : Low W) (digits : List (Digits W)) (added members : ℕ)
    : Type 0 where
  pub narrow : W ≤ 17
  pub waits : filled ≤ 7
  pub fits : added + 8 < 2 ^ 64
  pub few : (q : ℕ) → q < 64 * W → added_up low digits q ≤ added
  pub known : (q : ℕ) → Has members q ↔ (q < 64 * W)
