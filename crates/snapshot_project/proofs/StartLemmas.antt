-- Where the sequences of a part begin among its places.
use Rattle.std.proofs.Common.{◌≡◌, ℕ, zero, suc, ◌+◌, ◌-◌, ◌≤◌, ◌<◌, inl, inr, Some, length, ap, subst, arith}
use Rattle.std.specs.List.{AllPairs, slice_get, slice_index}
use Rattle.std.proofs.lemmas.Bool.{cases_lt}
use Rattle.std.proofs.lemmas.List.Sums.{sum_by_more}
use Rattle.std.proofs.lemmas.Option.{get_or_from_slice_get, slice_get_within}
use Rattle.mining_job.specs.Problems.{items_of}
use Rattle.sequence_grids.specs.Grids.{GridList, items_at}
use Rattle.place_records.specs.Records.{start_of}

module _ (part : GridList) where
  -- behind the places of a sequence, and one more, begin those of the next
  pub start-next : (grid : ℕ) → grid < length part.sequences
      → start_of part (grid + 1) ≡ start_of part grid + length (items_at part grid) + 1
  start-next grid inside =
      let more : start_of part (grid + 1) ≡ start_of part grid + (length (items_at part grid) + 1) =
      sum_by_more (λ (i : ℕ). length (items_of part.problem i) + 1) part.sequences grid 0 inside in
      omega arith

  start-later : (grid distance : ℕ) → grid + (distance + 1) ≤ length part.sequences
      → start_of part grid + length (items_at part grid) < start_of part (grid + (distance + 1))
  start-later grid zero inside =
      let next : start_of part (grid + 1) ≡ start_of part grid + length (items_at part grid) + 1 = start-next grid (omega arith) in
      subst (λ (k : ℕ). start_of part grid + length (items_at part grid) < start_of part (grid + k)) (let one : 1 ≡ zero + 1 = omega arith in one) (omega arith)
  start-later grid (suc distance) inside =
      let before : start_of part grid + length (items_at part grid) < start_of part (grid + (distance + 1)) = start-later grid distance (omega arith) in
      let next : start_of part ((grid + (distance + 1)) + 1) ≡ start_of part (grid + (distance + 1)) + length (items_at part (grid + (distance + 1))) + 1 =
      start-next (grid + (distance + 1)) (omega arith) in
      let is : (grid + (distance + 1)) + 1 ≡ grid + (suc distance + 1) = omega arith in
      subst (λ (k : ℕ). start_of part grid + length (items_at part grid) < start_of part k) is (omega arith)

  -- a sequence and the place behind it lie before each later one
  pub start-rises : (grid later : ℕ) → grid < later → later ≤ length part.sequences
      → start_of part grid + length (items_at part grid) < start_of part later
  start-rises grid later less inside =
      let is : grid + ((later - (grid + 1)) + 1) ≡ later = omega arith in
      subst (λ (k : ℕ). start_of part grid + length (items_at part grid) < start_of part k) is (start-later grid (later - (grid + 1)) (omega arith))

  -- and before the end of the places
  pub start-whole : (grid : ℕ) → grid < length part.sequences
      → start_of part grid + length (items_at part grid) < start_of part (length part.sequences)
  start-whole grid inside = start-rises grid (length part.sequences) inside (omega arith)

  -- a place is in one sequence, at one position
  pub place-once : (grid position other at : ℕ) → grid < length part.sequences → other < length part.sequences
      → position ≤ length (items_at part grid) → at ≤ length (items_at part other)
      → start_of part grid + position ≡ start_of part other + at → (grid ≡ other) × (position ≡ at)
  place-once grid position other at inside inside_other most most_other same = elim (cases_lt grid other) [
    | inl before ↦
        let rises : start_of part grid + length (items_at part grid) < start_of part other = start-rises grid other before (omega arith) in
        absurd (omega arith)
    | inr after ↦ elim (cases_lt other grid) [
      | inl behind ↦
          let rises : start_of part other + length (items_at part other) < start_of part grid = start-rises other grid behind (omega arith) in
          absurd (omega arith)
      | inr not ↦
          let one : grid ≡ other = omega arith in
          let starts : start_of part grid ≡ start_of part other = ap (start_of part) one in
          (one, omega arith)
    ]
  ]

  -- the sequence of a grid
  pub sequence-at : (grid i : ℕ) → slice_get part.sequences grid ≡ Some i
      → (grid < length part.sequences) × (slice_index part.sequences grid ≡ i)
  sequence-at grid i at = (slice_get_within part.sequences grid i at, get_or_from_slice_get part.sequences grid i 0 at)

  -- is that of no other grid
  pub sequence-once : AllPairs (λ low high. low < high) part.sequences → (grid other i : ℕ) → slice_get part.sequences grid ≡ Some i
      → slice_get part.sequences other ≡ Some i → grid ≡ other
  sequence-once rising grid other i at also =
      let (inside, is) = sequence-at grid i at in
      let (inside_other, is_other) = sequence-at other i also in
      elim (cases_lt grid other) [
        | inl before ↦
            let less : slice_index part.sequences grid < slice_index part.sequences other = rising grid other 0 before inside_other in
            absurd (omega arith)
        | inr after ↦ elim (cases_lt other grid) [
          | inl behind ↦
              let less : slice_index part.sequences other < slice_index part.sequences grid = rising other grid 0 behind inside in
              absurd (omega arith)
          | inr not ↦ omega arith
        ]
      ]
