-- From the bits of a comparison of some bytes to the bytes.
use Rattle.std.proofs.Common.{◌≡◌, ℕ, zero, suc, ◌+◌, ◌%◌, ◌^◌, ◌<◌, ◌≤◌, eqb, Bool, true, false, not, List, map, length, get_or, Fits, w8, arith, sym, ap, ◌∙◌, subst, cond}
use Rattle.std.proofs.lemmas.Bool.{agree_below, agree_below_at, not-true, not-false}
use Rattle.std.proofs.lemmas.Simd.{map-map, mask_l-mod, length-chunk, first_set_mask_l, run_in_chunk_le, run_in_chunk_fails, run_in_chunk_stops}
use Rattle.std.proofs.lemmas.List.{length-map}
use Rattle.std.specs.List.{AllByRecursion, slice_range, prefix_len}
use Rattle.std.specs.Int.{w64, trailing_zeros}
use lib.Lanes.{chunk, mask_l, top}
use Rattle.mine_model.specs.Text.{is_name_byte}
use Rattle.text_ports.proofs.FieldLemmas.{names-more}

module _ (rest : List ℕ) (at count : ℕ) (lanes : List ℕ) (room : at + 16 ≤ length rest) (fits : (k : ℕ) → Fits w8 (get_or rest k 0))
    (found : count ≡ cond (eqb (mask_l (map (top 7) lanes) % 2 ^ 64) 0) 16 (trailing_zeros w64 (mask_l (map (top 7) lanes) % 2 ^ 64)))
    (f : ℕ → ℕ) (computed : lanes ≡ map f (chunk at 16 rest)) (all : agree_below (λ b. top 7 (f b)) (λ b. not (is_name_byte b)) 256 ≡ true) where
  abbrev stops : ℕ → Bool
  stops b = top 7 (f b)

  counted : count ≡ prefix_len (λ b. not (stops b)) (chunk at 16 rest)
  counted =
      let long = length-chunk at 16 rest room in
      let mask = ap (λ l. mask_l l % 2 ^ 64) (ap (map (top 7)) computed ∙ map-map (top 7) f (chunk at 16 rest))
      ∙ mask_l-mod (map stops (chunk at 16 rest)) 64 (omega (arith, length-map (chunk at 16 rest) stops, long)) in
      found ∙ ap (λ m. cond (eqb m 0) 16 (trailing_zeros w64 m)) mask ∙ first_set_mask_l stops (chunk at 16 rest) 16 long (omega arith)

  agrees : (k : ℕ) → stops (get_or rest k 0) ≡ not (is_name_byte (get_or rest k 0))
  agrees k = agree_below_at stops (λ b. not (is_name_byte b)) 256 (get_or rest k 0) all (fits k).fits

  pub within_lanes : count ≤ 16
  within_lanes = run_in_chunk_le stops rest at 16 count 0 room counted

  pub names_of_lanes : (k : ℕ) → at ≤ k → k < at + count → is_name_byte (get_or rest k 0) ≡ true
  names_of_lanes k from to = not-false _ (sym (agrees k) ∙ run_in_chunk_fails stops rest at 16 count 0 room counted k from to)

  pub stop_of_lanes : count < 16 → is_name_byte (get_or rest (at + count) 0) ≡ false
  stop_of_lanes short = not-true _ (sym (agrees (at + count)) ∙ run_in_chunk_stops stops rest at 16 count 0 room counted short)

-- some more bytes of a name
pub names-ahead : (rest : List ℕ) (from at count : ℕ) → from ≤ at → at + count ≤ length rest → AllByRecursion (λ b. is_name_byte b ≡ true) (slice_range rest from at)
    → ((k : ℕ) → at ≤ k → k < at + count → is_name_byte (get_or rest k 0) ≡ true) → AllByRecursion (λ b. is_name_byte b ≡ true) (slice_range rest from (at + count))
names-ahead rest from at zero rises within names each =
    let same : at ≡ at + zero = omega arith in subst (λ n. AllByRecursion (λ b. is_name_byte b ≡ true) (slice_range rest from n)) same names
names-ahead rest from at (suc count) rises within names each =
    let same : at + count + 1 ≡ at + suc count = omega arith in
    let before = names-ahead rest from at count rises (omega (arith, within)) names (λ k above below. each k above (omega (arith, below))) in
    subst (λ n. AllByRecursion (λ b. is_name_byte b ≡ true) (slice_range rest from n)) same
    (names-more rest from (at + count) 0 (omega (arith, rises)) (omega (arith, within)) before (each (at + count) (omega arith) (omega arith)))
