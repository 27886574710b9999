-- Flags as bits of words.
use Rattle.std.proofs.Common.{◌≡◌, ℕ, ◌+◌, ◌*◌, ◌/◌, ◌%◌, ◌^◌, ◌<◌, Bool, true, List, length, get_or, sym, ap, ◌∙◌, arith}
use Rattle.std.proofs.lemmas.List.{same_lists, length-map, get_or-map}
use Rattle.std.proofs.lemmas.List.FromFn.{get_or-map-range_with_len, length-map-range_with_len}
use Rattle.std.proofs.lemmas.Nat.{mod-pow-add, pow-add, pow_pos}
use Rattle.std.proofs.Math.Nat.{mod-lt}
use Rattle.prefix_sieve.specs.Buckets.{reaches, flags_of, flag_of}
use Rattle.prefix_sieve.specs.Bits.{has_bit, flags_in}

module _ (words : List ℕ) where
  length-flags_in : length (flags_in words) ≡ 64 * length words
  length-flags_in = length-map-range_with_len (λ at. has_bit (get_or words (at / 64) 0) (at % 64)) 0 (64 * length words)

  flag_in : (at : ℕ) (d : Bool) → at < 64 * length words → get_or (flags_in words) at d ≡ has_bit (get_or words (at / 64) 0) (at % 64)
  flag_in at d below =
      get_or-map-range_with_len (λ at. has_bit (get_or words (at / 64) 0) (at % 64)) 0 (64 * length words) at at d below (omega arith)

  -- the word and the bit of a hash
  pub flag_of-flags_in : (bits hash : ℕ) → length words ≡ 2 ^ bits → flag_of (flags_in words) hash ≡ has_bit (get_or words ((hash / 64) % length words) 0) (hash % 64)
  flag_of-flags_in bits hash long =
      let many : 2 ^ (bits + 6) ≡ 64 * length words = pow-add 2 bits 6 ∙ omega (arith, long) in
      let split : hash % 2 ^ (bits + 6) ≡ (hash / 64 % 2 ^ bits) * 64 + hash % 64 = mod-pow-add hash bits 6 in
      let at : ℕ = hash % (64 * length words) in
      let is : at ≡ (hash / 64 % length words) * 64 + hash % 64 =
      ap (λ (n : ℕ). hash % n) (sym many) ∙ split ∙ ap (λ (n : ℕ). (hash / 64 % n) * 64 + hash % 64) (sym long) in
      let below : at < 64 * length words = mod-lt hash (omega (arith, long, pow_pos bits)) in
      let word : at / 64 ≡ hash / 64 % length words = omega (arith, is) in
      let bit : at % 64 ≡ hash % 64 = omega (arith, is) in
      rw length-flags_in (flag_in at true below ∙ ap (λ (k : ℕ). has_bit (get_or words k 0) (at % 64)) word ∙ ap (λ (k : ℕ). has_bit (get_or words (hash / 64 % length words) 0) k) bit)

  -- words whose bits are the flags of sums
  pub flags_in-sums : (threshold : ℕ) (sums : List ℕ) → 64 * length words ≡ length sums
      → ((word bit : ℕ) → word < length words → bit < 64 → has_bit (get_or words word 0) bit ≡ reaches threshold (get_or sums (word * 64 + bit) 0))
      → flags_in words ≡ flags_of threshold sums
  flags_in-sums threshold sums long each =
      same_lists (flags_in words) (flags_of threshold sums) (length-flags_in ∙ long ∙ sym (length-map sums (reaches threshold)))
      (λ k d below.
      let inside : k < 64 * length words = omega (arith, below, length-flags_in) in
      let whole : (k / 64) * 64 + k % 64 ≡ k = omega arith in
      flag_in k d inside ∙ each (k / 64) (k % 64) (omega (arith, inside)) (omega arith)
      ∙ ap (λ (at : ℕ). reaches threshold (get_or sums at 0)) whole ∙ sym (get_or-map (reaches threshold) sums k 0 d (omega (arith, inside, long))))
