use Rattle.std.proofs.Common.{◌≡◌, ℕ, ◌-◌, ◌/◌, ◌%◌, ◌^◌, nat_eq, length, slice_index_or, bit_and, subst, sym, ap, ◌∙◌}
use Rattle.std.proofs.lemmas.Nat.{and_mask}
use Rattle.prefix_sieve.proofs.BitLemmas.{flag_of-flags_in}
use Rattle.prefix_sieve.proofs.level.has_flag.Goals as goal

pub returns : goal.returns
returns c =
    let words = c.args.words.now in
    let hash = c.args.hash in
    let word : bit_and (hash / 64) (length words - 1) ≡ hash / 64 % length words =
    subst (λ (count : ℕ). bit_and (hash / 64) (count - 1) ≡ hash / 64 % count) (sym c.requires.1) (and_mask (hash / 64) c.requires.0) in
    ap (λ (at : ℕ). nat_eq (bit_and (slice_index_or words at 0 / 2 ^ (hash % 64)) 1) 1) word
    ∙ ap (λ (bit : ℕ). nat_eq bit 1) (and_mask (slice_index_or words (hash / 64 % length words) 0 / 2 ^ (hash % 64)) 1)
    ∙ sym (flag_of-flags_in words c.requires.0 hash c.requires.1)
