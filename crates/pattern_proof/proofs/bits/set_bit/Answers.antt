use Rattle.std.proofs.Common.{◌≡◌, ℕ, ◌*◌, ◌/◌, ◌%◌, ◌^◌, ◌<◌, ◌⊎◌, ◌↔◌, inl, inr, List, length, get_or, set, bit_or, sym, ap, ◌∙◌, subst, arith, get_or-set_other, get_or-set_same}
use Rattle.std.proofs.lemmas.Bool.{cases_eq, cases_lt}
use Rattle.std.proofs.lemmas.List.{get_or_past, get_or_default}
use Rattle.std.proofs.lemmas.Nat.{or_lt}
use Rattle.state_bits.specs.Members.{HasBit}
use Rattle.state_bits.proofs.WordLemmas.{Fit, bit_from_member, member_from_bit}
use Rattle.state_bits.proofs.SetLemmas.{with_bit, marked, Has-with_bit}
use Rattle.pattern_proof.proofs.bits.set_bit.Goals as goal

fits-with : (words : List ℕ) (q : ℕ) → Fit words → q / 64 < length words → Fit (with_bit words q)
fits-with words q fit inside k =
    elim (cases_eq k (q / 64)) [
      | inl same ↦ rw same (rw get_or-set_same (or_lt 64 (get_or words (q / 64) 0) (1 * 2 ^ (q % 64) % 2 ^ 64) (fit (q / 64)) (omega arith)))
      | inr other ↦ rw (get_or-set_other words (q / 64) k (marked words q) 0 other) (fit k)
    ]

sets : (words : List ℕ) (q : ℕ) → Fit words → q / 64 < length words → (other : ℕ) → HasBit (with_bit words q) other ↔ (HasBit words other ⊎ (other ≡ q))
sets words q fit inside other =
    let fits = fits-with words q fit inside in
    let both = Has-with_bit words q fit fits inside other in (
      (λ has. elim (both.0 (member_from_bit (with_bit words q) other fits has)) [
        | inl had ↦ inl (bit_from_member words other fit had)
        | inr same ↦ inr same
      ]),
      (λ has. bit_from_member (with_bit words q) other fits (both.1 (elim has [
        | inl had ↦ inl (member_from_bit words other fit had)
        | inr same ↦ inr same
      ]))),
    )

pub returns-clause-set : goal.returns-clause-set
returns-clause-set c =
    let words : List ℕ = c.args.words.now.items in
    let q : ℕ = c.args.bit in
    let inside : q / 64 < length words = omega arith in
    let fit : Fit words = λ k. elim (cases_lt k (length words)) [
      | inl less ↦ omega arith
      | inr past ↦ (let none = get_or_past words k 0 past in omega (arith, none))
    ] in
    let word : c.index.result.now ≡ get_or words (q / 64) 0 = c.index.ensures ∙ get_or_default words (q / 64) c.index.result.now 0 inside in
    let new : set words (q / 64) (bit_or c.index.result.now (1 * 2 ^ (q % 64) % 2 ^ 64)) ≡ with_bit words q = ap (λ w. set words (q / 64) (bit_or w (1 * 2 ^ (q % 64) % 2 ^ 64))) word in
    λ other. subst (λ l. HasBit l other ↔ (HasBit words other ⊎ (other ≡ q))) (sym new) (sets words q fit inside other)
