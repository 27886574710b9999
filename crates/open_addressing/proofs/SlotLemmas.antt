-- Lemmas on a table of slots.
use Rattle.std.proofs.Common.{◌≡◌, ◌≢◌, ℕ, suc, ◌<◌, ◌⊎◌, inl, inr, min, List, [], ◌∷◌, length, get_or, set, refl, sym, subst, arith, get_or-set_same, get_or-set_other}
use Rattle.std.specs.List.{sum_by}
use Rattle.std.proofs.lemmas.Bool.{cases_eq, cases_lt}
use Rattle.std.proofs.lemmas.List.Sums.{sum_by-cons}
use Rattle.open_addressing.specs.Slots.{IsMet}

-- of two slots a search meets one before the other
pub met_either : (home at other : ℕ) → at ≢ other → IsMet home at other ⊎ IsMet home other at
met_either home at other apart =
    elim (cases_lt at home) [
      | inl low ↦ elim (cases_lt other home) [
        | inl below ↦ elim (cases_lt other at) [
          | inl before ↦ inl (inr (low, inr before))
          | inr behind ↦ inr (inr (below, inr (omega arith)))
        ]
        | inr above ↦ inl (inr (low, inl above))
      ]
      | inr high ↦ elim (cases_lt other home) [
        | inl below ↦ inr (inr (below, inl high))
        | inr above ↦ elim (cases_lt other at) [
          | inl before ↦ inl (inl (above, before))
          | inr behind ↦ inr (inl (high, omega arith))
        ]
      ]
    ]

-- A slot holds a number, 0 where it is free

module _ {S : Type 0} (held : S → ℕ) (free : S) where
  -- how many slots are taken
  abbrev pub weigh : List S → ℕ
  weigh slots = sum_by (λ slot. min (held slot) 1) slots

  -- slots that are all taken
  pub all_taken : (slots : List S) → ((at : ℕ) → at < length slots → 0 < held (get_or slots at free)) → weigh slots ≡ length slots
  all_taken [] all = refl
  all_taken (slot ∷ slots) all =
      let first = all 0 (omega arith) in
      let others = all_taken slots (λ at within. all (suc at) (omega arith)) in
      omega (arith, sum_by-cons (λ (s : S). min (held s) 1) slot slots, first, others)

  -- a slot that was taken, or the new one, is taken
  pub stays_taken : (slots : List S) (at : ℕ) (new : S) → at < length slots → 0 < held new → (other : ℕ) → ((other ≢ at) → 0 < held (get_or slots other free))
      → 0 < held (get_or (set slots at new) other free)
  stays_taken slots at new within taken other before =
      let P : S → Type 0 = λ slot. 0 < held slot in
      elim (cases_eq other at) [
        | inl is ↦ subst (λ n. P (get_or (set slots at new) n free)) (sym is) (subst P (sym (get_or-set_same slots at new free within)) taken)
        | inr apart ↦ subst P (sym (get_or-set_other slots at other new free apart)) (before apart)
      ]
