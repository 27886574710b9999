-- Sets of a memo, and stands whose states join them.
use Rattle.std.proofs.Common.{◌≡◌, ◌↔◌, ℕ, ◌+◌, ◌≤◌, ◌<◌, ◌⊎◌, inl, inr, Some, List, length, sym, ap, ◌∙◌, subst, arith}
use Rattle.std.specs.List.{slice_get, slice_index}
use Rattle.std.proofs.lemmas.Bool.{cases_lt}
use Rattle.std.proofs.lemmas.Option.{slice_get_within, get_or_from_slice_get, slice_get-get_or, same_Some}
use Rattle.state_bits.specs.Members.{Has}
use Rattle.walk_memo.specs.Steps.{IsJoin}
use Rattle.walk_memo.specs.Memos.{MemoValue, IsJoined}
use Rattle.place_walk.specs.declared.stand.Stand.{Stand}
use Rattle.place_walk.specs.Ways.{Joins}

-- a set that has the number is the one that is read there
pub numbered-set : (sets : List ℕ) (number : ℕ) → number < length sets → slice_get sets number ≡ Some (slice_index sets number)
numbered-set sets number inside = slice_get-get_or sets number 0 inside

pub joined-within : (memo : MemoValue) (set state number : ℕ) → IsJoined memo set state number → number < length memo.sets
joined-within memo set state number is = slice_get_within memo.sets number is.joined is.numbered

pub joined-set : (memo : MemoValue) (set state number : ℕ) → IsJoined memo set state number → IsJoin set state (slice_index memo.sets number)
joined-set memo set state number is = subst (IsJoin set state) (sym (get_or_from_slice_get memo.sets number is.joined 0 is.numbered)) is.join

module _ (group : List Stand) (taken next : ℕ) (stand : Stand) (here : slice_get group next ≡ Some stand) (forward : taken ≤ next) where
  joins-more : (state : ℕ) → Joins group taken (next + 1) state ↔ (Joins group taken next state ⊎ (state ≡ stand.state))
  joins-more state = (
    (λ (k, other, least, most, there, of). elim (cases_lt k next) [
      | inl early ↦ inl (k, other, least, early, there, of)
      | inr late ↦
          let same : k ≡ next = omega arith in
          let one : other ≡ stand = same_Some other stand (sym there ∙ ap (slice_get group) same ∙ here) in
          inr (sym of ∙ ap (λ (s : Stand). s.state) one)
    ]),
    (λ either. elim either [
      | inl (k, other, least, most, there, of) ↦ (k, other, least, omega arith, there, of)
      | inr same ↦ (next, stand, forward, omega arith, here, sym same)
    ]),
  )

  -- one stand more was taken
  pub joined-more : (set before after state_is : ℕ) → stand.state ≡ state_is → ((state : ℕ) → Has before state ↔ (Has set state ⊎ Joins group taken next state)) → IsJoin before state_is after
      → (state : ℕ) → Has after state ↔ (Has set state ⊎ Joins group taken (next + 1) state)
  joined-more set before after state_is of so_far join state = (
    (λ has. elim ((join state).0 has) [
      | inl earlier ↦ elim ((so_far state).0 earlier) [
        | inl first ↦ inl first
        | inr joining ↦ inr ((joins-more state).1 (inl joining))
      ]
      | inr now ↦ inr ((joins-more state).1 (inr (now ∙ sym of)))
    ]),
    (λ either. (join state).1 (elim either [
      | inl first ↦ inl ((so_far state).1 (inl first))
      | inr joining ↦ elim ((joins-more state).0 joining) [
        | inl earlier ↦ inl ((so_far state).1 (inr earlier))
        | inr now ↦ inr (now ∙ of)
      ]
    ])),
  )

-- no stand was taken yet
pub joins-none : (group : List Stand) (taken state : ℕ) → Joins group taken taken state → ⊥
joins-none group taken state (k, stand, least, most, there, of) = omega arith

pub joined-none : (group : List Stand) (taken set : ℕ) (state : ℕ) → Has set state ↔ (Has set state ⊎ Joins group taken taken state)
joined-none group taken set state = (
  (λ has. inl has),
  (λ either. elim either [ inl has ↦ has | inr joining ↦ absurd (joins-none group taken state joining) ]),
)
