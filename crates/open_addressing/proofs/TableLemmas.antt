-- Lemmas on a table of open addressing.
use Rattle.std.proofs.Common.{◌≡◌, ◌≢◌, ℕ, suc, ◌+◌, ◌-◌, ◌≤◌, ◌<◌, inl, inr, min, List, [], ◌∷◌, ◌++◌, map, length, get_or, set, replicate, refl, sym, ap, ◌∙◌, subst, arith, length-set, get_or-set_same, get_or-set_other}
use Rattle.std.specs.List.{Contains}
use Rattle.std.proofs.lemmas.Bool.{cases_eq, cases_lt}
use Rattle.std.proofs.lemmas.List.{length-map, length_push, get_or-map, get_or_default, get_or_push, get_or_append_left, get_or_past, get_or-replicate, length-replicate}
use Rattle.std.proofs.lemmas.List.Sums.{sum_by-set, sum_by-cons}
use Rattle.open_addressing.specs.Slots.{IsMet}
use Rattle.open_addressing.proofs.SlotLemmas.{met_either, weigh, all_taken, stays_taken}
use Rattle.open_addressing.specs.Table.{Layout, home_of, key_at, held_at, IsSlot, IsReached, IsPlace, IsTable}
use Rattle.open_addressing.specs.Searching.{IsOther, AreOthers, IsFirstFree}

module _ {Key Slot : Type 0} (layout : Layout Key Slot) where
  -- Where a list is sought

  module _ (key_of : List ℕ → Key) (lists : List (List ℕ)) (slots : List Slot) (list : List ℕ) (table : IsTable layout (map key_of lists) slots) where
    hash : ℕ
    hash = layout.hash_of (key_of list)

    -- a list that is held has a slot
    held_place : Contains lists list → (number : ℕ) × (at : ℕ) × (get_or lists number [] ≡ list) × IsPlace layout slots hash number at
    unfolding hash
    held_place (number, within, is) =
        let same : key_at layout (map key_of lists) number ≡ key_of list = get_or-map key_of lists number list (layout.key_in layout.free) within ∙ ap key_of is in
        let (at, place) = table.places number (omega (arith, length-map lists key_of)) in
        (number, at, get_or_default lists number [] list within ∙ is, subst (λ k. IsPlace layout slots (layout.hash_of k) number at) same place)

    -- it is not taken by another list
    place_of_list : (number at : ℕ) → get_or lists number [] ≡ list → IsPlace layout slots hash number at → IsOther layout lists list (get_or slots at layout.free) → ⊥
    place_of_list number at is place other =
        let same : held_at layout slots at - 1 ≡ number = omega (arith, place.holds) in
        other.other (ap (λ n. get_or lists n []) same ∙ is)

    module _ (home : ℕ) (begins : home ≡ home_of (length slots) (layout.hash_of (key_of list))) where
      -- where a search meets other lists and then a free slot, the list is not held
      not_held : (at : ℕ) → at < length slots → held_at layout slots at ≡ 0
          → ((other : ℕ) → other < length slots → IsMet home at other → IsOther layout lists list (get_or slots other layout.free)) → Contains lists list → ⊥
      unfolding hash
      not_held at within free others held =
          let (number, place, is, found) = held_place held in
          elim (cases_eq at place) [
            | inl same ↦ let P : ℕ → Type 0 = λ n. held_at layout slots n ≡ 0 in omega (arith, subst P same free, found.holds)
            | inr apart ↦ elim (met_either home at place apart) [
              | inl before ↦ place_of_list number place is found (others place found.within before)
              | inr behind ↦ omega (arith, found.reached at within (subst (λ h. IsMet h place at) begins behind), free)
            ]
          ]

      -- the same where it meets a free slot before the last one's end
      pub not_held_ahead : (at : ℕ) → at < length slots → home ≤ at → held_at layout slots at ≡ 0 → AreOthers layout lists slots list home at → Contains lists list → ⊥
      not_held_ahead at within ahead free others =
          not_held at within free (λ other inside met. elim met [
            | inl front ↦ others other front.0 front.1
            | inr round ↦ absurd (omega (arith, ahead, round.0))
          ])

      -- and where it begins again at the first slot
      pub not_held_round : (at : ℕ) → home < length slots → at < home → held_at layout slots at ≡ 0
          → AreOthers layout lists slots list home (length slots) → AreOthers layout lists slots list 0 at → Contains lists list → ⊥
      not_held_round at short behind free ahead others =
          not_held at (omega (arith, short, behind)) free (λ other inside met. elim met [
            | inl front ↦ absurd (omega (arith, behind, front.0, front.1))
            | inr round ↦ elim (round.1) [
              | inl above ↦ ahead other above inside
              | inr below ↦ others other (omega arith) below
            ]
          ])

      -- and where all slots are taken by other lists
      pub not_held_full : AreOthers layout lists slots list home (length slots) → AreOthers layout lists slots list 0 home → Contains lists list → ⊥
      not_held_full ahead round held =
          let (number, place, is, found) = held_place held in
          place_of_list number place is found (elim (cases_lt place home) [
            | inl below ↦ round place (omega arith) below
            | inr above ↦ ahead place above found.within
          ])

  -- Tables that grow

  -- a table whose slots are all taken has as many keys as slots
  pub no_room : (keys : List Key) (slots : List Slot) → IsTable layout keys slots → length keys < length slots
      → ((at : ℕ) → at < length slots → 0 < held_at layout slots at) → ⊥
  no_room keys slots table room all = omega (arith, all_taken layout.held layout.free slots all, table.taken, room)

  IsSlot-more : (keys : List Key) (key : Key) (slot : Slot) → IsSlot layout keys slot → IsSlot layout (keys ++ key ∷ []) slot
  IsSlot-more keys key slot is = record {
    within = omega (arith, length_push keys key, is.within);
    key = λ taken. is.key taken ∙ sym (get_or_append_left keys (key ∷ []) (layout.key_in layout.free) (layout.held slot - 1) (omega (arith, is.within)));
  }

  IsSlot-new : (keys : List Key) (key : Key) (slot : Slot) → layout.key_in slot ≡ key → layout.held slot ≡ length keys + 1 → IsSlot layout (keys ++ key ∷ []) slot
  IsSlot-new keys key slot same held = record {
    within = omega (arith, length_push keys key, held);
    key = λ taken. same ∙ sym (get_or_push keys key (layout.key_in layout.free) (layout.held slot - 1) (omega (arith, held)));
  }

  -- one more key in the free slot that a search for it meets first
  module _ (keys : List Key) (slots : List Slot) (key : Key) (at : ℕ) (new : Slot) (table : IsTable layout keys slots) (first : IsFirstFree layout slots (layout.hash_of key) at)
      (same : layout.key_in new ≡ key) (held : layout.held new ≡ length keys + 1) where
    here : get_or (set slots at new) at layout.free ≡ new
    here = get_or-set_same slots at new layout.free first.within

    elsewhere : (other : ℕ) → other ≢ at → get_or (set slots at new) other layout.free ≡ get_or slots other layout.free
    elsewhere other apart = get_or-set_other slots at other new layout.free apart

    slots_after : (other : ℕ) → IsSlot layout (keys ++ key ∷ []) (get_or (set slots at new) other layout.free)
    slots_after other =
        let P : Slot → Type 0 = IsSlot layout (keys ++ key ∷ []) in
        elim (cases_eq other at) [
          | inl is ↦ subst (λ n. P (get_or (set slots at new) n layout.free)) (sym is) (subst P (sym here) (IsSlot-new keys key new same held))
          | inr apart ↦ subst P (sym (elsewhere other apart)) (IsSlot-more keys key (get_or slots other layout.free) (table.slots other))
        ]

    -- a search meets no more free slots than before
    still_reached : (hash place : ℕ) → ((other : ℕ) → other ≢ at → other < length slots → IsMet (home_of (length slots) hash) place other → 0 < held_at layout slots other)
        → IsReached layout (set slots at new) hash place
    still_reached hash place before other within met =
        stays_taken layout.held layout.free slots at new first.within (omega (arith, held)) other
        (λ apart. before other apart (omega (arith, length-set slots at new, within)) (subst (λ n. IsMet (home_of n hash) place other) (length-set slots at new) met))

    place_kept : (hash number place : ℕ) → IsPlace layout slots hash number place → IsPlace layout (set slots at new) hash number place
    place_kept hash number place is =
        let apart : place ≢ at = λ e. let P : ℕ → Type 0 = λ n. held_at layout slots n ≡ number + 1 in omega (arith, subst P e is.holds, first.free) in
        record {
          within = omega (arith, length-set slots at new, is.within);
          holds = ap layout.held (elsewhere place apart) ∙ is.holds;
          reached = still_reached hash place (λ other apart. is.reached other);
        }

    place_made : IsPlace layout (set slots at new) (layout.hash_of key) (length keys) at
    place_made = record {
      within = omega (arith, length-set slots at new, first.within);
      holds = ap layout.held here ∙ held;
      reached = still_reached (layout.hash_of key) at (λ other apart. first.first other);
    }

    places_after : (number : ℕ) → number < length (keys ++ key ∷ []) → (place : ℕ) × IsPlace layout (set slots at new) (layout.hash_of (key_at layout (keys ++ key ∷ []) number)) number place
    places_after number within =
        elim (cases_lt number (length keys)) [
          | inl old ↦
              let (place, is) = table.places number old in
              let kept : key_at layout (keys ++ key ∷ []) number ≡ key_at layout keys number = get_or_append_left keys (key ∷ []) (layout.key_in layout.free) number old in
              (place, subst (λ k. IsPlace layout (set slots at new) (layout.hash_of k) number place) (sym kept) (place_kept (layout.hash_of (key_at layout keys number)) number place is))
          | inr beyond ↦
              let last : number ≡ length keys = omega (arith, length_push keys key, within) in
              let found : key_at layout (keys ++ key ∷ []) number ≡ key = get_or_push keys key (layout.key_in layout.free) number (sym last) in
              (at, subst (λ k. IsPlace layout (set slots at new) (layout.hash_of k) number at) (sym found) (subst (λ n. IsPlace layout (set slots at new) (layout.hash_of key) n at) (sym last) place_made))
        ]

    pub IsTable-placed : IsTable layout (keys ++ key ∷ []) (set slots at new)
    IsTable-placed = record {
      slots = slots_after;
      places = places_after;
      taken =
          let step = sum_by-set (λ (slot : Slot). min (layout.held slot) 1) slots at new layout.free first.within in
          omega (arith, step, table.taken, held, first.free, length_push keys key);
    }

  -- Slots that are all free

  none_taken : (slots : List Slot) → ((at : ℕ) → held_at layout slots at ≡ 0) → weigh layout.held layout.free slots ≡ 0
  none_taken [] free = refl
  none_taken (slot ∷ slots) free =
      let first = free 0 in
      let others = none_taken slots (λ at. free (suc at)) in
      omega (arith, sum_by-cons (λ (s : Slot). min (layout.held s) 1) slot slots, first, others)

  module _ (unheld : layout.held layout.free ≡ 0) where
    pub IsTable-emptied : (slots : List Slot) → ((at : ℕ) → at < length slots → held_at layout slots at ≡ 0) → IsTable layout [] slots
    IsTable-emptied slots inside =
        let free : (at : ℕ) → held_at layout slots at ≡ 0 = λ at. elim (cases_lt at (length slots)) [
          | inl within ↦ inside at within
          | inr past ↦ ap layout.held (get_or_past slots at layout.free (omega (arith, past))) ∙ unheld
        ] in
        record {
          slots = λ at. record { within = omega (arith, free at); key = λ taken. absurd (omega (arith, taken, free at)) };
          places = λ number within. absurd (omega (arith, within));
          taken = none_taken slots free;
        }

    -- the table of no keys
    pub IsTable-free : (size : ℕ) → IsTable layout [] (replicate size layout.free)
    IsTable-free size =
        IsTable-emptied (replicate size layout.free) (λ at inside.
        ap layout.held (get_or-replicate size at layout.free layout.free (omega (arith, inside, length-replicate {A = Slot} size layout.free))) ∙ unheld)
