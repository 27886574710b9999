-- Marks of the ranks that are found.
use Rattle.std.proofs.Common.{◌≡◌, ◌↔◌, ℕ, ◌+◌, ◌<◌, ◌≤◌, ◌⊎◌, inl, inr, Bool, true, false, List, [], ◌∷◌, ◌++◌, length, get_or, set, take, drop, sym, ◌∙◌, subst, arith}
use Rattle.std.specs.List.{Contains}
use Rattle.std.proofs.lemmas.Bool.{cases_eq, cases_lt, false≢true}
use Rattle.std.proofs.lemmas.List.{get_or-set_same, get_or-set_other, get_or_past, drop_all, length-set, take_more, take_all}
use Rattle.std.proofs.lemmas.List.Elements.{Contains-append_left, Contains-push, Contains-push_cases}
use Rattle.mine_model.proofs.ListLemmas.{Contains-cases, Contains-none}
use Rattle.pivot_partition.specs.Marks.{IsMarked, AreMarked}

-- those that are still to lose their marks have them alone
abbrev pub AreStill : List Bool → List ℕ → ℕ → Type 0
AreStill marks found index = (rank : ℕ) → IsMarked marks rank → Contains (drop index found) rank

pub still-begin : (marks : List Bool) (found : List ℕ) → AreMarked marks found → AreStill marks found 0
still-begin marks found are = λ rank marked. (are.exact rank).1 marked

pub still-more : (marks : List Bool) (found : List ℕ) (index rank : ℕ) → drop index found ≡ rank ∷ drop (index + 1) found → AreStill marks found index → AreStill (set marks rank false) found (index + 1)
still-more marks found index rank here still = λ k marked. elim (cases_eq k rank) [
  | inl same ↦ absurd (off (subst (IsMarked (set marks rank false)) same marked))
  | inr other ↦
      let before : IsMarked marks k = sym (get_or-set_other marks rank k false false other) ∙ marked in
      elim (Contains-cases rank (drop (index + 1) found) k (subst (λ (l : List ℕ). Contains l k) here (still k before))) [
        | inl same ↦ absurd (other same)
        | inr later ↦ later
      ]
]
  where
    off : get_or (set marks rank false) rank false ≡ true → ⊥
    off marked = elim (cases_lt rank (length marks)) [
      | inl inside ↦ false≢true (sym (get_or-set_same marks rank false false inside) ∙ marked)
      | inr past ↦ false≢true (sym (get_or_past (set marks rank false) rank false (omega (arith, past, length-set marks rank false))) ∙ marked)
    ]

pub still-all : (marks : List Bool) (found : List ℕ) (index : ℕ) → length found ≤ index → AreStill marks found index → AreMarked marks []
still-all marks found index over still = record {
  exact = λ rank. (
    (λ held. absurd (Contains-none rank held)),
    (λ marked. absurd (Contains-none rank (subst (λ (l : List ℕ). Contains l rank) (drop_all index found over) (still rank marked)))),
  );
  once = λ i j d less inside. absurd (omega (arith, inside));
}

-- what has a mark is a place
pub marked-inside : (marks : List Bool) (rank : ℕ) → IsMarked marks rank → rank < length marks
marked-inside marks rank marked = elim (cases_lt rank (length marks)) [
  | inl inside ↦ inside
  | inr past ↦ absurd (false≢true (sym (get_or_past marks rank false past) ∙ marked))
]

-- Ranks from the least on that were read so far
module _ (before : List ℕ) (ranks : List ℕ) (least : ℕ) where
  abbrev pub AreReadSoFar : List ℕ → ℕ → Type 0
  AreReadSoFar found index = (rank : ℕ) → Contains found rank ↔ (Contains before rank ⊎ (Contains (take index ranks) rank × (least ≤ rank)))

  pub read-begin : AreReadSoFar before 0
  read-begin = λ rank. (
    (λ held. inl held),
    (λ either. elim either [ inl held ↦ held | inr read ↦ absurd (Contains-none rank read.0) ]),
  )

  module _ (found : List ℕ) (index : ℕ) (inside : index < length ranks) (so_far : AreReadSoFar found index) where
    next : take (index + 1) ranks ≡ take index ranks ++ get_or ranks index 0 ∷ []
    next = take_more ranks index 0 inside

    pub read-pass : get_or ranks index 0 < least → AreReadSoFar found (index + 1)
    read-pass low = λ rank. rw next (
      (λ held. elim ((so_far rank).0 held) [
        | inl old ↦ inl old
        | inr read ↦ inr (Contains-append_left (take index ranks) (get_or ranks index 0 ∷ []) rank read.0, read.1)
      ]),
      (λ either. elim either [
        | inl old ↦ (so_far rank).1 (inl old)
        | inr read ↦ elim (Contains-push_cases (take index ranks) (get_or ranks index 0) rank read.0) [
          | inl there ↦ (so_far rank).1 (inr (there, read.1))
          | inr same ↦ absurd (omega (arith, same, low, read.1))
        ]
      ]),
    )

    pub read-more : (more : List ℕ) → least ≤ get_or ranks index 0 → ((rank : ℕ) → Contains more rank ↔ (Contains found rank ⊎ (rank ≡ get_or ranks index 0))) → AreReadSoFar more (index + 1)
    read-more more high added = λ rank. rw next (
      (λ held. elim ((added rank).0 held) [
        | inl old ↦ elim ((so_far rank).0 old) [
          | inl before' ↦ inl before'
          | inr read ↦ inr (Contains-append_left (take index ranks) (get_or ranks index 0 ∷ []) rank read.0, read.1)
        ]
        | inr same ↦ inr (subst (Contains (take index ranks ++ get_or ranks index 0 ∷ [])) (sym same) (Contains-push (take index ranks) (get_or ranks index 0)), omega (arith, same, high))
      ]),
      (λ either. elim either [
        | inl old ↦ (added rank).1 (inl ((so_far rank).1 (inl old)))
        | inr read ↦ elim (Contains-push_cases (take index ranks) (get_or ranks index 0) rank read.0) [
          | inl there ↦ (added rank).1 (inl ((so_far rank).1 (inr (there, read.1))))
          | inr same ↦ (added rank).1 (inr (sym same))
        ]
      ]),
    )

  pub read-all : (found : List ℕ) (index : ℕ) → length ranks ≤ index → AreReadSoFar found index → (rank : ℕ) → Contains found rank ↔ (Contains before rank ⊎ (Contains ranks rank × (least ≤ rank)))
  read-all found index over so_far = subst (λ (l : List ℕ). (rank : ℕ) → Contains found rank ↔ (Contains before rank ⊎ (Contains l rank × (least ≤ rank)))) (take_all index ranks over) so_far
