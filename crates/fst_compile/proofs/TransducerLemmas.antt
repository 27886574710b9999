-- The edges of a transducer, row by row.
use Rattle.std.proofs.Common.{◌≡◌, ℕ, ◌+◌, ◌-◌, ◌<◌, ◌≤◌, ◌↔◌, inl, inr, List, [], ◌∷◌, ◌++◌, map, length, get_or, refl, sym, ap, ◌∙◌, subst, arith, append_assoc}
use Rattle.std.specs.List.Sorted.{IsStrictlyIncreasing}
use Rattle.std.specs.List.{All, Contains}
use Rattle.std.proofs.lemmas.List.{get_or_default, get_or_past, get_or_append_left, get_or_push, length_push, append-nil, map-append}
use Rattle.std.proofs.lemmas.List.Elements.{All-push, Contains-append_cases, Contains-append_right}
use Rattle.std.proofs.lemmas.Bool.{cases_lt}
use Rattle.mine_model.proofs.ListLemmas.{Contains-cases, Contains-first, Contains-none, Contains-by, Contains-from}
use Rattle.fst_compile.specs.Rows.{HasEdge}
use Rattle.state_bits.proofs.NeighbourLemmas.{Has-none}
use Rattle.state_bits.specs.Members.{Has}
use Rattle.fst_compile.specs.declared.edge.Edge.{Edge}
use Rattle.fst_compile.specs.declared.edge.Label.{Label}
use Rattle.fst_compile.specs.Transducer.{Enters, target}
use Rattle.fst_compile.specs.Transducers.{IsRow, LeadTo, AreRowsOf}

-- ---- one row

-- the edges to the first states of a row are there, and these states are to come
pub record IsFilledSoFar (labels : List Label) (row : ℕ) (edges : List Edge) (done left : List ℕ) : Type 0 where
  pub targets : map target edges ≡ done
  pub labelled : (edge : Edge) → Contains edges edge → Enters labels edge
  pub rising : IsStrictlyIncreasing (done ++ left)
  pub members : (k : ℕ) → Contains (done ++ left) k ↔ Has row k

pub IsFilledSoFar-none : (labels : List Label) (row : ℕ) (left : List ℕ) → IsStrictlyIncreasing left → ((k : ℕ) → Contains left k ↔ Has row k)
    → IsFilledSoFar labels row [] [] left
IsFilledSoFar-none labels row left rising members = record {
  targets = refl;
  labelled = λ edge none. absurd (Contains-none edge none);
  rising = rising;
  members = members;
}

pub IsFilledSoFar-more : (labels : List Label) (row : ℕ) (edges : List Edge) (done left later : List ℕ) (state : ℕ) (edge : Edge) → IsFilledSoFar labels row edges done left
    → left ≡ state ∷ later → edge.to.0 ≡ state → Enters labels edge → IsFilledSoFar labels row (edges ++ edge ∷ []) (done ++ state ∷ []) later
IsFilledSoFar-more labels row edges done left later state edge so_far next to enters =
    let same : done ++ left ≡ (done ++ state ∷ []) ++ later = rw next (sym (append_assoc done (state ∷ []) later)) in
    record {
      targets = map-append target edges (edge ∷ []) ∙ (rw (so_far.targets, to) refl);
      labelled = λ other inside. elim (Contains-append_cases edges (edge ∷ []) other inside) [
        | inl earlier ↦ so_far.labelled other earlier
        | inr last ↦ elim (Contains-cases edge [] other last) [
          | inl is ↦ subst (λ (e : Edge). Enters labels e) (sym is) enters
          | inr none ↦ absurd (Contains-none other none)
        ]
      ];
      rising = subst IsStrictlyIncreasing same so_far.rising;
      members = subst (λ (xs : List ℕ). (k : ℕ) → Contains xs k ↔ Has row k) same so_far.members;
    }

module _ (labels : List Label) (row : ℕ) (edges : List Edge) (done left : List ℕ) (so_far : IsFilledSoFar labels row edges done left) (none : left ≡ []) where
  all_targets : done ++ left ≡ map target edges
  all_targets = rw none (append-nil done ∙ sym so_far.targets)

  pub IsRow-filled : IsRow labels edges
  IsRow-filled = record { rising = subst IsStrictlyIncreasing all_targets so_far.rising; labelled = so_far.labelled }

  pub LeadTo-filled : LeadTo row edges
  LeadTo-filled = subst (λ (xs : List ℕ). (k : ℕ) → Contains xs k ↔ Has row k) all_targets so_far.members

-- the next state of a row is one of its members
pub next_member : {labels : List Label} {row : ℕ} {edges : List Edge} {done left : List ℕ} (state : ℕ) (later : List ℕ) → IsFilledSoFar labels row edges done left
    → left ≡ state ∷ later → Has row state
next_member {done = done} {left = left} state later so_far next =
    (so_far.members state).0 (Contains-append_right done left state (rw next (Contains-first state later)))

-- ---- all rows

pub are_rows-more : (labels : List Label) (rows : List ℕ) (edges : List (List Edge)) (more : List Edge) (index : ℕ) → AreRowsOf labels rows edges index
    → IsRow labels more → LeadTo (get_or rows index 0) more → AreRowsOf labels rows (edges ++ more ∷ []) (index + 1)
are_rows-more labels rows edges more index so_far row targets = record {
  count = omega (arith, length_push edges more, so_far.count);
  are = All-push (IsRow labels) edges more so_far.are row;
  exact = λ state inside. elim (cases_lt state (length edges)) [
    | inl earlier ↦ rw (get_or_append_left edges (more ∷ []) [] state earlier) (so_far.exact state (omega (arith, so_far.count)))
    | inr last ↦
        let here : state ≡ index = omega (arith, so_far.count) in
        rw (here, get_or_push edges more [] index so_far.count) targets
  ];
}

-- ---- the edges of the transducer

Has-past : (rows : List ℕ) (from to : ℕ) → length rows ≤ from → HasEdge rows from to → ⊥
Has-past rows from to past has = Has-none to (rw (get_or_past rows from 0 past) at has)

pub leads_as_rows : (labels : List Label) (rows : List ℕ) (edges : List (List Edge)) → AreRowsOf labels rows edges (length rows) → (from to : ℕ)
    → ((edge : Edge) × Contains (get_or edges from []) edge × (edge.to.0 ≡ to)) ↔ HasEdge rows from to
leads_as_rows labels rows edges are from to =
    elim (cases_lt from (length rows)) [
      | inl inside ↦ (
        λ (edge, contained, is). (are.exact from inside to).0 (subst (λ (k : ℕ). Contains (map target (get_or edges from [])) k) is (Contains-by target (get_or edges from []) edge contained)),
        λ has.
            let (edge, contained, is) = Contains-from target (get_or edges from []) to ((are.exact from inside to).1 has) in
            (edge, contained, sym is),
      )
      | inr outside ↦
          let row = get_or_past edges from [] (omega (arith, are.count)) in
          rw row (
            (λ (edge, contained, is). absurd (Contains-none edge contained)),
            (λ has. absurd (Has-past rows from to outside has)),
          )
    ]

pub enters_at : (labels : List Label) (state : ℕ) (label : Label) → 0 < state → state ≤ length labels
    → Enters labels (record { leaf = (get_or labels (state - 1) label).leaf; captured = (get_or labels (state - 1) label).captured; to = record { 0 = state } })
enters_at labels state label some inside = record {
  number = state - 1;
  to = omega arith;
  within = omega arith;
  label = λ default. get_or_default labels (state - 1) default label (omega arith);
}

-- each edge of the transducer carries the label of the state that it leads to
pub rows_labelled : (labels : List Label) (edges : List (List Edge)) → All (IsRow labels) edges → (state : ℕ) (edge : Edge)
    → Contains (get_or edges state []) edge → Enters labels edge
rows_labelled labels edges are state edge contained =
    elim (cases_lt state (length edges)) [
      | inl inside ↦ (are state [] inside).labelled edge contained
      | inr outside ↦ absurd (Contains-none edge (rw (get_or_past edges state [] outside) at contained))
    ]
