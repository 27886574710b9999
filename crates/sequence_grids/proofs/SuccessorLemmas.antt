-- Where edges lead from the states of a set.
use Rattle.std.proofs.Common.{◌≡◌, ◌↔◌, ℕ, suc, ◌+◌, ◌*◌, ◌<◌, ◌≤◌, ◌⊎◌, inl, inr, List, [], ◌∷◌, ◌++◌, length, take, get_or, refl, sym, ap, ◌∙◌, subst, arith}
use Rattle.std.specs.List.{Contains}
use Rattle.std.proofs.Math.Seq.{get_or-append_seam}
use Rattle.std.proofs.lemmas.Bool.{cases_eq}
use Rattle.std.proofs.lemmas.List.{take_more, take_all, get_or_append_left, length-append}
use Rattle.std.proofs.lemmas.List.Elements.{Contains-append_left, Contains-append_right, Contains-append_cases}
use Rattle.state_bits.specs.Members.{Has}
use Rattle.mine_model.proofs.ListLemmas.{Contains-cases, Contains-first, Contains-none}
use Rattle.fst_compile.specs.declared.edge.Edge.{Edge}
use Rattle.fst_compile.specs.Transducer.{Transducer, Leads, Enters, edges_from}
use Rattle.state_bits.proofs.NeighbourLemmas.{Has-none}
use Rattle.state_bits.specs.Neighbours.{AreNeighbours}
use Rattle.sequence_grids.specs.Successors.{AreSuccessors, LeadsFrom}

-- the states to which the first edges of a state lead were added
abbrev pub AreAdded : List Edge → ℕ → ℕ → ℕ → Type 0
AreAdded edges before after count =
    (to : ℕ) → Has after to ↔ (Has before to ⊎ ((edge : Edge) × Contains (take count edges) edge × (edge.to.0 ≡ to)))

module _ (edges : List Edge) (before : ℕ) where
  pub added-none : AreAdded edges before before 0
  added-none to = (
    inl,
    (λ h. elim h [ inl had ↦ had | inr (edge, inside, same) ↦ absurd (Contains-none edge inside) ]),
  )

  pub added-more : (after now index : ℕ) (d : Edge) → AreAdded edges before after index → index < length edges
      → ((to : ℕ) → Has now to ↔ (Has after to ⊎ (to ≡ (get_or edges index d).to.0))) → AreAdded edges before now (index + 1)
  added-more after now index d so_far inside add to = (
    (λ has. elim ((add to).0 has) [
      | inl had ↦ elim ((so_far to).0 had) [
        | inl old ↦ inl old
        | inr (edge, held, same) ↦ inr (edge, subst (λ l. Contains l edge) (sym (take_more edges index d inside)) (Contains-append_left (take index edges) (get_or edges index d ∷ []) edge held), same)
      ]
      | inr same ↦ inr (
        get_or edges index d,
        subst (λ l. Contains l (get_or edges index d)) (sym (take_more edges index d inside))
            (Contains-append_right (take index edges) (get_or edges index d ∷ []) (get_or edges index d) (Contains-first (get_or edges index d) [])),
        sym same,
      )
    ]),
    (λ h. elim h [
      | inl old ↦ (add to).1 (inl ((so_far to).1 (inl old)))
      | inr (edge, held, same) ↦
          elim (Contains-append_cases (take index edges) (get_or edges index d ∷ []) edge (subst (λ l. Contains l edge) (take_more edges index d inside) held)) [
            | inl early ↦ (add to).1 (inl ((so_far to).1 (inr (edge, early, same))))
            | inr last ↦ elim (Contains-cases (get_or edges index d) [] edge last) [
              | inl is ↦ (add to).1 (inr (sym same ∙ ap (λ (e : Edge). e.to.0) is))
              | inr none ↦ absurd (Contains-none edge none)
            ]
          ]
    ]),
  )

  pub added-all : (after index : ℕ) → AreAdded edges before after index → length edges ≤ index
      → (to : ℕ) → Has after to ↔ (Has before to ⊎ ((edge : Edge) × Contains edges edge × (edge.to.0 ≡ to)))
  added-all after index so_far over = subst (λ (l : List Edge). (to : ℕ) → Has after to ↔ (Has before to ⊎ ((edge : Edge) × Contains l edge × (edge.to.0 ≡ to)))) (take_all index edges over) so_far

-- an edge that is labelled leads to a state of the transducer other than the start
pub leads-within : (transducer : Transducer) → ((state : ℕ) (edge : Edge) → Contains (edges_from transducer state) edge → Enters transducer.labels edge)
    → (states to : ℕ) → LeadsFrom transducer states to → (0 < to) × (to ≤ length transducer.labels)
leads-within transducer labelled states to (from, has, (edge, inside, same)) =
    let enters : Enters transducer.labels edge = labelled from edge inside in
    let number : edge.to.0 ≡ suc enters.number = enters.to in
    let within : enters.number < length transducer.labels = enters.within in
    (omega (arith, number, within, same), omega (arith, number, within, same))

-- the successors of the first so many states
pub record AreFirst (transducer : Transducer) (sets : List ℕ) (count : ℕ) : Type 0 where
  pub all : length sets ≡ count
  pub leads : (from to : ℕ) → from < count → Has (get_or sets from 0) to ↔ Leads transducer from to

pub first-none : (transducer : Transducer) → AreFirst transducer [] 0
first-none transducer = record { all = refl; leads = λ from to none. absurd (omega arith) }

pub first-more : (transducer : Transducer) (sets : List ℕ) (count empty set : ℕ) → AreFirst transducer sets count → empty ≡ 0
    → ((to : ℕ) → Has set to ↔ (Has empty to ⊎ Leads transducer count to)) → AreFirst transducer (sets ++ set ∷ []) (count + 1)
first-more transducer sets count empty set so_far none adds = record {
  all = let all = so_far.all in omega (arith, length-append sets (set ∷ []));
  leads = λ from to inside. elim (cases_eq from count) [
    | inl last ↦
        let all = so_far.all in
        let at : from ≡ length sets = omega arith in
        let own : get_or (sets ++ set ∷ []) from 0 ≡ set = ap (λ k. get_or (sets ++ set ∷ []) k 0) at ∙ get_or-append_seam sets set [] 0 in
        subst (λ (s : ℕ). Has s to ↔ Leads transducer from to) (sym own)
        (subst (λ (k : ℕ). Has set to ↔ Leads transducer k to) (sym last) (
          (λ has. elim ((adds to).0 has) [ inl had ↦ absurd (Has-none to (subst (λ (s : ℕ). Has s to) none had)) | inr leads ↦ leads ]),
          (λ leads. (adds to).1 (inr leads)),
        ))
    | inr early ↦
        let all = so_far.all in
        let below : from < count = omega arith in
        let own : get_or (sets ++ set ∷ []) from 0 ≡ get_or sets from 0 = get_or_append_left sets (set ∷ []) 0 from (omega arith) in
        subst (λ (s : ℕ). Has s to ↔ Leads transducer from to) (sym own) (so_far.leads from to below)
  ];
}

pub first-all : (width : ℕ) (transducer : Transducer) (sets : List ℕ) (count : ℕ) → AreFirst transducer sets count → count ≡ length transducer.labels + 1 → length transducer.labels < 64 * width
    → AreSuccessors width transducer sets
first-all width transducer sets count so_far whole room = record {
  all = so_far.all ∙ whole;
  room = room;
  leads = λ from to inside. so_far.leads from to (omega (arith, whole, inside));
}

-- the states that the successors of live states have are those to which edges lead from them
pub leads-from : (width : ℕ) (transducer : Transducer) (sets : List ℕ) (live targets : ℕ) → AreSuccessors width transducer sets
    → ((from : ℕ) → Has live from → from ≤ length transducer.labels)
    → AreNeighbours sets live targets
    → (to : ℕ) → Has targets to ↔ LeadsFrom transducer live to
leads-from width transducer sets live targets are within exact to = (
  (λ has. let (from, held, alive) = (exact to).0 has in (from, alive, (are.leads from to (within from alive)).0 held)),
  (λ h. let (from, alive, leads) = h in (exact to).1 (from, (are.leads from to (within from alive)).1 leads, alive)),
)
