-- The equations by which what completes and what ends follows from the next place.
use Rattle.std.proofs.Common.{◌≡◌, ℕ, ◌-◌, ◌⊎◌, ◌↔◌, inl, inr, Bool, true, false, List, [], ◌∷◌, ◌++◌, arith, refl, sym, ap, ◌∙◌, subst, Some, None, Option, rules}
use Rattle.std.specs.List.{AllByRecursion, slice_get}
use Rattle.std.proofs.lemmas.Option.{slice_get-get_or, same_Some}
use Rattle.mine_model.specs.declared.item.Item.{Item}
use Rattle.mine_model.specs.Expression.{Leaf}
use Rattle.mine_model.specs.Numbered.{leaf_of}
use Rattle.mine_model.specs.Generation.{Matches, MayWrite, WritesAt}
use Rattle.mine_model.specs.Hierarchy.{Link}
use Rattle.mine_model.specs.Ranks.{HasRank}
use Rattle.mine_model.proofs.ListLemmas.{Contains-cases, Contains-first, Contains-other}
use Rattle.fst_compile.specs.declared.edge.Edge.{Edge}
use Rattle.fst_compile.specs.declared.edge.Label.{Label}
use Rattle.fst_compile.specs.Transducer.{IsPath, Enters, Leads}
use Rattle.mining_job.specs.declared.bound.Bound.{Bound}
use Rattle.mining_job.specs.Problems.{Problem, IsWhole}
use Rattle.sequence_grids.specs.Grids.{IsAllowed, IsNeeded, HoldsNeeded, Completes, Continues, Ends, Reads, WritesRank}
use Rattle.sequence_grids.specs.Kinds.{IsNeededRank, Writes, Goes, Needs, IsTarget}
use Rattle.sequence_grids.proofs.KindLemmas.{rank_unique, nil-not-cons}

-- what stands at an edge's target is what the edge carries
pub label_at_edge : (labels : List Label) (edge : Edge) → Enters labels edge → slice_get labels (edge.to.0 - 1) ≡ Some (record { leaf = edge.leaf; captured = edge.captured })
label_at_edge labels edge enters =
    let d : Label = record { leaf = edge.leaf; captured = edge.captured } in
    let place : edge.to.0 - 1 ≡ enters.number = omega (arith, enters.to) in
    rw place (slice_get-get_or labels enters.number d enters.within ∙ ap Some (enters.label d))

-- an edge reads what its target reads
pub reads-edge : (problem : Problem) (edge : Edge) (t : Item) (output : List Item) → Enters problem.transducer.labels edge
    → Reads problem t edge.to.0 output
    ↔ (Matches problem.hierarchy.links (leaf_of edge.leaf) t × WritesAt problem.hierarchy.links (leaf_of edge.leaf) edge.captured t output)
reads-edge problem edge t output enters =
    let there = label_at_edge problem.transducer.labels edge enters in (
      (λ (label, found, matches, writes).
          let same : label ≡ record { leaf = edge.leaf; captured = edge.captured } = same_Some label (record { leaf = edge.leaf; captured = edge.captured }) (sym found ∙ there) in
          subst (λ (l : Label). Matches problem.hierarchy.links (leaf_of l.leaf) t × WritesAt problem.hierarchy.links (leaf_of l.leaf) l.captured t output) same (matches, writes)),
      (λ h. (record { leaf = edge.leaf; captured = edge.captured }, there, h.0, h.1)),
    )

-- a path over one item and more begins with an edge
pub path-step : (problem : Problem) → IsWhole problem → (state : ℕ) (t : Item) (rest output : List Item)
    → IsPath problem.hierarchy.links problem.transducer state (t ∷ rest) output
    ↔ ((next : ℕ) × (here : List Item) × (there : List Item) × Leads problem.transducer state next × Reads problem t next here
    × (output ≡ here ++ there) × IsPath problem.hierarchy.links problem.transducer next rest there)
path-step problem whole state t rest output = (
  (λ (edge, here, there, held, matches, writes, joined, path).
      (edge.to.0, here, there, (edge, held, refl), (reads-edge problem edge t here (whole.automaton.labelled state edge held)).1 (matches, writes), joined, path)),
  (λ (next, here, there, (edge, held, to), reads, joined, path).
      let (matches, writes) = (reads-edge problem edge t here (whole.automaton.labelled state edge held)).0 (subst (λ (k : ℕ). Reads problem t k here) (sym to) reads) in
      (edge, here, there, held, matches, writes, joined, subst (λ (k : ℕ). IsPath problem.hierarchy.links problem.transducer k rest there) (sym to) path)),
)

-- a leaf that is not captured writes nothing, and a captured one writes one item
pub writes-cases : (links : List (Link Item)) (leaf : Leaf Item) (captured : Bool) (t : Item) (output : List Item) → WritesAt links leaf captured t output
    → ((captured ≡ false) × (output ≡ [])) ⊎ ((captured ≡ true) × ((v : Item) × MayWrite links leaf t v × (output ≡ v ∷ [])))
writes-cases links leaf true t output writes = inr (refl, writes)
writes-cases links leaf false t output writes = inl (refl, writes)

-- an edge writes nothing or one item
pub reads-cases : (problem : Problem) (t : Item) (k : ℕ) (here : List Item) → Reads problem t k here → (here ≡ []) ⊎ ((v : Item) × (here ≡ v ∷ []))
reads-cases problem t k here (label, found, matches, writes) =
    elim (writes-cases problem.hierarchy.links (leaf_of label.leaf) label.captured t here writes) [
      | inl silent ↦ inl silent.1
      | inr (is, (v, may, same)) ↦ inr (v, same)
    ]

-- edges lead into states
pub target-of : (problem : Problem) → IsWhole problem → (from to : ℕ) → Leads problem.transducer from to → IsTarget problem to
target-of problem whole from to (edge, held, is) =
    let enters = whole.automaton.labelled from edge held in
    (omega (arith, is, enters.to), omega (arith, is, enters.to, enters.within))

module _ (problem : Problem) (whole : IsWhole problem) where
  -- a path begins with an edge that writes nothing, or one that writes an item
  path-first : (state : ℕ) (t : Item) (rest output : List Item) → IsPath problem.hierarchy.links problem.transducer state (t ∷ rest) output
      → (next : ℕ) × Leads problem.transducer state next
      × ((Reads problem t next [] × IsPath problem.hierarchy.links problem.transducer next rest output)
      ⊎ ((v : Item) × (there : List Item) × Reads problem t next (v ∷ []) × (output ≡ v ∷ there) × IsPath problem.hierarchy.links problem.transducer next rest there))
  path-first state t rest output path =
      let (next, here, there, leads, reads, joined, after) = (path-step problem whole state t rest output).0 path in (
        next,
        leads,
        elim (reads-cases problem t next here reads) [
          | inl silent ↦ inl (
            subst (Reads problem t next) silent reads,
            subst (IsPath problem.hierarchy.links problem.transducer next rest) (sym (joined ∙ ap (λ h. h ++ there) silent)) after,
          )
          | inr (v, one) ↦ inr (v, there, subst (Reads problem t next) one reads, joined ∙ ap (λ h. h ++ there) one, after)
        ],
      )

  pub ends-step : (t : Item) (rest : List Item) (state : ℕ)
      → Ends problem (t ∷ rest) state ↔ ((next : ℕ) × Leads problem.transducer state next × Reads problem t next [] × Ends problem rest next)
  ends-step t rest state = (
    (λ path.
        let (next, leads, either) = path-first state t rest [] path in
        elim either [
          | inl (silent, after) ↦ (next, leads, silent, after)
          | inr (v, there, _, same, _) ↦ absurd (nil-not-cons v there same)
        ]),
    (λ (next, leads, silent, after). (path-step problem whole state t rest []).1 (next, [], [], leads, silent, refl, after)),
  )

  module _ (bound : Bound) where
    -- an item that may be written is one with a rank
    writes-rank : (t : Item) (k : ℕ) (v : Item) → IsAllowed problem.ranking bound v → Reads problem t k (v ∷ []) → (rank : ℕ) × HasRank problem.ranking.order v rank × WritesRank problem bound t k rank
    writes-rank t k v (rank, has, low) reads = (rank, has, (v, has, low, reads))

    pub seen-step : (t : Item) (rest : List Item) (state : ℕ)
        → Completes problem bound (t ∷ rest) state true
        ↔ ((next : ℕ) × Leads problem.transducer state next × Goes problem bound t next × Completes problem bound rest next true)
    seen-step t rest state = (
      (λ (output, path, allowed, met).
          let (next, leads, either) = path-first state t rest output path in
          elim either [
            | inl (silent, after) ↦ (next, leads, inl silent, (output, after, allowed, inl refl))
            | inr (v, there, reads, same, after) ↦
                let all = subst (AllByRecursion (IsAllowed problem.ranking bound)) same allowed in
                let (rank, has, writes) = writes-rank t next v all.0 reads in
                (next, leads, inr (rank, writes), (there, after, all.1, inl refl))
          ]),
      (λ (next, leads, goes, (output, after, allowed, met)). elim goes [
        | inl silent ↦ (output, (path-step problem whole state t rest output).1 (next, [], output, leads, silent, refl, after), allowed, inl refl)
        | inr (rank, (v, has, low, reads)) ↦ (
          v ∷ output,
          (path-step problem whole state t rest (v ∷ output)).1 (next, v ∷ [], output, leads, reads, refl, after),
          ((rank, has, low), allowed),
          inl refl,
        )
      ]),
    )

    pub more-step : (t : Item) (rest : List Item) (state : ℕ)
        → Continues problem bound (t ∷ rest) state true
        ↔ ((next : ℕ) × Leads problem.transducer state next
        × ((Reads problem t next [] × Continues problem bound rest next true) ⊎ (Writes problem bound t next × Completes problem bound rest next true)))
    more-step t rest state = (
      (λ (w, more, path, allowed, met).
          let (next, leads, either) = path-first state t rest (w ∷ more) path in (
            next,
            leads,
            elim either [
              | inl (silent, after) ↦ inl (silent, (w, more, after, allowed, inl refl))
              | inr (v, there, reads, same, after) ↦
                  let all = subst (AllByRecursion (IsAllowed problem.ranking bound)) same allowed in
                  let (rank, has, writes) = writes-rank t next v all.0 reads in
                  inr ((rank, writes), (there, after, all.1, inl refl))
            ],
          )),
      (λ (next, leads, either). elim either [
        | inl (silent, (w, more, after, allowed, met)) ↦ (
          w,
          more,
          (path-step problem whole state t rest (w ∷ more)).1 (next, [], w ∷ more, leads, silent, refl, after),
          allowed,
          inl refl,
        )
        | inr ((rank, (v, has, low, reads)), (output, after, allowed, met)) ↦ (
          v,
          output,
          (path-step problem whole state t rest (v ∷ output)).1 (next, v ∷ [], output, leads, reads, refl, after),
          ((rank, has, low), allowed),
          inl refl,
        )
      ]),
    )

    needed-rank : (need : Option ℕ) (v : Item) (rank : ℕ) → HasRank problem.ranking.order v rank → IsNeeded problem.ranking need v → IsNeededRank need rank
    needed-rank None v rank has is = tt
    needed-rank (Some need) v rank has is = rank_unique problem.ranking.order v rank need whole.ranks.once has is

    rank-needed : (need : Option ℕ) (v : Item) (rank : ℕ) → HasRank problem.ranking.order v rank → IsNeededRank need rank → IsNeeded problem.ranking need v
    rank-needed None v rank has is = tt
    rank-needed (Some need) v rank has is = subst (HasRank problem.ranking.order v) is has

    pub unseen-step : (t : Item) (rest : List Item) (state : ℕ)
        → Completes problem bound (t ∷ rest) state false
        ↔ ((next : ℕ) × Leads problem.transducer state next
        × ((Goes problem bound t next × Completes problem bound rest next false) ⊎ (Needs problem bound t next × Completes problem bound rest next true)))
    unseen-step t rest state = (
      (λ (output, path, allowed, met).
          let needed : HoldsNeeded problem.ranking bound.need output = elim met [ inl no' ↦ absurd (search rules) | inr holds ↦ holds ] in
          let (next, leads, either) = path-first state t rest output path in (
            next,
            leads,
            elim either [
              | inl (silent, after) ↦ inl (inl silent, (output, after, allowed, inr needed))
              | inr (v, there, reads, same, after) ↦
                  let all = subst (AllByRecursion (IsAllowed problem.ranking bound)) same allowed in
                  let (rank, has, writes) = writes-rank t next v all.0 reads in
                  let (x, held, is) = subst (HoldsNeeded problem.ranking bound.need) same needed in
                  elim (Contains-cases v there x held) [
                    | inl first ↦ inr (
                      (rank, writes, needed-rank bound.need v rank has (subst (IsNeeded problem.ranking bound.need) first is)),
                      (there, after, all.1, inl refl),
                    )
                    | inr later ↦ inl (inr (rank, writes), (there, after, all.1, inr (x, later, is)))
                  ]
            ],
          )),
      (λ (next, leads, either). elim either [
        | inl (goes, (output, after, allowed, met)) ↦
            let (x, held, is) : HoldsNeeded problem.ranking bound.need output = elim met [ inl no' ↦ absurd (search rules) | inr holds ↦ holds ] in
            elim goes [
              | inl silent ↦ (output, (path-step problem whole state t rest output).1 (next, [], output, leads, silent, refl, after), allowed, inr (x, held, is))
              | inr (rank, (v, has, low, reads)) ↦ (
                v ∷ output,
                (path-step problem whole state t rest (v ∷ output)).1 (next, v ∷ [], output, leads, reads, refl, after),
                ((rank, has, low), allowed),
                inr (x, Contains-other v output x held, is),
              )
            ]
        | inr ((rank, (v, has, low, reads), is), (output, after, allowed, met)) ↦ (
          v ∷ output,
          (path-step problem whole state t rest (v ∷ output)).1 (next, v ∷ [], output, leads, reads, refl, after),
          ((rank, has, low), allowed),
          inr (v, Contains-first v output, rank-needed bound.need v rank has is),
        )
      ]),
    )
