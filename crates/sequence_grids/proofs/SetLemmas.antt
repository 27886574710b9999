-- Sets of states, and the states before others, while loops make them.
use Rattle.std.proofs.Common.{◌≡◌, ℕ, ◌+◌, ◌<◌, ◌≤◌, ◌⊎◌, ◌↔◌, inl, inr, List, length, set, get_or, arith, refl, sym, ap, ◌∙◌, subst, get_or-set_other, get_or-set_same}
use Rattle.std.specs.List.{Contains, All}
use Rattle.std.proofs.Math.ListN.{length-set}
use Rattle.std.proofs.lemmas.List.{get_or_default}
use Rattle.std.proofs.lemmas.List.Elements.{Contains-get_or}
use Rattle.std.proofs.lemmas.Bool.{cases_eq}
use Rattle.state_bits.specs.Members.{Has}
use Rattle.fst_compile.specs.declared.edge.Edge.{Edge}
use Rattle.fst_compile.specs.Rows.{HasEdge, Adds}
use Rattle.fst_compile.specs.declared.edge.Label.{Label}
use Rattle.fst_compile.specs.Transducer.{Transducer, Enters, Leads, edges_from}
use Rattle.state_bits.proofs.NeighbourLemmas.{Has-none}
use Rattle.sequence_grids.specs.Tables.{Precedes, LeadTo}

pub Precedes-none : (sets : List ℕ) → ((k : ℕ) → get_or sets k 0 ≡ 0) → (q k : ℕ) → Precedes sets q k → ⊥
Precedes-none sets none q k has = Has-none q (subst (λ (x : ℕ). Has x q) (none k) has)

-- q was added to those before the targets of the first so many edges
pub record IsAddedSoFar (before after : List ℕ) (edges : List Edge) (q index : ℕ) : Type 0 where
  pub long : length after ≡ length before
  pub sound : (k r : ℕ) → HasEdge after k r → HasEdge before k r ⊎ ((r ≡ q) × LeadTo edges k)
  pub kept : (k r : ℕ) → HasEdge before k r → HasEdge after k r
  pub added : (i : ℕ) (d : Edge) → i < index → HasEdge after (get_or edges i d).to.0 q

pub IsAddedSoFar-none : (before : List ℕ) (edges : List Edge) (q : ℕ) → IsAddedSoFar before before edges q 0
IsAddedSoFar-none before edges q = record {
  long = refl;
  sound = λ k r has. inl has;
  kept = λ k r has. has;
  added = λ i d none. absurd (omega arith);
}

pub IsAddedSoFar-more : (before after : List ℕ) (edges : List Edge) (q index row : ℕ) (edge : Edge) → IsAddedSoFar before after edges q index
    → index < length edges → edge ≡ get_or edges index edge → edge.to.0 < length after
    → ((r : ℕ) → Has row r ↔ (Has (get_or after edge.to.0 0) r ⊎ (r ≡ q)))
    → IsAddedSoFar before (set after edge.to.0 row) edges q (index + 1)
IsAddedSoFar-more before after edges q index row edge so_far inside is within step = record {
  long = length-set after edge.to.0 row ∙ so_far.long;
  sound = λ k r has. elim (cases_eq k edge.to.0) [
    | inl here ↦ elim ((step r).0 (rw (here, at_row) at has)) [
      | inl had ↦ so_far.sound k r (rw here had)
      | inr same ↦ inr (same, (edge, (index, inside, sym is), sym here))
    ]
    | inr elsewhere ↦ so_far.sound k r (subst (λ (x : ℕ). Has x r) (get_or-set_other after edge.to.0 k row 0 elsewhere) has)
  ];
  kept = λ k r had. grown k r (so_far.kept k r had);
  added = λ i d below. elim (cases_eq i index) [
    | inl same ↦
        let this : get_or edges i d ≡ edge = ap (λ (x : ℕ). get_or edges x d) same ∙ get_or_default edges index d edge inside ∙ sym is in
        subst (λ (e : Edge). HasEdge (set after edge.to.0 row) e.to.0 q) (sym this) (subst (λ (x : ℕ). Has x q) (sym at_row) ((step q).1 (inr refl)))
    | inr earlier ↦ grown (get_or edges i d).to.0 q (so_far.added i d (omega arith))
  ];
}
  where
    at_row : get_or (set after edge.to.0 row) edge.to.0 0 ≡ row
    at_row = get_or-set_same after edge.to.0 row 0 within

    grown : (k r : ℕ) → HasEdge after k r → HasEdge (set after edge.to.0 row) k r
    grown k r had = elim (cases_eq k edge.to.0) [
      | inl here ↦ rw here (subst (λ (x : ℕ). Has x r) (sym at_row) ((step r).1 (inl (rw here at had))))
      | inr elsewhere ↦ subst (λ (x : ℕ). Has x r) (sym (get_or-set_other after edge.to.0 k row 0 elsewhere)) had
    ]

pub IsAddedSoFar-all : (before after : List ℕ) (edges : List Edge) (q index : ℕ) → IsAddedSoFar before after edges q index → length edges ≤ index
    → Adds before after (λ k r. (r ≡ q) × LeadTo edges k)
IsAddedSoFar-all before after edges q index so_far over = record {
  long = so_far.long;
  edges = λ k r. (
    so_far.sound k r,
    (λ has. elim has [
      | inl had ↦ so_far.kept k r had
      | inr (same, (edge, (i, inside, found), to)) ↦
          let there : HasEdge after (get_or edges i edge).to.0 q = so_far.added i edge (omega arith) in
          subst (λ (x : ℕ). HasEdge after k x) (sym same) (subst (λ (x : ℕ). HasEdge after x q) (ap (λ (e : Edge). e.to.0) found ∙ to) there)
    ]),
  );
}

-- ---- members that a loop over all states adds

pub record IsTakenSoFar (members all : ℕ) (index : ℕ) : Type 0 where
  pub exact : (q : ℕ) → Has members q ↔ ((q < index) × Has all q)

pub IsTakenSoFar-none : (all : ℕ) → IsTakenSoFar 0 all 0
IsTakenSoFar-none all = record { exact = λ q. ((λ has. absurd (Has-none q has)), (λ h. absurd (omega (arith, h.0)))) }

pub IsTakenSoFar-skip : (members all index : ℕ) → IsTakenSoFar members all index → (Has all index → ⊥) → IsTakenSoFar members all (index + 1)
IsTakenSoFar-skip members all index so_far not_here = record {
  exact = λ q. (
    (λ has. let (below, is) = (so_far.exact q).0 has in (omega arith, is)),
    (λ h. let (below, is) = h in elim (cases_eq q index) [
      | inl same ↦ absurd (not_here (subst (λ (x : ℕ). Has all x) same is))
      | inr other ↦ (so_far.exact q).1 (omega arith, is)
    ]),
  );
}

pub IsTakenSoFar-take : (before after all index : ℕ) → IsTakenSoFar before all index → Has all index → ((r : ℕ) → Has after r ↔ (Has before r ⊎ (r ≡ index)))
    → IsTakenSoFar after all (index + 1)
IsTakenSoFar-take before after all index so_far here step = record {
  exact = λ q. (
    (λ has. elim ((step q).0 has) [
      | inl had ↦ let (below, is) = (so_far.exact q).0 had in (omega arith, is)
      | inr same ↦ (omega arith, subst (λ (x : ℕ). Has all x) (sym same) here)
    ]),
    (λ h. let (below, is) = h in elim (cases_eq q index) [
      | inl same ↦ (step q).1 (inr same)
      | inr other ↦ (step q).1 (inl ((so_far.exact q).1 (omega arith, is)))
    ]),
  );
}

-- ---- the states before each state, from the edges of the first so many states

pub record ArePredecessorsSoFar (transducer : Transducer) (predecessors : List ℕ) (index : ℕ) : Type 0 where
  pub long : length predecessors ≡ length transducer.labels + 1
  pub exact : (r k : ℕ) → Precedes predecessors r k ↔ ((r < index) × Leads transducer r k)

pub ArePredecessorsSoFar-none : (transducer : Transducer) (predecessors : List ℕ) → length predecessors ≡ length transducer.labels + 1 → ((q k : ℕ) → Precedes predecessors q k → ⊥)
    → ArePredecessorsSoFar transducer predecessors 0
ArePredecessorsSoFar-none transducer predecessors long none = record {
  long = long;
  exact = λ r k. ((λ has. absurd (none r k has)), (λ h. absurd (omega (arith, h.0))));
}

pub ArePredecessorsSoFar-more : (transducer : Transducer) (before after : List ℕ) (edges : List Edge) (index : ℕ) → ArePredecessorsSoFar transducer before index
    → edges ≡ edges_from transducer index → Adds before after (λ k r. (r ≡ index) × LeadTo edges k) → ArePredecessorsSoFar transducer after (index + 1)
ArePredecessorsSoFar-more transducer before after edges index so_far are adds = record {
  long = adds.long ∙ so_far.long;
  exact = λ r k. (
    (λ has. elim ((adds.edges k r).0 has) [
      | inl had ↦ let (below, leads) = (so_far.exact r k).0 had in (omega arith, leads)
      | inr (same, to) ↦ (
        omega arith,
        subst (λ (x : ℕ). Leads transducer x k) (sym same) (subst (λ (es : List Edge). LeadTo es k) are to),
      )
    ]),
    (λ h. let (below, leads) = h in elim (cases_eq r index) [
      | inl same ↦ (adds.edges k r).1 (inr (
        same,
        subst (λ (es : List Edge). LeadTo es k) (sym are) (subst (λ (x : ℕ). Leads transducer x k) same leads),
      ))
      | inr other ↦ (adds.edges k r).1 (inl ((so_far.exact r k).1 (omega arith, leads)))
    ]),
  );
}

pub ArePredecessorsSoFar-all : (transducer : Transducer) (predecessors : List ℕ) (index : ℕ) → ArePredecessorsSoFar transducer predecessors index → length transducer.labels < index
    → (q k : ℕ) → q ≤ length transducer.labels → Precedes predecessors q k ↔ Leads transducer q k
ArePredecessorsSoFar-all transducer predecessors index so_far over q k state = (
  (λ has. ((so_far.exact q k).0 has).1),
  (λ leads. (so_far.exact q k).1 (omega arith, leads)),
)

-- edges that carry labels lead to states
pub targets_within : (labels : List Label) (edges : List Edge) (count : ℕ) → ((edge : Edge) → Contains edges edge → Enters labels edge) → count ≡ length labels + 1
    → All (λ edge. edge.to.0 < count) edges
targets_within labels edges count labelled long k d inside =
    let enters = labelled (get_or edges k d) (Contains-get_or edges k d inside) in
    omega (arith, enters.to, enters.within)
