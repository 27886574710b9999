-- Sets of states and edges between states, while loops make them.
use Rattle.std.proofs.Common.{◌≡◌, ℕ, ◌+◌, ◌<◌, ◌≤◌, ◌⊎◌, ◌↔◌, inl, inr, List, length, set, get_or, arith, refl, sym, ap, ◌∙◌, subst, get_or-set_other, get_or-set_same}
use Rattle.std.specs.List.{Contains}
use Rattle.std.proofs.Math.ListN.{length-set}
use Rattle.std.proofs.lemmas.List.{get_or_default}
use Rattle.std.proofs.lemmas.List.Elements.{Contains-get_or}
use Rattle.std.proofs.lemmas.Bool.{cases_eq}
use Rattle.state_bits.specs.Members.{Has}
use Rattle.state_bits.proofs.NeighbourLemmas.{Has-none}
use Rattle.fst_compile.specs.Rows.{HasEdge, Adds, IsSetOf}

-- the set has the first so many of these states, and no others
pub record IsSetSoFar (members : ℕ) (states : List ℕ) (index : ℕ) : Type 0 where
  pub listed : (k : ℕ) → Has members k → Contains states k
  pub added : (i : ℕ) → i < index → Has members (get_or states i 0)

pub IsSetSoFar-none : (states : List ℕ) → IsSetSoFar 0 states 0
IsSetSoFar-none states = record { listed = λ k has. absurd (Has-none k has); added = λ i none. absurd (omega arith) }

pub IsSetSoFar-more : (before after : ℕ) (states : List ℕ) (index : ℕ) → IsSetSoFar before states index → index < length states
    → ((r : ℕ) → Has after r ↔ (Has before r ⊎ (r ≡ get_or states index 0))) → IsSetSoFar after states (index + 1)
IsSetSoFar-more before after states index so_far inside step = record {
  listed = λ k has. elim ((step k).0 has) [
    | inl had ↦ so_far.listed k had
    | inr same ↦ subst (λ (x : ℕ). Contains states x) (sym same) (Contains-get_or states index 0 inside)
  ];
  added = λ i below. elim (cases_eq i index) [
    | inl same ↦ (step (get_or states i 0)).1 (inr (ap (λ (x : ℕ). get_or states x 0) same))
    | inr earlier ↦ (step (get_or states i 0)).1 (inl (so_far.added i (omega arith)))
  ];
}

pub IsSetSoFar-all : (members : ℕ) (states : List ℕ) (index : ℕ) → IsSetSoFar members states index → length states ≤ index → IsSetOf members states
IsSetSoFar-all members states index so_far over k = (
  (λ has. so_far.listed k has),
  (λ (i, inside, found).
      let same : get_or states i 0 ≡ k = get_or_default states i 0 k inside ∙ found in
      subst (λ (x : ℕ). Has members x) same (so_far.added i (omega arith))),
)

-- edges lead from the first so many of these states to the targets
pub record IsLinkedSoFar (before after last : List ℕ) (targets index : ℕ) : Type 0 where
  pub long : length after ≡ length before
  pub sound : (j k : ℕ) → HasEdge after j k → HasEdge before j k ⊎ (Contains last j × Has targets k)
  pub kept : (j k : ℕ) → HasEdge before j k → HasEdge after j k
  pub linked : (i k : ℕ) → i < index → Has targets k → HasEdge after (get_or last i 0) k

pub IsLinkedSoFar-none : (before last : List ℕ) (targets : ℕ) → IsLinkedSoFar before before last targets 0
IsLinkedSoFar-none before last targets = record {
  long = refl;
  sound = λ j k has. inl has;
  kept = λ j k has. has;
  linked = λ i k none has. absurd (omega arith);
}

pub IsLinkedSoFar-more : (before after last : List ℕ) (targets index row : ℕ) → IsLinkedSoFar before after last targets index
    → index < length last → get_or last index 0 < length before
    → ((k : ℕ) → Has row k ↔ (Has (get_or after (get_or last index 0) 0) k ⊎ Has targets k))
    → IsLinkedSoFar before (set after (get_or last index 0) row) last targets (index + 1)
IsLinkedSoFar-more before after last targets index row so_far inside within step = record {
  long = length-set after (get_or last index 0) row ∙ so_far.long;
  sound = λ j k has. elim (cases_eq j (get_or last index 0)) [
    | inl here ↦ elim ((step k).0 (rw (here, at_row) at has)) [
      | inl had ↦ so_far.sound j k (rw here had)
      | inr is ↦ inr (subst (λ (x : ℕ). Contains last x) (sym here) (Contains-get_or last index 0 inside), is)
    ]
    | inr elsewhere ↦ so_far.sound j k (subst (λ (x : ℕ). Has x k) (get_or-set_other after (get_or last index 0) j row 0 elsewhere) has)
  ];
  kept = λ j k had. grown j k (so_far.kept j k had);
  linked = λ i k below is. elim (cases_eq i index) [
    | inl same ↦ rw same (subst (λ (x : ℕ). Has x k) (sym at_row) ((step k).1 (inr is)))
    | inr earlier ↦ grown (get_or last i 0) k (so_far.linked i k (omega arith) is)
  ];
}
  where
    place_within : get_or last index 0 < length after
    place_within = let long = so_far.long in omega arith

    at_row : get_or (set after (get_or last index 0) row) (get_or last index 0) 0 ≡ row
    at_row = get_or-set_same after (get_or last index 0) row 0 place_within

    grown : (j k : ℕ) → HasEdge after j k → HasEdge (set after (get_or last index 0) row) j k
    grown j k had = elim (cases_eq j (get_or last index 0)) [
      | inl here ↦ rw here (subst (λ (x : ℕ). Has x k) (sym at_row) ((step k).1 (inl (rw here at had))))
      | inr elsewhere ↦ subst (λ (x : ℕ). Has x k) (sym (get_or-set_other after (get_or last index 0) j row 0 elsewhere)) had
    ]

pub IsLinkedSoFar-all : (before after last first : List ℕ) (targets index : ℕ) → IsLinkedSoFar before after last targets index → length last ≤ index
    → IsSetOf targets first → Adds before after (λ j k. Contains last j × Contains first k)
IsLinkedSoFar-all before after last first targets index so_far over is = record {
  long = so_far.long;
  edges = λ j k. (
    (λ has. elim (so_far.sound j k has) [ inl had ↦ inl had | inr (from, to) ↦ inr (from, (is k).0 to) ]),
    (λ has. elim has [
      | inl had ↦ so_far.kept j k had
      | inr ((i, inside, found), to) ↦
          let same : get_or last i 0 ≡ j = get_or_default last i 0 j inside ∙ found in
          subst (λ (x : ℕ). HasEdge after x k) same (so_far.linked i k (omega arith) ((is k).1 to))
    ]),
  );
}

-- ---- edges added one after another

pub Adds-nothing : (rows : List ℕ) (Added : ℕ → ℕ → Type 0) → ((j k : ℕ) → Added j k → ⊥) → Adds rows rows Added
Adds-nothing rows Added none = record {
  long = refl;
  edges = λ j k. ((λ has. inl has), (λ has. elim has [ inl had ↦ had | inr added ↦ absurd (none j k added) ]));
}

pub Adds-same : (before after : List ℕ) (P Q : ℕ → ℕ → Type 0) → Adds before after P → ((j k : ℕ) → P j k → Q j k) → ((j k : ℕ) → Q j k → P j k) → Adds before after Q
Adds-same before after P Q adds to from = record {
  long = adds.long;
  edges = λ j k. (
    (λ has. elim ((adds.edges j k).0 has) [ inl had ↦ inl had | inr added ↦ inr (to j k added) ]),
    (λ has. elim has [ inl had ↦ (adds.edges j k).1 (inl had) | inr added ↦ (adds.edges j k).1 (inr (from j k added)) ]),
  );
}

pub Adds-both : (before middle after : List ℕ) (P Q : ℕ → ℕ → Type 0) → Adds before middle P → Adds middle after Q → Adds before after (λ j k. P j k ⊎ Q j k)
Adds-both before middle after P Q first second = record {
  long = second.long ∙ first.long;
  edges = λ j k. (
    (λ has. elim ((second.edges j k).0 has) [
      | inl had ↦ elim ((first.edges j k).0 had) [ inl older ↦ inl older | inr added ↦ inr (inl added) ]
      | inr added ↦ inr (inr added)
    ]),
    (λ has. elim has [
      | inl older ↦ (second.edges j k).1 (inl ((first.edges j k).1 (inl older)))
      | inr added ↦ elim added [
        | inl p ↦ (second.edges j k).1 (inl ((first.edges j k).1 (inr p)))
        | inr q ↦ (second.edges j k).1 (inr q)
      ]
    ]),
  );
}
