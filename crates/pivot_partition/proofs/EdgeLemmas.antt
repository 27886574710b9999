-- Numbers that go along edges.
use Rattle.std.proofs.Common.{◌≡◌, ℕ, ◌+◌, ◌<◌, ◌≤◌, ◌⊎◌, ◌↔◌, inl, inr, false, min, List, [], ◌∷◌, length, get_or, set, take, refl, sym, ap, ◌∙◌, subst, arith}
use Rattle.std.specs.List.{Contains, slice_index}
use Rattle.std.proofs.lemmas.Bool.{cases_eq, cases_lt}
use Rattle.std.proofs.lemmas.List.{get_or-set_same, get_or-set_other, take_more, take_all}
use Rattle.std.proofs.lemmas.List.Elements.{Contains-append_left, Contains-push, Contains-push_cases}
use Rattle.mine_model.proofs.ListLemmas.{Contains-none}
use Rattle.mine_model.specs.declared.expression.Leaf.TheVariants.{Under}
use Rattle.fst_compile.specs.declared.edge.Edge.{Edge}
use Rattle.fst_compile.specs.Transducer.{Transducer, Leads, edges_from}
use Rattle.pivot_partition.specs.Tops.{no_rank}

-- what is read past the end of a list of edges
abbrev pub no_edge : Edge
no_edge = record { leaf = Under (record { 0 = 0 }); captured = false; to = record { 0 = 0 } }

-- an edge leads to the state
abbrev pub LeadTo : List Edge → ℕ → Type 0
LeadTo edges state = (edge : Edge) × Contains edges edge × (edge.to.0 ≡ state)

-- the states that the edges lead to have this number, where theirs was greater
abbrev pub AreLowered : List ℕ → ℕ → List Edge → List ℕ → Type 0
AreLowered before top edges after = (state p : ℕ) → slice_index after state ≤ p ↔ ((slice_index before state ≤ p) ⊎ ((top ≤ p) × LeadTo edges state))

pub lowered-none : (before : List ℕ) (top : ℕ) → AreLowered before top [] before
lowered-none before top = λ state p. (
  (λ low. inl low),
  (λ either. elim either [ inl low ↦ low | inr (under, (edge, held, is)) ↦ absurd (Contains-none edge held) ]),
)

pub lowered-more : (before after : List ℕ) (top : ℕ) (edges : List Edge) (i : ℕ) (d : Edge) → i < length edges → (get_or edges i d).to.0 < length after
    → AreLowered before top (take i edges) after
    → AreLowered before top (take (i + 1) edges) (set after (get_or edges i d).to.0 (min (get_or after (get_or edges i d).to.0 0) top))
lowered-more before after top edges i d inside within are = λ state p.
    let old = are state p in
    rw (take_more edges i d inside)
    (elim (cases_eq state (get_or edges i d).to.0) [
      | inl same ↦
          let at : slice_index (set after (get_or edges i d).to.0 (min (get_or after (get_or edges i d).to.0 0) top)) state ≡ min (get_or after (get_or edges i d).to.0 0) top =
          subst (λ s. slice_index (set after (get_or edges i d).to.0 (min (get_or after (get_or edges i d).to.0 0) top)) s ≡ min (get_or after (get_or edges i d).to.0 0) top) (sym same)
          (get_or-set_same after (get_or edges i d).to.0 (min (get_or after (get_or edges i d).to.0 0) top) 0 within) in
          let here : get_or after (get_or edges i d).to.0 0 ≡ slice_index after state = ap (λ s. get_or after s 0) (sym same) in (
            (λ low. elim (cases_lt p (slice_index after state)) [
              | inl over ↦ inr (omega (arith, low, at, here, over), (get_or edges i d, Contains-push (take i edges) (get_or edges i d), sym same))
              | inr under ↦ elim (old.0 under) [
                | inl was ↦ inl was
                | inr (high, (edge, held, is)) ↦ inr (high, (edge, Contains-append_left (take i edges) (get_or edges i d ∷ []) edge held, is))
              ]
            ]),
            (λ either. elim either [
              | inl was ↦ let under : slice_index after state ≤ p = old.1 (inl was) in omega (arith, at, here, under)
              | inr (high, found) ↦ omega (arith, at, here, high)
            ]),
          )
      | inr other ↦
          let at : slice_index (set after (get_or edges i d).to.0 (min (get_or after (get_or edges i d).to.0 0) top)) state ≡ slice_index after state =
          get_or-set_other after (get_or edges i d).to.0 state (min (get_or after (get_or edges i d).to.0 0) top) 0 other in (
            (λ low. elim (old.0 (subst (λ n. n ≤ p) at low)) [
              | inl was ↦ inl was
              | inr (high, (edge, held, is)) ↦ inr (high, (edge, Contains-append_left (take i edges) (get_or edges i d ∷ []) edge held, is))
            ]),
            (λ either. subst (λ n. n ≤ p) (sym at) (elim either [
              | inl was ↦ old.1 (inl was)
              | inr (high, (edge, held, is)) ↦ elim (Contains-push_cases (take i edges) (get_or edges i d) edge held) [
                | inl there ↦ old.1 (inr (high, (edge, there, is)))
                | inr same ↦ absurd (other (sym is ∙ ap (λ (e : Edge). e.to.0) (sym same)))
              ]
            ])),
          )
    ])

pub lowered-all : (before after : List ℕ) (top : ℕ) (edges : List Edge) (i : ℕ) → length edges ≤ i → AreLowered before top (take i edges) after → AreLowered before top edges after
lowered-all before after top edges i over are = subst (λ (l : List Edge). AreLowered before top l after) (take_all i edges over) are

-- each state has the least number of those below the count that lead to it
abbrev pub AreSpreadSoFar : Transducer → List ℕ → ℕ → List ℕ → Type 0
AreSpreadSoFar transducer front count entered = (state p : ℕ) → state ≤ length transducer.labels → p < no_rank
    → slice_index entered state ≤ p ↔ ((from : ℕ) × (from < count) × (slice_index front from ≤ p) × Leads transducer from state)

module _ (transducer : Transducer) (front : List ℕ) where
  pub spread-none : (entered : List ℕ) → ((k : ℕ) → k < length entered → slice_index entered k ≡ no_rank) → length entered ≡ length transducer.labels + 1 → AreSpreadSoFar transducer front 0 entered
  spread-none entered none long = λ state p inside below. (
    (λ low. let is = none state (omega (arith, inside, long)) in absurd (omega (arith, low, is, below))),
    (λ (from, less, low, leads). absurd (omega (arith, less))),
  )

  module _ (count : ℕ) (entered : List ℕ) (before : AreSpreadSoFar transducer front count entered) where
    pub spread-pass : slice_index front count ≡ no_rank → AreSpreadSoFar transducer front (count + 1) entered
    spread-pass none = λ state p inside below.
        let old = before state p inside below in (
          (λ low. let (from, less, under, leads) = old.0 low in (from, omega (arith, less), under, leads)),
          (λ (from, less, under, leads). elim (cases_eq from count) [
            | inl same ↦ let at : slice_index front from ≡ no_rank = ap (slice_index front) same ∙ none in absurd (omega (arith, at, under, below))
            | inr other ↦ old.1 (from, omega (arith, less, other), under, leads)
          ]),
        )

    pub spread-more : (after : List ℕ) (edges : List Edge) (top : ℕ) → top ≡ slice_index front count → edges ≡ edges_from transducer count → AreLowered entered top edges after
        → AreSpreadSoFar transducer front (count + 1) after
    spread-more after edges top is are lowered = λ state p inside below.
        let old = before state p inside below in
        let new' = lowered state p in (
          (λ low. elim (new'.0 low) [
            | inl was ↦ let (from, less, under, leads) = old.0 was in (from, omega (arith, less), under, leads)
            | inr (high, (edge, held, to)) ↦ (count, omega arith, omega (arith, high, is), (edge, subst (λ (l : List Edge). Contains l edge) are held, to))
          ]),
          (λ (from, less, under, leads). elim (cases_eq from count) [
            | inl same ↦
                let (edge, held, to) = subst (λ f. Leads transducer f state) same leads in
                let high : top ≤ p = let at : slice_index front from ≡ slice_index front count = ap (slice_index front) same in omega (arith, at, under, is) in
                new'.1 (inr (high, (edge, subst (λ (l : List Edge). Contains l edge) (sym are) held, to)))
            | inr other ↦ new'.1 (inl (old.1 (from, omega (arith, less, other), under, leads)))
          ]),
        )

  pub spread-all : (count : ℕ) (entered : List ℕ) → count ≡ length transducer.labels + 1 → AreSpreadSoFar transducer front count entered
      → (state p : ℕ) → state ≤ length transducer.labels → p < no_rank
      → slice_index entered state ≤ p ↔ ((from : ℕ) × (from ≤ length transducer.labels) × (slice_index front from ≤ p) × Leads transducer from state)
  spread-all count entered all is state p inside below =
      let old = is state p inside below in (
        (λ low. let (from, less, under, leads) = old.0 low in (from, omega (arith, less, all), under, leads)),
        (λ (from, less, under, leads). old.1 (from, omega (arith, less, all), under, leads)),
      )

-- the least number behind the edges of a state is that of the states that it leads to
pub least-leads : (transducer : Transducer) (entered : List ℕ) (state : ℕ) (edges : List Edge) → edges ≡ edges_from transducer state → (least : ℕ)
    → ((p : ℕ) → p < no_rank → least ≤ p ↔ ((edge : Edge) × Contains edges edge × (slice_index entered edge.to.0 ≤ p)))
    → (p : ℕ) → p < no_rank → least ≤ p ↔ ((to : ℕ) × Leads transducer state to × (slice_index entered to ≤ p))
least-leads transducer entered state edges are least each p below =
    let is = each p below in (
      (λ low. let (edge, held, under) = is.0 low in (edge.to.0, (edge, subst (λ (l : List Edge). Contains l edge) are held, refl), under)),
      (λ (to, (edge, held, same), under). is.1 (edge, subst (λ (l : List Edge). Contains l edge) (sym are) held, subst (λ s. slice_index entered s ≤ p) (sym same) under)),
    )
