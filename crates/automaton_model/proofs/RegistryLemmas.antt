-- Equal states of a registry are one: a state is looked up by what it accepts at once and its edges, and these
-- tell the lists that it accepts.
use Rattle.std.proofs.Common.{◌≡◌, ℕ, zero, suc, ◌+◌, ◌≤◌, ◌<◌, inl, inr, Some, List, [], ◌∷◌, refl, sym, ap, ◌∙◌, subst, arith}
use Rattle.std.specs.Prelude.{IsTrue}
use Rattle.std.specs.List.{AllPairs, Contains, slice_get}
use Rattle.std.proofs.lemmas.Bool.{cases_lt}
use Rattle.std.proofs.lemmas.Option.{slice_get_within, get_or_from_slice_get}
use Rattle.mine_model.proofs.ListLemmas.{Contains-cases, Contains-none, AllPairs-tail, AllPairs-head, order-same}
use Rattle.mine_model.proofs.ElementLemmas.{same-some}
use Rattle.automaton_model.specs.Automata.{Edge, StateValue, Accepts}
use Rattle.automaton_model.specs.Registry.{AcceptTheSame, IsKeptState, IsRegistry}
use Rattle.automaton_model.proofs.AutomatonLemmas.{bools_same, ranks_apart}

-- where something is accepted a state stands
pub stands : (states : List StateValue) (k : ℕ) (ranks : List ℕ) → Accepts states k ranks → (s : StateValue) × (slice_get states k ≡ Some s)
stands states k [] (s, is, accepts) = (s, is)
stands states k (w ∷ ranks) (s, e, is, held, rank, next) = (s, is)

module _ (states : List StateValue) (registry : IsRegistry states) where
  -- an element that stands at two places stands at one
  pub one_place : (i j : ℕ) (s t : StateValue) → slice_get states i ≡ Some s → slice_get states j ≡ Some t → s ≡ t → i ≡ j
  one_place i j s t p q same = elim (cases_lt i j) [
    | inl less ↦ absurd (registry.once i j s less (slice_get_within states j t q) (get_or_from_slice_get states i s s p ∙ same ∙ sym (get_or_from_slice_get states j t s q)))
    | inr more ↦ elim (cases_lt j i) [
      | inl less ↦ absurd (registry.once j i t less (slice_get_within states i s p) (get_or_from_slice_get states j t t q ∙ sym same ∙ sym (get_or_from_slice_get states i s t p)))
      | inr least ↦ omega (arith, more, least)
    ]
  ]

  pub rank_same : (es : List Edge) → AllPairs (λ (low : Edge) (high : Edge). low.rank < high.rank) es → (e f : Edge) → Contains es e → Contains es f → e.rank ≡ f.rank → e ≡ f
  rank_same [] rising e f here there same = absurd (Contains-none e here)
  rank_same (x ∷ es) rising e f here there same = elim (Contains-cases x es e here) [
    | inl first ↦ elim (Contains-cases x es f there) [
      | inl also ↦ first ∙ sym also
      | inr later ↦ (let less : x.rank < f.rank = AllPairs-head (λ (low : Edge) (high : Edge). low.rank < high.rank) x es rising f later in
          let is : e.rank ≡ x.rank = ap (λ (y : Edge). y.rank) first in absurd (omega (arith, less, same, is)))
    ]
    | inr after ↦ elim (Contains-cases x es f there) [
      | inl also ↦ (let less : x.rank < e.rank = AllPairs-head (λ (low : Edge) (high : Edge). low.rank < high.rank) x es rising e after in
          let is : f.rank ≡ x.rank = ap (λ (y : Edge). y.rank) also in absurd (omega (arith, less, same, is)))
      | inr later ↦ rank_same es (AllPairs-tail (λ (low : Edge) (high : Edge). low.rank < high.rank) x es rising) e f after later same
    ]
  ]

  -- what states with one rest have for edges, where it holds of all earlier ones that equal rests have one state
  edge_there : (bound : ℕ) → ((i j : ℕ) (s t : StateValue) → i < bound → j < bound → slice_get states i ≡ Some s → slice_get states j ≡ Some t → AcceptTheSame states i j → i ≡ j)
      → (i j : ℕ) (s t : StateValue) → slice_get states i ≡ Some s → slice_get states j ≡ Some t → i ≤ bound → j ≤ bound
      → AcceptTheSame states i j → (e : Edge) → Contains s.edges e → Contains t.edges e
  edge_there bound earlier i j s t p q low high same e held =
      let kept = registry.kept i s p in
      let also = registry.kept j t q in
      let (ranks, next) = kept.alive e held in
      let (u, f, is, inside, rank, there) = (same (e.rank ∷ ranks)).0 (s, e, p, held, refl, next) in
      let here : Contains t.edges f = subst (λ (x : StateValue). Contains x.edges f) (same-some u t (slice_get states j) is q) inside in
      let left : e.to < i = kept.back e held in
      let right : f.to < j = also.back f here in
      let (x, x_is) = stands states e.to ranks next in
      let (y, y_is) = stands states f.to ranks there in
      let to : e.to ≡ f.to = earlier e.to f.to x y (omega (arith, left, low)) (omega (arith, right, high)) x_is y_is (λ more. (
        (λ a. accepted j t q also f here more ((same (e.rank ∷ more)).0 (s, e, p, held, refl, a)) rank),
        (λ a. accepted i s p kept e held more (subst (λ r. Accepts states i (r ∷ more)) rank ((same (f.rank ∷ more)).1 (t, f, q, here, refl, a))) refl),
      )) in
      let one : f ≡ e = (λ k. record { rank = rank k; to = sym to k }) in
      subst (Contains t.edges) one here
    where
      -- behind the one edge with this rank the rest is accepted
      accepted : (i : ℕ) (s : StateValue) → slice_get states i ≡ Some s → IsKeptState states i s → (e : Edge) → Contains s.edges e
          → (more : List ℕ) {w : ℕ} → Accepts states i (w ∷ more) → e.rank ≡ w → Accepts states e.to more
      accepted i s p kept e held more (u, f, is, inside, rank, next) same =
          let here : Contains s.edges f = subst (λ (x : StateValue). Contains x.edges f) (same-some u s (slice_get states i) is p) inside in
          let one : f ≡ e = rank_same s.edges kept.rising f e here held (rank ∙ sym same) in
          subst (λ (x : Edge). Accepts states x.to more) one next

  flag_there : (i j : ℕ) (s t : StateValue) → slice_get states i ≡ Some s → slice_get states j ≡ Some t → AcceptTheSame states i j → IsTrue s.accepts → IsTrue t.accepts
  flag_there i j s t p q same accepts =
      let (u, is, also) = (same []).0 (s, p, accepts) in
      subst (λ (x : StateValue). IsTrue x.accepts) (same-some u t (slice_get states j) is q) also

  same_back : (i j : ℕ) → AcceptTheSame states i j → AcceptTheSame states j i
  same_back i j same = λ ranks. ((same ranks).1, (same ranks).0)

  below : (bound : ℕ) (i j : ℕ) → i < bound → j < bound → (s t : StateValue) → slice_get states i ≡ Some s → slice_get states j ≡ Some t → AcceptTheSame states i j → i ≡ j
  below zero i j low high s t p q same = absurd (omega (arith, low))
  below (suc bound) i j low high s t p q same =
      let earlier : (k l : ℕ) (u v : StateValue) → k < bound → l < bound → slice_get states k ≡ Some u → slice_get states l ≡ Some v → AcceptTheSame states k l → k ≡ l = λ k l u v left right is as_well one.
      below bound k l left right u v is as_well one in
      let accepts : s.accepts ≡ t.accepts = bools_same (λ (ranks : List ℕ). Unit {0}) s.accepts t.accepts (flag_there i j s t p q same, flag_there j i t s q p (same_back i j same)) in
      let edges : s.edges ≡ t.edges = order-same (λ (low : Edge) (high : Edge). low.rank < high.rank) (ranks_apart (λ (ranks : List ℕ). Unit {0})) s.edges t.edges
      (registry.kept i s p).rising (registry.kept j t q).rising
      (edge_there bound earlier i j s t p q (omega (arith, low)) (omega (arith, high)) same)
      (edge_there bound earlier j i t s q p (omega (arith, high)) (omega (arith, low)) (same_back i j same)) in
      one_place i j s t p q (λ k. record { accepts = accepts k; edges = edges k })

  -- STATES of a registry that accept the same lists are one
  pub registry-same : (i j : ℕ) (s t : StateValue) → slice_get states i ≡ Some s → slice_get states j ≡ Some t → AcceptTheSame states i j → i ≡ j
  registry-same i j s t p q same =
      below (suc i + suc j) i j (omega arith) (omega arith) s t p q same
