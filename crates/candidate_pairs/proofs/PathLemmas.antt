-- The lists that are accepted from a node, edge by edge.
use Rattle.std.proofs.Common.{◌≡◌, ◌↔◌, ◌⊎◌, inl, inr, ℕ, ◌+◌, ◌<◌, Bool, true, false, true≢false, IsTrue, if◌then◌else◌, List, [], ◌∷◌, refl, sym, ap, ◌∙◌, subst, arith}
use Rattle.std.specs.List.{AllPairs, Contains}
use Rattle.mine_model.specs.Numbers.{IsNumberOf}
use Rattle.mine_model.proofs.ListLemmas.{Contains-cases, Contains-first, Contains-other, Contains-none, AllPairs-head, AllPairs-tail}
use Rattle.mine_model.proofs.NumberLemmas.{IsNumberOf-by}
use Rattle.mine_model.proofs.ElementLemmas.{first-same}
use Rattle.candidate_graph.specs.declared.edge.Edge.{Edge}
use Rattle.candidate_graph.specs.Graphs.{Node}
use Rattle.candidate_graph.specs.Paths.{Accepts}
use Rattle.graph_order.specs.Orders.{IsSomeGraph}
use Rattle.graph_order.proofs.StepLemmas.{AreStepsOf, step-held, steps-rising}
use Rattle.candidate_pairs.specs.Paths.{HasPaths, ending, HavePaths}
use Rattle.candidate_pairs.proofs.NumberLemmas.{number-none, number-one, number-also, number-either}

-- ---- one list

rest-same : (r s : ℕ) (xs ys : List ℕ) → r ∷ xs ≡ s ∷ ys → xs ≡ ys
rest-same r s xs ys same = cc

some-list : (r : ℕ) (xs : List ℕ) → [] ≡ r ∷ xs → ⊥
some-list r xs same = cc

-- the list of the rank alone, or none
alone : (rank : ℕ) (ends : Bool) → IsNumberOf (λ list. (list ≡ rank ∷ []) × IsTrue ends) (if ends then 1 else 0)
alone rank true = number-one (λ list. (list ≡ rank ∷ []) × IsTrue true) (rank ∷ []) (refl, refl) (λ list is. is.0)
alone rank false = number-none (λ list. (list ≡ rank ∷ []) × IsTrue false) (λ list is. true≢false (sym is.1))

-- ---- lists that begin with an edge

module _ (nodes : List Node) where
  -- the list ends with the edge
  abbrev EndsWith : Edge → List ℕ → Type 0
  EndsWith edge list = (list ≡ edge.rank ∷ []) × IsTrue edge.ends

  -- the list goes on behind the edge
  abbrev GoesOn : Edge → List ℕ → Type 0
  GoesOn edge list = (rest : List ℕ) × (list ≡ edge.rank ∷ rest) × Accepts nodes edge.next rest

  abbrev GoesBy : Edge → List ℕ → Type 0
  GoesBy edge list = EndsWith edge list ⊎ GoesOn edge list

  -- the list begins with one of the edges
  abbrev Begins : List Edge → List ℕ → Type 0
  Begins edges list = (edge : Edge) × Contains edges edge × GoesBy edge list

  first-rank : (edge : Edge) (rank : ℕ) (rest : List ℕ) → GoesBy edge (rank ∷ rest) → rank ≡ edge.rank
  first-rank edge rank rest by = elim by [
    | inl ends ↦ first-same rank edge.rank rest [] ends.0
    | inr (behind, is, more) ↦ first-same rank edge.rank rest behind is
  ]

  no-rank : (edge : Edge) → GoesBy edge [] → ⊥
  no-rank edge by = elim by [
    | inl ends ↦ some-list edge.rank [] ends.0
    | inr (behind, is, more) ↦ some-list edge.rank behind is
  ]

  by-edge : (edge : Edge) (behind : ℕ) → HasPaths nodes edge.next behind → IsNumberOf (GoesBy edge) (ending edge + behind)
  by-edge edge behind has =
      number-either (EndsWith edge) (GoesOn edge) (GoesBy edge) (ending edge) behind
      (λ list ends (rest, is, more). subst (Accepts nodes edge.next) (rest-same edge.rank edge.rank rest [] (sym is ∙ ends.0)) more)
      (λ list. ((λ either. either), (λ either. either)))
      (alone edge.rank edge.ends)
      (IsNumberOf-by (Accepts nodes edge.next) (GoesOn edge) (λ rest. edge.rank ∷ rest) behind
      (λ one other here there same. rest-same edge.rank edge.rank one other same)
      (λ rest more. (rest, refl, more))
      (λ list (rest, is, more). (rest, is, more)) has)

  -- edges of other ranks begin other lists
  apart : (edge : Edge) (edges : List Edge) → AllPairs (λ (low : Edge) (high : Edge). low.rank < high.rank) (edge ∷ edges)
      → (list : List ℕ) → GoesBy edge list → Begins edges list → ⊥
  apart edge edges rising [] by (other, held, also) = no-rank edge by
  apart edge edges rising (rank ∷ rest) by (other, held, also) =
      let less : edge.rank < other.rank = AllPairs-head (λ (low : Edge) (high : Edge). low.rank < high.rank) edge edges rising other held in
      omega (arith, less, first-rank edge rank rest by, first-rank other rank rest also)

  begins-with : (edge : Edge) (edges : List Edge) (list : List ℕ) → (GoesBy edge list ⊎ Begins edges list) ↔ Begins (edge ∷ edges) list
  begins-with edge edges list = (
    (λ either. elim either [
      | inl by ↦ (edge, Contains-first edge edges, by)
      | inr (other, held, by) ↦ (other, Contains-other edge edges other held, by)
    ]),
    (λ (other, held, by). elim (Contains-cases edge edges other held) [
      | inl same ↦ inl (subst (λ (e : Edge). GoesBy e list) same by)
      | inr later ↦ inr (other, later, by)
    ]),
  )

  begin-all : (edges : List Edge) (count : ℕ) → AllPairs (λ (low : Edge) (high : Edge). low.rank < high.rank) edges → HavePaths nodes edges count
      → IsNumberOf (Begins edges) count
  begin-all [] count rising none =
      subst (IsNumberOf (Begins [])) (sym none) (number-none (Begins []) (λ list (edge, held, by). Contains-none edge held))
  begin-all (edge ∷ edges) count rising (behind, rest, is, here, more) =
      subst (IsNumberOf (Begins (edge ∷ edges))) (sym is)
      (number-either (GoesBy edge) (Begins edges) (Begins (edge ∷ edges)) (ending edge + behind) rest (apart edge edges rising) (begins-with edge edges)
      (by-edge edge behind here)
      (begin-all edges rest (AllPairs-tail (λ (low : Edge) (high : Edge). low.rank < high.rank) edge edges rising) more))

  -- ---- the lists of a node

  module _ (number : ℕ) (edges : List Edge) (are : AreStepsOf nodes number edges) where
    begins-accepts : (list : List ℕ) → Begins edges list ↔ Accepts nodes number list
    begins-accepts [] = ((λ (edge, held, by). absurd (no-rank edge by)), (λ none. absurd none))
    begins-accepts (rank ∷ rest) = (
      (λ (edge, held, by). (
        edge,
        (are.0, edges, are.1, are.2, held, sym (first-rank edge rank rest by)),
        elim by [
          | inl ends ↦ inl (rest-same rank edge.rank rest [] ends.0, ends.1)
          | inr (behind, is, more) ↦ inr (subst (Accepts nodes edge.next) (sym (rest-same rank edge.rank rest behind is)) more)
        ],
      )),
      (λ (edge, (node, steps, at, known, held, is), either). (
        edge,
        step-held nodes number edges are rank edge (node, steps, at, known, held, is),
        elim either [
          | inl (none, ends) ↦ inl ((λ i. sym is i ∷ none i), ends)
          | inr more ↦ inr (rest, ap (λ (r : ℕ). r ∷ rest) (sym is), more)
        ],
      )),
    )

    -- A NODE accepts as many lists as its edges have
    pub node-paths : IsSomeGraph nodes → (count : ℕ) → HavePaths nodes edges count → HasPaths nodes number count
    node-paths some count have =
        number-also (Begins edges) (Accepts nodes number) count begins-accepts (begin-all edges count (steps-rising nodes number edges are some) have)
