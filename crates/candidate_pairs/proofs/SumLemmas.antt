-- What is told of sums.
use Rattle.std.proofs.Common.{◌≡◌, ℕ, ◌+◌, ◌<◌, inl, inr, List, [], ◌∷◌, length, get_or, set, take, refl, sym, ap, ◌∙◌, subst, arith, sum_by, get_or-set_same, get_or-set_other}
use Rattle.std.specs.List.{Contains, slice_index}
use Rattle.std.proofs.lemmas.Bool.{cases_eq}
use Rattle.std.proofs.lemmas.List.Sums.{sum_by-cons, sum_by_more}
use Rattle.mine_model.specs.Counted.{told_of, IsTold}
use Rattle.mine_model.proofs.ListLemmas.{Contains-first, Contains-other}
use Rattle.candidate_graph.specs.declared.edge.Edge.{Edge}
use Rattle.candidate_graph.specs.Graphs.{Node}
use Rattle.candidate_graph.specs.Paths.{HasEdge}
use Rattle.graph_order.specs.Orders.{IsSomeGraph}
use Rattle.graph_order.proofs.StepLemmas.{AreStepsOf, step-edge}
use Rattle.candidate_pairs.specs.Paths.{HasPaths, ending, HavePaths}
use Rattle.candidate_pairs.specs.Sums.{told_behind, IsSummed, KeepsSums}
use Rattle.candidate_pairs.proofs.PathLemmas.{node-paths}

-- WHAT IS TOLD OF PARTS is enough to tell of the sum
pub told-sum : (a b : ℕ) → told_of (told_of a + told_of b) ≡ told_of (a + b)
told-sum a b = grind arith

told-edge : (ends n s m x : ℕ) → x ≡ told_of n → told_of s ≡ told_of m → told_of ((ends + x) + s) ≡ told_of ((ends + n) + m)
told-edge ends n s m x one other =
    let first : told_of (ends + x) ≡ told_of (ends + n) = ap (λ (k : ℕ). told_of (ends + k)) one ∙ inner in
    sym (told-sum (ends + x) s) ∙ ap (λ (k : ℕ). told_of (k + told_of s)) first ∙ ap (λ (k : ℕ). told_of (told_of (ends + n) + k)) other ∙ told-sum (ends + n) m
  where
    inner : told_of (ends + told_of n) ≡ told_of (ends + n)
    inner = grind arith

-- what is told of the edges so far, and of one more
pub told-more : (sums : List ℕ) (edges : List Edge) (i sum one : ℕ) (d : Edge) → i < length edges → sum ≡ told_of (sum_by (told_behind sums) (take i edges))
    → one ≡ told_of (told_behind sums (get_or edges i d)) → told_of (sum + one) ≡ told_of (sum_by (told_behind sums) (take (i + 1) edges))
told-more sums edges i sum one d inside before is =
    ap told_of (λ k. before k + is k)
    ∙ told-sum (sum_by (told_behind sums) (take i edges)) (told_behind sums (get_or edges i d))
    ∙ ap told_of (sym (sum_by_more (told_behind sums) edges i d inside))

-- what is told of the edges, where their nodes were summed up
pub told-edges : (nodes : List Node) (sums : List ℕ) (edges : List Edge) → ((edge : Edge) → Contains edges edge → IsSummed nodes sums edge.next)
    → IsTold (HavePaths nodes edges) (told_of (sum_by (told_behind sums) edges))
told-edges nodes sums [] each = (0, refl, refl)
told-edges nodes sums (edge ∷ edges) each =
    let (behind, has, here) = each edge (Contains-first edge edges) in
    let (rest, have, more) = told-edges nodes sums edges (λ other held. each other (Contains-other edge edges other held)) in (
      (ending edge + behind) + rest,
      (behind, rest, refl, has, have),
      ap told_of (sum_by-cons (told_behind sums) edge edges)
          ∙ told-edge (ending edge) behind (sum_by (told_behind sums) edges) rest (slice_index sums edge.next) here more,
    )

-- what is told of a node, where those behind its edges were summed up
pub told-node : (nodes : List Node) → IsSomeGraph nodes → (number : ℕ) (edges : List Edge) → AreStepsOf nodes number edges → (sums : List ℕ)
    → ((rank : ℕ) (edge : Edge) → HasEdge nodes number rank edge → IsSummed nodes sums edge.next) → IsTold (HasPaths nodes number) (told_of (sum_by (told_behind sums) edges))
told-node nodes some number edges are sums behind =
    let (count, have, is) = told-edges nodes sums edges (λ edge held. behind edge.rank edge (step-edge nodes number edges are edge held)) in
    (count, node-paths nodes number edges are some count have, is)

-- ---- one sum is set

module _ (nodes : List Node) (before : List ℕ) (number sum : ℕ) (inside : number < length before) (told : IsTold (HasPaths nodes number) sum) where
  pub set-summed : IsSummed nodes (set before number sum) number
  set-summed = let (n, has, is) = told in (n, has, get_or-set_same before number sum 0 inside ∙ is)

  pub set-keeps : KeepsSums nodes before (set before number sum)
  set-keeps other summed = elim (cases_eq other number) [
    | inl same ↦ subst (IsSummed nodes (set before number sum)) (sym same) set-summed
    | inr differ ↦ (let (n, has, is) = summed in (n, has, get_or-set_other before number other sum 0 differ ∙ is))
  ]
