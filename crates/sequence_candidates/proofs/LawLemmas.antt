-- What the edges of a graph of candidates say.
use Rattle.std.proofs.Common.{◌≡◌, ◌↔◌, ℕ, suc, ◌⊎◌, inl, inr, IsTrue, Option, Some, List, [], ◌∷◌, ◌++◌, length, refl, sym, ap, ◌∙◌, subst, arith}
use Rattle.std.specs.List.{Contains, slice_get}
use Rattle.std.proofs.lemmas.Option.{same_Some}
use Rattle.mine_model.specs.declared.item.Item.{Item}
use Rattle.mine_model.proofs.ElementLemmas.{slice_get-mapped_by}
use Rattle.sequence_grids.specs.Grids.{GridList}
use Rattle.stand_sums.specs.Writings.{Ranks}
use Rattle.candidate_graph.specs.declared.edge.Edge.{Edge}
use Rattle.candidate_graph.specs.Courses.{Courses}
use Rattle.candidate_graph.specs.Graphs.{Standpoint, Node, points_of, aim_at, point_behind, IsGraph}
use Rattle.candidate_graph.specs.Paths.{CanWrite, Reaches}
use Rattle.candidate_graph.proofs.PathLemmas.{one-edge}
use Rattle.snapshot_project.specs.Extensions.{GeneratesWithin}
use Rattle.sequence_candidates.specs.Candidates.{AreCandidates}

-- what is written from a node, by its edges
abbrev pub EdgeByEdge : Courses → Ranks → Option ℕ → List Node → Type 0
EdgeByEdge courses ranks need nodes =
    (number : ℕ) (node : Node) (edges : List Edge) → slice_get nodes number ≡ Some node → node.edges ≡ Some edges → (rank : ℕ) (rest : List ℕ)
    → CanWrite courses ranks need node.at (rank ∷ rest)
    ↔ ((edge : Edge) × Contains edges edge × (edge.rank ≡ rank)
    × (((rest ≡ []) × IsTrue edge.ends) ⊎ ((next : Standpoint) × (slice_get (points_of nodes) edge.next ≡ Some next) × CanWrite courses ranks need next rest)))

-- a list with one more behind others is not empty
some-behind : (prefix : List ℕ) (rank : ℕ) (rest : List ℕ) → prefix ++ rank ∷ rest ≡ [] → ⊥
some-behind [] rank rest none = let h : suc (length rest) ≡ 0 = ap length none in omega arith
some-behind (first ∷ prefix) rank rest none = let h : suc (length (prefix ++ rank ∷ rest)) ≡ 0 = ap length none in omega arith

module _ (courses : Courses) (ranks : Ranks) (need : Option ℕ) (nodes : List Node) (graph : IsGraph courses ranks need nodes) (step : EdgeByEdge courses ranks need nodes) where
  -- where the paths of a node stand
  point-at : (number : ℕ) (node : Node) → slice_get nodes number ≡ Some node → slice_get (points_of nodes) number ≡ Some node.at
  point-at number node there = slice_get-mapped_by (λ (n : Node). n.at) nodes number node there

  -- what is written from the node to which a prefix leads is written behind the prefix
  pub reached-writes : (prefix : List ℕ) (from to : ℕ) (at : Standpoint) → slice_get (points_of nodes) from ≡ Some at → Reaches nodes from prefix to
      → (node : Node) → slice_get nodes to ≡ Some node → (rank : ℕ) (rest : List ℕ)
      → CanWrite courses ranks need at (prefix ++ rank ∷ rest) ↔ CanWrite courses ranks need node.at (rank ∷ rest)
  reached-writes [] from to at at_is same node there rank rest =
      let here : slice_get (points_of nodes) from ≡ Some node.at = ap (slice_get (points_of nodes)) same ∙ point-at to node there in
      let one : at ≡ node.at = same_Some at node.at (sym at_is ∙ here) in (
        (λ can. subst (λ (p : Standpoint). CanWrite courses ranks need p (rank ∷ rest)) one can),
        (λ can. subst (λ (p : Standpoint). CanWrite courses ranks need p (rank ∷ rest)) (sym one) can),
      )
  reached-writes (first ∷ prefix) from to at at_is (edge, has, more) node there rank rest =
      let (origin, edges, at_from, known, held, rank_is) = has in
      let one : origin.at ≡ at = same_Some origin.at at (sym (point-at from origin at_from) ∙ at_is) in
      let are = graph.edges from origin edges at_from known in
      let point : Standpoint = point_behind ranks (aim_at origin.at need) edge.rank are.visits in
      let next_is : slice_get (points_of nodes) edge.next ≡ Some point = (are.right edge held).next in
      let behind = reached-writes prefix edge.next to point next_is more node there rank rest in
      let by = step from origin edges at_from known first (prefix ++ rank ∷ rest) in (
        (λ can.
            let (other, held_other, rank_other, either) = by.0 (subst (λ (p : Standpoint). CanWrite courses ranks need p (first ∷ prefix ++ rank ∷ rest)) (sym one) can) in
            let same : other ≡ edge = one-edge courses ranks need nodes graph from first other edge (origin, edges, at_from, known, held_other, rank_other) has in
            elim either [
              | inl (none, yes') ↦ absurd (some-behind prefix rank rest none)
              | inr (next, there_is, later) ↦
                  let next_same : next ≡ point = same_Some next point (sym there_is ∙ ap (λ (e : Edge). slice_get (points_of nodes) e.next) same ∙ next_is) in
                  behind.0 (subst (λ (p : Standpoint). CanWrite courses ranks need p (prefix ++ rank ∷ rest)) next_same later)
            ]),
        (λ can.
            subst (λ (p : Standpoint). CanWrite courses ranks need p (first ∷ prefix ++ rank ∷ rest)) one
            (by.1 (edge, held, rank_is, inr (point, next_is, behind.1 can)))),
      )

module _ (part : GridList) (items : List Item) (nodes : List Node) (are : AreCandidates part items nodes)
    (step : EdgeByEdge are.courses are.ranks part.bound.need nodes) (prefix : List ℕ) (number : ℕ) (reached : Reaches nodes 0 prefix number)
    (node : Node) (edges : List Edge) (there : slice_get nodes number ≡ Some node) (known : node.edges ≡ Some edges) where
  -- what is written from the node are the patterns behind the prefix
  behind-generates : (rank : ℕ) (rest : List ℕ) → CanWrite are.courses are.ranks part.bound.need node.at (rank ∷ rest) ↔ GeneratesWithin part (prefix ++ rank ∷ rest) items
  behind-generates rank rest =
      let behind = reached-writes are.courses are.ranks part.bound.need nodes are.graph step prefix 0 number are.root are.root_is reached node there rank rest in
      let exact = are.exact (prefix ++ rank ∷ rest) in (
        (λ can. (exact.0 (behind.1 can)).1),
        (λ generates. behind.0 (exact.1 ((λ none. some-behind prefix rank rest none), generates))),
      )

  pub edges-follow : (rank : ℕ) → ((edge : Edge) × Contains edges edge × (edge.rank ≡ rank)) ↔ ((rest : List ℕ) × GeneratesWithin part (prefix ++ rank ∷ rest) items)
  edges-follow rank = (
    (λ (edge, held, rank_is).
        elim (are.on number rank edge (node, edges, there, known, held, rank_is)) [
          | inl yes' ↦ ([], (behind-generates rank []).0 ((step number node edges there known rank []).1 (edge, held, rank_is, inl (refl, yes'))))
          | inr (next, rest, next_is, can) ↦
              (rest, (behind-generates rank rest).0 ((step number node edges there known rank rest).1 (edge, held, rank_is, inr (next, next_is, can))))
        ]),
    (λ (rest, generates).
        let (edge, held, rank_is, either) = (step number node edges there known rank rest).0 ((behind-generates rank rest).1 generates) in
        (edge, held, rank_is)),
  )

  pub edge-ends : (edge : Edge) → Contains edges edge → IsTrue edge.ends ↔ GeneratesWithin part (prefix ++ edge.rank ∷ []) items
  edge-ends edge held = (
    (λ yes'. (behind-generates edge.rank []).0 ((step number node edges there known edge.rank []).1 (edge, held, refl, inl (refl, yes')))),
    (λ generates.
        let (other, held_other, rank_other, either) = (step number node edges there known edge.rank []).0 ((behind-generates edge.rank []).1 generates) in
        let same : other ≡ edge =
        one-edge are.courses are.ranks part.bound.need nodes are.graph number edge.rank other edge (node, edges, there, known, held_other, rank_other)
        (node, edges, there, known, held, refl) in
        elim either [
          | inl (none, yes') ↦ subst (λ (e : Edge). IsTrue e.ends) same yes'
          | inr (next, next_is, none) ↦ absurd none
        ]),
  )
