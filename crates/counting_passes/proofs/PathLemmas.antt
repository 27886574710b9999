-- From paths of a graph to candidates, and back.
use Rattle.std.proofs.Common.{◌≡◌, ◌≤◌, ◌↔◌, ℕ, inl, inr, IsTrue, Some, List, [], ◌∷◌, ◌++◌, length, slice_get, refl, sym, ◌∙◌, subst, append_assoc, arith}
use Rattle.std.specs.List.{Contains}
use Rattle.mine_model.specs.declared.item.Item.{Item}
use Rattle.mine_model.proofs.AboveLemmas.{pattern-shorter}
use Rattle.mine_model.proofs.RankedLemmas.{ranked-length}
use Rattle.search_tree.proofs.SearchAnswerLemmas.{within-frequent, frequent-within}
use Rattle.mining_job.specs.Problems.{Problem, IsWhole, data_of}
use Rattle.sequence_grids.specs.Grids.{GridList}
use Rattle.candidate_graph.specs.declared.edge.Edge.{Edge}
use Rattle.candidate_graph.specs.Graphs.{Node}
use Rattle.candidate_graph.specs.Paths.{Reaches, Accepts}
use Rattle.snapshot_project.specs.Extensions.{GeneratesWithin}
use Rattle.prefix_sieve.specs.Sieves.{HasCandidate}
use Rattle.prefix_sieve.proofs.PathLemmas.{reaches-more}
use Rattle.sieved_counts.specs.Counted.{IsKnownAlong, LeadsToCandidates, AreShort}
use Rattle.sieve_passes.specs.Branches.{part_of}

-- what the edges of a node say: their ranks are those that follow the prefix in a pattern
abbrev pub TellsWhatFollows : GridList → List Item → List Node → Type 0
TellsWhatFollows part items nodes = (prefix : List ℕ) (number : ℕ) → Reaches nodes 0 prefix number
    → (node : Node) (edges : List Edge) → slice_get nodes number ≡ Some node → node.edges ≡ Some edges
    → (rank : ℕ) → ((edge : Edge) × Contains edges edge × (edge.rank ≡ rank))
    ↔ ((rest : List ℕ) × GeneratesWithin part (prefix ++ rank ∷ rest) items)

-- an edge ends where the prefix with its rank is a pattern
abbrev pub TellsWhatEnds : GridList → List Item → List Node → Type 0
TellsWhatEnds part items nodes = (prefix : List ℕ) (number : ℕ) → Reaches nodes 0 prefix number
    → (node : Node) (edges : List Edge) → slice_get nodes number ≡ Some node → node.edges ≡ Some edges
    → (edge : Edge) → Contains edges edge → IsTrue edge.ends ↔ GeneratesWithin part (prefix ++ edge.rank ∷ []) items

module _ (part : GridList) (items : List Item) (nodes : List Node) (follows : TellsWhatFollows part items nodes) (ends : TellsWhatEnds part items nodes) where
  -- what is accepted behind a prefix is a pattern with it
  accepted-generates : (prefix : List ℕ) (number : ℕ) → Reaches nodes 0 prefix number → (rank : ℕ) (rest : List ℕ) → Accepts nodes number (rank ∷ rest)
      → GeneratesWithin part (prefix ++ rank ∷ rest) items
  accepted-generates prefix number reaches rank [] (edge, has, inr never) = absurd never
  accepted-generates prefix number reaches rank rest (edge, has, inl (none, does)) =
      let (node, edges, at, known, held, same) = has in
      let there : GeneratesWithin part (prefix ++ edge.rank ∷ []) items = (ends prefix number reaches node edges at known edge held).0 does in
      subst (λ (xs : List ℕ). GeneratesWithin part (prefix ++ rank ∷ xs) items) (sym none)
      (subst (λ (r : ℕ). GeneratesWithin part (prefix ++ r ∷ []) items) same there)
  accepted-generates prefix number reaches rank (second ∷ rest) (edge, has, inr more) =
      subst (λ (xs : List ℕ). GeneratesWithin part xs items) (append_assoc prefix (rank ∷ []) (second ∷ rest))
      (accepted-generates (prefix ++ rank ∷ []) edge.next (reaches-more nodes 0 prefix rank number edge reaches has) second rest more)

  -- a pattern with a prefix is accepted behind it, where the edges are known along it
  generated-accepted : (list : List ℕ) → IsKnownAlong nodes list → GeneratesWithin part list items → (rest prefix : List ℕ) (rank number : ℕ) → Reaches nodes 0 prefix number
      → list ≡ prefix ++ rank ∷ rest → Accepts nodes number (rank ∷ rest)
  generated-accepted list known generates [] prefix rank number reaches is =
      let (node, edges, at, are) = known prefix rank [] number is reaches in
      let there : GeneratesWithin part (prefix ++ rank ∷ []) items = subst (λ (xs : List ℕ). GeneratesWithin part xs items) is generates in
      let (edge, held, same) = (follows prefix number reaches node edges at are rank).1 ([], there) in
      let does : IsTrue edge.ends =
      (ends prefix number reaches node edges at are edge held).1 (subst (λ (r : ℕ). GeneratesWithin part (prefix ++ r ∷ []) items) (sym same) there) in
      (edge, (node, edges, at, are, held, same), inl (refl, does))
  generated-accepted list known generates (second ∷ rest) prefix rank number reaches is =
      let (node, edges, at, are) = known prefix rank (second ∷ rest) number is reaches in
      let there : GeneratesWithin part (prefix ++ rank ∷ second ∷ rest) items = subst (λ (xs : List ℕ). GeneratesWithin part xs items) is generates in
      let (edge, held, same) = (follows prefix number reaches node edges at are rank).1 (second ∷ rest, there) in
      let further = reaches-more nodes 0 prefix rank number edge reaches (node, edges, at, are, held, same) in (
        edge,
        (node, edges, at, are, held, same),
        inr (generated-accepted list known generates rest (prefix ++ rank ∷ []) second edge.next further (is ∙ sym (append_assoc prefix (rank ∷ []) (second ∷ rest)))),
      )

-- without a pivot the patterns of frequent items are the candidates
module _ (problem : Problem) (sequences : List ℕ) (whole : IsWhole problem) (items : List Item) (list : List ℕ) where
  generated-candidate : GeneratesWithin (part_of problem sequences) list items → HasCandidate (data_of problem) problem.ranking.order list items
  generated-candidate (pattern, ranked, generated, within) =
      (pattern, record { generated = generated; allowed = within-frequent (data_of problem) problem.ranking whole.ranks pattern within }, ranked)

  candidate-generated : HasCandidate (data_of problem) problem.ranking.order list items → GeneratesWithin (part_of problem sequences) list items
  candidate-generated (pattern, is, ranked) = (pattern, ranked, is.generated, frequent-within (data_of problem) problem.ranking whole.ranks pattern is.allowed)

-- no candidate is empty
some-ranks : (problem : Problem) (items : List Item) → HasCandidate (data_of problem) problem.ranking.order [] items → ⊥
some-ranks problem items ([], is, ranked) = is.generated.0 refl
some-ranks problem items (v ∷ pattern, is, ranked) = ranked

-- THE PATHS ARE THE CANDIDATES, as far as edges are known
pub leads-to-candidates : (problem : Problem) (sequences : List ℕ) (items : List Item) (nodes : List Node) → IsWhole problem
    → TellsWhatFollows (part_of problem sequences) items nodes → TellsWhatEnds (part_of problem sequences) items nodes
    → LeadsToCandidates (data_of problem) problem.ranking.order items nodes
leads-to-candidates problem sequences items nodes whole follows ends [] known = ((λ never. absurd never), (λ has. absurd (some-ranks problem items has)))
leads-to-candidates problem sequences items nodes whole follows ends (rank ∷ rest) known = (
  (λ accepts.
      generated-candidate problem sequences whole items (rank ∷ rest)
      (accepted-generates (part_of problem sequences) items nodes follows ends [] 0 refl rank rest accepts)),
  (λ has.
      generated-accepted (part_of problem sequences) items nodes follows ends (rank ∷ rest) known (candidate-generated problem sequences whole items (rank ∷ rest) has)
      rest [] rank 0 refl refl),
)

-- a candidate is no longer than the sequence
pub are-short : (problem : Problem) (items : List Item) → AreShort (data_of problem) problem.ranking.order items (length items)
are-short problem items list (pattern, is, ranked) =
    let less : length pattern ≤ length items = pattern-shorter (data_of problem).links (data_of problem).expression items pattern is.generated in
    omega (arith, less, ranked-length problem.ranking.order pattern list ranked)
