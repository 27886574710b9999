-- From lists of ranks to candidates.
use Rattle.std.proofs.Common.{◌≡◌, ◌≢◌, ◌↔◌, ℕ, None, List, [], length, map, sym, ap, ◌∙◌, subst}
use Rattle.std.proofs.lemmas.List.{nil_from_length}
use Rattle.mine_model.specs.declared.item.Item.{Item}
use Rattle.mine_model.specs.Answer.{Data}
use Rattle.mine_model.specs.Candidates.{IsCandidate}
use Rattle.mine_model.specs.Counted.{HasCandidates, IsTold}
use Rattle.mine_model.specs.Growth.{AreFrequentItems}
use Rattle.mine_model.specs.Numbers.{IsNumberOf}
use Rattle.mine_model.specs.Pivots.{item_of_rank, IsWithin}
use Rattle.mine_model.specs.Ranks.{AreRanked}
use Rattle.mine_model.proofs.NumberLemmas.{IsNumberOf-by}
use Rattle.mine_model.proofs.RankedLemmas.{same_ranks, ranked-length}
use Rattle.search_tree.proofs.SearchAnswerLemmas.{ranked-items, within-frequent, frequent-ranks, frequent-within}
use Rattle.mining_job.specs.declared.bound.Bound.{Bound}
use Rattle.mining_job.specs.Problems.{Problem, IsWhole, data_of}
use Rattle.sequence_grids.specs.Grids.{GridList}
use Rattle.snapshot_project.specs.Snapshots.{bound_of}
use Rattle.snapshot_project.specs.Extensions.{GeneratesWithin}
use Rattle.candidate_graph.specs.Graphs.{Node}
use Rattle.candidate_graph.specs.Paths.{Accepts}
use Rattle.graph_order.specs.Orders.{IsSomeGraph}
use Rattle.sequence_candidates.specs.Candidates.{AreCandidates}
use Rattle.candidate_pairs.specs.Paths.{HasPaths}

module _ (part : GridList) (whole : IsWhole part.problem) (bound : part.bound ≡ bound_of (length part.problem.ranking.order) None) (items : List Item) where
  abbrev order : List Item
  order = part.problem.ranking.order

  abbrev data' : Data Item
  data' = data_of part.problem

  abbrev items_with : List ℕ → List Item
  items_with list = map (item_of_rank order) list

  frequent-of : (pattern : List Item) → IsWithin order part.bound.top part.bound.need pattern → AreFrequentItems data' pattern
  frequent-of pattern is =
      within-frequent data' part.problem.ranking whole.ranks pattern (subst (λ (b : Bound). IsWithin order b.top b.need pattern) bound is)

  within-of : (pattern : List Item) → AreFrequentItems data' pattern → IsWithin order part.bound.top part.bound.need pattern
  within-of pattern all =
      subst (λ (b : Bound). IsWithin order b.top b.need pattern) (sym bound) (frequent-within data' part.problem.ranking whole.ranks pattern all)

  -- the list is that of a candidate
  candidate-of : (list : List ℕ) → GeneratesWithin part list items → IsCandidate data' items (items_with list)
  candidate-of list (pattern, ranked, generated, within) =
      subst (IsCandidate data' items) (sym (ranked-items order pattern list ranked)) (record { generated = generated; allowed = frequent-of pattern within })

  -- a candidate has its list
  list-of : (pattern : List Item) → IsCandidate data' items pattern → (list : List ℕ) × (pattern ≡ items_with list) × (list ≢ []) × GeneratesWithin part list items
  list-of pattern is =
      let (list, ranked) = frequent-ranks data' part.problem.ranking whole.ranks pattern is.allowed in (
        list,
        sym (ranked-items order pattern list ranked),
        (λ none. is.generated.0 (nil_from_length pattern (ranked-length order pattern list ranked ∙ ap (λ (l : List ℕ). length l) none))),
        (pattern, ranked, is.generated, within-of pattern is.allowed),
      )

  -- two lists are not those of one candidate
  one-list : (one other : List ℕ) → GeneratesWithin part one items → GeneratesWithin part other items → items_with one ≡ items_with other → one ≡ other
  one-list one other (first, first_ranked, first_made, first_within) (second, second_ranked, second_made, second_within) is =
      let same : first ≡ second = sym (ranked-items order first one first_ranked) ∙ is ∙ ranked-items order second other second_ranked in
      same_ranks order whole.ranks.once second one other (subst (λ (l : List Item). AreRanked order l one) same first_ranked) second_ranked

  lists-number : (Has : List ℕ → Type 0) → ((list : List ℕ) → Has list ↔ ((list ≢ []) × GeneratesWithin part list items)) → (n : ℕ) → IsNumberOf Has n
      → HasCandidates data' items n
  lists-number Has accepts n has =
      IsNumberOf-by Has (IsCandidate data' items) items_with n
      (λ one other here there is. one-list one other ((accepts one).0 here).1 ((accepts other).0 there).1 is)
      (λ list here. candidate-of list ((accepts list).0 here).1)
      (λ pattern is. (let (list, same, some, generates) = list-of pattern is in (list, same, (accepts list).1 (some, generates)))) has

-- WHAT IS TOLD of the paths of a whole graph is told of the candidates
pub told-candidates : (problem : Problem) (part : GridList) (items : List Item) (nodes : List Node) (told : ℕ) → part.problem ≡ problem → IsWhole problem
    → part.bound ≡ bound_of (length problem.ranking.order) None → ((list : List ℕ) → Accepts nodes 0 list ↔ ((list ≢ []) × GeneratesWithin part list items))
    → IsTold (HasPaths nodes 0) told → IsTold (HasCandidates (data_of problem) items) told
told-candidates problem part items nodes told same whole bound accepts (n, has, is) =
    let whole' : IsWhole part.problem = subst IsWhole (sym same) whole in
    let bound' : part.bound ≡ bound_of (length part.problem.ranking.order) None = bound ∙ ap (λ (p : Problem). bound_of (length p.ranking.order) None) (sym same) in
    (n, subst (λ (p : Problem). HasCandidates (data_of p) items n) same (lists-number part whole' bound' items (Accepts nodes 0) accepts n has), is)

-- the nodes are some graph
pub some-graph : (part : GridList) (items : List Item) (nodes : List Node) → AreCandidates part items nodes → IsSomeGraph nodes
some-graph part items nodes are = (are.courses, are.ranks, part.bound.need, are.graph)
