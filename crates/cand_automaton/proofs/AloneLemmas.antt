-- The state of a pivot's candidates, from the whole graph of the sequence.
use Rattle.std.proofs.Common.{◌≡◌, ◌≢◌, ◌↔◌, ℕ, ◌≤◌, inl, inr, Some, List, [], ◌∷◌, length, sym, subst}
use Rattle.std.specs.List.{AllByRecursion, AllPairs, Contains}
use Rattle.mine_model.specs.declared.item.Item.{Item}
use Rattle.mine_model.specs.Ranks.{HasRank, AreRanked}
use Rattle.mine_model.specs.Pivots.{IsRankedUpTo, HoldsRank}
use Rattle.mine_model.proofs.ListLemmas.{Contains-cases, Contains-none, Contains-first, Contains-other}
use Rattle.mine_model.proofs.RankLemmas.{HasRank-most}
use Rattle.mine_model.proofs.RankedLemmas.{item_rank}
use Rattle.mining_job.specs.Problems.{Problem, data_of, items_of}
use Rattle.snapshot_project.specs.Extensions.{GeneratesWithin}
use Rattle.snapshot_project.proofs.BoundLemmas.{within-pivot}
use Rattle.automaton_model.specs.Automata.{StateValue}
use Rattle.automaton_model.specs.Members.{IsPivotMember}
use Rattle.candidate_graph.specs.Graphs.{Node}
use Rattle.candidate_graph.specs.Paths.{Accepts as IsPath}
use Rattle.candidate_states.specs.Roots.{HasPivot, IsPivotRootOf}
use Rattle.cand_automaton.specs.Roots.{IsRootFor}
use Rattle.cand_automaton.specs.Wholes.{part_alone}

-- ---- ranks up to a pivot

module _ (order : List Item) where
  -- items have ranks up to the number of all
  ranked-whole : (items : List Item) (ranks : List ℕ) → AreRanked order items ranks → AllByRecursion (IsRankedUpTo order (length order)) items
  ranked-whole [] [] ranked = tt
  ranked-whole [] (rank ∷ ranks) ranked = absurd ranked
  ranked-whole (v ∷ items) [] ranked = absurd ranked
  ranked-whole (v ∷ items) (rank ∷ ranks) ranked = ((rank, ranked.0, HasRank-most order v rank ranked.0), ranked-whole items ranks ranked.1)

  module _ (pivot : ℕ) where
    most-ranked : (items : List Item) (ranks : List ℕ) → AreRanked order items ranks → AllByRecursion (λ rank. rank ≤ pivot) ranks → AllByRecursion (IsRankedUpTo order pivot) items
    most-ranked [] [] ranked most = tt
    most-ranked [] (rank ∷ ranks) ranked most = absurd ranked
    most-ranked (v ∷ items) [] ranked most = absurd ranked
    most-ranked (v ∷ items) (rank ∷ ranks) ranked most = ((rank, ranked.0, most.0), most-ranked items ranks ranked.1 most.1)

    held-ranked : (items : List Item) (ranks : List ℕ) → AreRanked order items ranks → Contains ranks pivot → HoldsRank order items pivot
    held-ranked items [] ranked held = absurd (Contains-none pivot held)
    held-ranked [] (rank ∷ ranks) ranked held = absurd ranked
    held-ranked (v ∷ items) (rank ∷ ranks) ranked held = elim (Contains-cases rank ranks pivot held) [
      | inl same ↦ (v, Contains-first v items, subst (HasRank order v) (sym same) ranked.0)
      | inr there ↦ (let (w, inside, has) = held-ranked items ranks ranked.1 there in (w, Contains-other v items w inside, has))
    ]

    module _ (once : AllPairs (λ v w. v ≢ w) order) where
      ranked-most : (items : List Item) (ranks : List ℕ) → AreRanked order items ranks → AllByRecursion (IsRankedUpTo order pivot) items → AllByRecursion (λ rank. rank ≤ pivot) ranks
      ranked-most items [] ranked most = tt
      ranked-most [] (rank ∷ ranks) ranked most = absurd ranked
      ranked-most (v ∷ items) (rank ∷ ranks) ranked ((other, has, few), most) =
          let same : other ≡ rank = item_rank order once v other rank has ranked.0 in
          (subst (λ (r : ℕ). r ≤ pivot) same few, ranked-most items ranks ranked.1 most)

      ranked-held : (items : List Item) (ranks : List ℕ) → AreRanked order items ranks → HoldsRank order items pivot → Contains ranks pivot
      ranked-held [] ranks ranked (w, inside, has) = absurd (Contains-none w inside)
      ranked-held (v ∷ items) [] ranked holds = absurd ranked
      ranked-held (v ∷ items) (rank ∷ ranks) ranked (w, inside, has) = elim (Contains-cases v items w inside) [
        | inl same ↦
            let one : pivot ≡ rank = item_rank order once v pivot rank (subst (λ (x : Item). HasRank order x pivot) same has) ranked.0 in
            subst (Contains (rank ∷ ranks)) (sym one) (Contains-first rank ranks)
        | inr there ↦ Contains-other rank ranks pivot (ranked-held items ranks ranked.1 (w, there, has))
      ]

-- ---- one sequence

module _ (problem : Problem) (once : AllPairs (λ v w. v ≢ w) problem.ranking.order) (seq pivot : ℕ) (least : 1 ≤ pivot) where
  -- the patterns of any ranks whose greatest rank is the pivot are the candidates with it
  member-alone : (list : List ℕ) → (((list ≢ []) × GeneratesWithin (part_alone problem seq) list (items_of problem seq)) × HasPivot pivot list)
      ↔ IsPivotMember (data_of problem) problem.ranking.order pivot (items_of problem seq) list
  member-alone list = (
    (λ ((some, (pattern, ranked, generated, within)), has). record {
      pattern = pattern;
      ranked = ranked;
      generated = generated;
      within = (within-pivot problem.ranking.order (Some pivot) least pattern).0 (record {
        ranked = most-ranked problem.ranking.order pivot pattern list ranked has.most;
        needed = held-ranked problem.ranking.order pivot pattern list ranked has.held;
      });
    }),
    (λ member.
        let within = (within-pivot problem.ranking.order (Some pivot) least member.pattern).1 member.within in
        let has : HasPivot pivot list = record {
          most = ranked-most problem.ranking.order pivot once member.pattern list member.ranked within.ranked;
          held = ranked-held problem.ranking.order pivot once member.pattern list member.ranked within.needed;
        } in (
          (
            (λ none. Contains-none pivot (subst (λ (l : List ℕ). Contains l pivot) none has.held)),
            (
              member.pattern,
              member.ranked,
              member.generated,
              record { ranked = ranked-whole problem.ranking.order member.pattern list member.ranked; needed = tt },
            ),
          ),
          has,
        )),
  )

  -- THE STATE made from the whole graph is that of the candidates with the pivot
  pub root-alone : (nodes : List Node) (states : List StateValue) (root : ℕ)
      → ((list : List ℕ) → IsPath nodes 0 list ↔ ((list ≢ []) × GeneratesWithin (part_alone problem seq) list (items_of problem seq)))
      → IsPivotRootOf nodes pivot states root → IsRootFor (data_of problem) problem.ranking.order pivot (items_of problem seq) states root
  root-alone nodes states root paths is = record {
    inside = is.inside;
    language = λ list. (
      (λ accepts. (let (path, has) = (is.language list).0 accepts in (member-alone list).0 ((paths list).0 path, has))),
      (λ member. (let (generates, has) = (member-alone list).1 member in (is.language list).1 ((paths list).1 generates, has))),
    );
  }
