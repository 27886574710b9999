-- The state of a sequence's candidates, whatever pivot the part is that of.
use Rattle.std.proofs.Common.{◌≡◌, ◌≢◌, ◌↔◌, ℕ, ◌≤◌, Option, Some, List, [], ◌∷◌, length, refl, sym, ap, ◌∙◌, subst}
use Rattle.std.specs.Prelude.{IfSome}
use Rattle.std.proofs.lemmas.List.{nil_from_length}
use Rattle.mine_model.specs.declared.item.Item.{Item}
use Rattle.mine_model.specs.Pivots.{IsWithin}
use Rattle.mine_model.proofs.RankedLemmas.{ranked-length}
use Rattle.mining_job.specs.declared.bound.Bound.{Bound}
use Rattle.mining_job.specs.Parts.{pivot_of}
use Rattle.mining_job.specs.Problems.{Problem, data_of, items_of}
use Rattle.sequence_grids.specs.Grids.{GridList, items_at}
use Rattle.snapshot_project.specs.Snapshots.{bound_of}
use Rattle.snapshot_project.specs.Extensions.{GeneratesWithin}
use Rattle.snapshot_project.proofs.BoundLemmas.{within-pivot}
use Rattle.automaton_model.specs.Automata.{StateValue, Accepts}
use Rattle.automaton_model.specs.Codes.{IsCodeOf}
use Rattle.automaton_model.specs.Members.{IsPivotMember, IsPivotCode}
use Rattle.automaton_model.proofs.AutomatonLemmas.{code-also}
use Rattle.candidate_graph.specs.Graphs.{Node}
use Rattle.candidate_graph.specs.Paths.{Accepts as IsPath}
use Rattle.graph_order.specs.Orders.{IsSomeGraph}
use Rattle.candidate_states.specs.Roots.{IsRootOf}
use Rattle.sequence_candidates.specs.Candidates.{AreCandidates}
use Rattle.cand_automaton.specs.Roots.{IsRootWithin, IsCodeWithin}

-- the patterns within the bound are the candidates with the pivot
member-within : (part : GridList) (items : List Item) (pivot : Option ℕ) → IfSome pivot (λ rank. 1 ≤ rank) → part.bound ≡ bound_of (length part.problem.ranking.order) pivot
    → (list : List ℕ) → ((list ≢ []) × GeneratesWithin part list items) ↔ IsPivotMember (data_of part.problem) part.problem.ranking.order (pivot_of pivot) items list
member-within part items pivot least bound list = (
  (λ (some, (pattern, ranked, generated, within)). record {
    pattern = pattern;
    ranked = ranked;
    generated = generated;
    within = (within-pivot part.problem.ranking.order pivot least pattern).0 (subst (λ (b : Bound). IsWithin part.problem.ranking.order b.top b.need pattern) bound within);
  }),
  (λ member. (
    (λ none. member.generated.0 (nil_from_length member.pattern (ranked-length part.problem.ranking.order member.pattern list member.ranked ∙ ap (λ (l : List ℕ). length l) none))),
    (
      member.pattern,
      member.ranked,
      member.generated,
      subst (λ (b : Bound). IsWithin part.problem.ranking.order b.top b.need member.pattern) (sym bound) ((within-pivot part.problem.ranking.order pivot least member.pattern).1 member.within),
    ),
  )),
)

-- the state of a graph's root
pub root-within : (part : GridList) (items : List Item) (nodes : List Node) (states : List StateValue) (root : ℕ)
    → ((list : List ℕ) → IsPath nodes 0 list ↔ ((list ≢ []) × GeneratesWithin part list items)) → IsRootOf nodes states root → IsRootWithin part items states root
root-within part items nodes states root paths is = λ pivot least bound. record {
  inside = is.inside;
  language = λ list. (
    (λ accepts. (member-within part items pivot least bound list).0 ((paths list).0 ((is.language list).0 accepts))),
    (λ member. (is.language list).1 ((paths list).1 ((member-within part items pivot least bound list).1 member))),
  );
}

-- the code of what a root accepts
pub code-within : (part : GridList) (items : List Item) (states : List StateValue) (root : ℕ) (code : List ℕ) → IsRootWithin part items states root
    → IsCodeOf (Accepts states root) code → IsCodeWithin part items code
code-within part items states root code is coded = λ pivot least bound.
    code-also (Accepts states root) (IsPivotMember (data_of part.problem) part.problem.ranking.order (pivot_of pivot) items) (is pivot least bound).language code coded

-- the nodes of a part are some graph
pub some-graph : (part : GridList) (items : List Item) (nodes : List Node) → AreCandidates part items nodes → IsSomeGraph nodes
some-graph part items nodes are = (are.courses, are.ranks, part.bound.need, are.graph)

-- the code of the one sequence of a part
pub code-alone : (problem : Problem) (part : GridList) (seq pivot : ℕ) → part.problem ≡ problem → part.bound ≡ bound_of (length problem.ranking.order) (Some pivot)
    → part.sequences ≡ seq ∷ [] → 1 ≤ pivot → (code : List ℕ) → IsCodeWithin part (items_at part 0) code
    → IsPivotCode (data_of problem) problem.ranking.order pivot code (items_of problem seq)
code-alone problem part seq pivot one bound alone least code within =
    let made : GridList = record { problem = problem; bound = bound_of (length problem.ranking.order) (Some pivot); sequences = seq ∷ [] } in
    let whole : part ≡ made = (λ i. record { problem = one i; bound = bound i; sequences = alone i }) in
    subst (λ (p : GridList). IsCodeWithin p (items_at p 0) code) whole within (Some pivot) least refl
