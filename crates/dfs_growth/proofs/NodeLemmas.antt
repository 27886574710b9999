-- Labels, the nodes that have them, and what they keep.
use Rattle.std.proofs.Common.{◌≡◌, ℕ, ◌+◌, ◌≤◌, ◌<◌, Some, slice_get, length-append, List, [], ◌∷◌, ◌++◌, map, length, take, drop, ◌-◌, get_or, refl, sym, ap, ◌∙◌, subst, arith}
use Rattle.std.specs.List.{All, Contains}
use Rattle.std.proofs.lemmas.List.Elements.{Contains-get_or}
use Rattle.std.proofs.lemmas.List.{take_all, take_more, get_or_at, length_push, length-map, length-take-le, map-append}
use Rattle.std.proofs.lemmas.Option.{slice_get-get_or}
use Rattle.mine_model.specs.Ranks.{AreRanked}
use Rattle.mine_model.proofs.ListLemmas.{Contains-from}
use Rattle.mine_model.proofs.RankedLemmas.{ranked-bounds}
use Rattle.mining_job.specs.declared.part_seed.PartSeed.{PartSeed}
use Rattle.mining_job.specs.Problems.{Problem}
use Rattle.sequence_grids.specs.Grids.{GridList}
use Rattle.snapshot_project.specs.declared.next_rank.NextRank.{NextRank}
use Rattle.snapshot_project.specs.Stands.{StandList, IsProjected}
use Rattle.snapshot_project.specs.Snapshots.{part_for}
use Rattle.dfs_growth.specs.Nodes.{Prefix, label_at, prefix_at, longer_by}
use Rattle.dfs_growth.specs.Projections.{IsPartBy, IsProjection, IsRootOf}

pub problem-at : (problem : Problem) (label : List ℕ) → (prefix_at problem label).problem ≡ problem
problem-at problem [] = refl
problem-at problem (pivot ∷ ranks) = refl

pub label-at : (problem : Problem) (label : List ℕ) → 1 ≤ length label → label_at (prefix_at problem label) ≡ label
label-at problem [] some = absurd (omega (arith, some))
label-at problem (pivot ∷ ranks) some = refl

-- a node is one of the problem that it keeps
pub problem-of : (problem : Problem) (label : List ℕ) (node : Prefix) → prefix_at problem label ≡ node → problem ≡ node.problem
problem-of problem label node is = sym (problem-at problem label) ∙ ap (λ (p : Prefix). p.problem) is

-- the node with the label of a node of the same problem is that node
pub prefix-at : (node : Prefix) (problem : Problem) (label : List ℕ) → problem ≡ node.problem → label ≡ label_at node → prefix_at problem label ≡ node
prefix-at node problem label same is = ap (λ (p : Problem). prefix_at p label) same ∙ ap (prefix_at node.problem) is

pub longer-at : (problem : Problem) (label : List ℕ) (rank : ℕ) → 1 ≤ length label → prefix_at problem (label ++ rank ∷ []) ≡ longer_by (prefix_at problem label) rank
longer-at problem [] rank some = absurd (omega (arith, some))
longer-at problem (pivot ∷ ranks) rank some = refl

pub ranks-at : (problem : Problem) (label : List ℕ) → 1 ≤ length label → take (length label - 1) (drop 1 label) ≡ (prefix_at problem label).ranks
ranks-at problem [] some = absurd (omega (arith, some))
ranks-at problem (pivot ∷ ranks) some = take_all (length (pivot ∷ ranks) - 1) ranks (omega arith)

module _ (problem : Problem) (label : List ℕ) (part : GridList) (list : StandList) (is : IsProjection (prefix_at problem label) part list) where
  -- the part of a node is one of its problem
  pub part-at : IsPartBy problem (prefix_at problem label).pivot part
  part-at = subst (λ p. IsPartBy p (prefix_at problem label).pivot part) (problem-at problem label) is.part_by

  pub part-problem : part.problem ≡ problem
  part-problem = ap (λ (p : GridList). p.problem) part-at.part_is

  -- what is kept is told of its prefix for a search that asks for the problem's threshold
  pub projected-at : IsProjected part problem.threshold (prefix_at problem label).ranks list
  projected-at = subst (λ (p : Problem). IsProjected part p.threshold (prefix_at problem label).ranks list) (problem-at problem label) is.projected

  -- the ranks of its prefix are ranks of items
  pub ranks-bounded : 1 ≤ length label → All (λ rank. (1 ≤ rank) × (rank ≤ length problem.ranking.order)) (take (length label - 1) (drop 1 label))
  ranks-bounded some = λ k d below.
      let ranks = (prefix_at problem label).ranks in
      let ranked : AreRanked problem.ranking.order is.projected.are.prefix ranks = subst (λ (p : Problem). AreRanked p.ranking.order is.projected.are.prefix ranks) part-problem is.projected.are.ranked in
      let held : Contains ranks (get_or (take (length label - 1) (drop 1 label)) k d) =
      subst (λ (l : List ℕ). Contains l (get_or (take (length label - 1) (drop 1 label)) k d)) (ranks-at problem label some) (Contains-get_or (take (length label - 1) (drop 1 label)) k d below) in
      ranked-bounds problem.ranking.order is.projected.are.prefix ranks ranked (get_or (take (length label - 1) (drop 1 label)) k d) held

-- what is told of a longer prefix, for a search that asks for the problem's threshold
pub longer-projection : (problem : Problem) (label : List ℕ) (rank : ℕ) (part : GridList) (list : StandList) → IsPartBy problem (prefix_at problem label).pivot part
    → IsProjected part problem.threshold ((prefix_at problem label).ranks ++ rank ∷ []) list → IsProjection (longer_by (prefix_at problem label) rank) part list
longer-projection problem label rank part list by_seed projected = record {
  part_by = subst (λ (p : Problem). IsPartBy p (prefix_at problem label).pivot part) (sym (problem-at problem label)) by_seed;
  projected = subst (λ (p : Problem). IsProjected part p.threshold ((prefix_at problem label).ranks ++ rank ∷ []) list) (sym (problem-at problem label)) projected;
}

-- the part of a root's seed, with what is told of the empty prefix
pub root-projection : (problem : Problem) (label : List ℕ) (seed : PartSeed) (part : GridList) (list : StandList) → IsRootOf (prefix_at problem label) seed
    → part ≡ part_for problem seed → ((least : ℕ) → IsProjected part least [] list) → IsProjection (prefix_at problem label) part list
root-projection problem label seed part list root is start = record {
  part_by = record {
    seed = seed;
    complete = root.complete;
    pivot_is = root.pivot_is;
    part_is = is ∙ ap (λ (p : Problem). part_for p seed) (sym (problem-at problem label));
  };
  projected = subst (λ ranks. IsProjected part (prefix_at problem label).problem.threshold ranks list) (sym root.empty) (start (prefix_at problem label).problem.threshold);
}

-- the nodes that are longer by these ranks belong to the problem
pub longer-problem : (problem : Problem) (label : List ℕ) (found : List NextRank) → All (λ (node : Prefix). node.problem ≡ problem) (map (λ (n : NextRank). longer_by (prefix_at problem label) n.rank) found)
longer-problem problem label found = λ k d below.
    let longer : NextRank → Prefix = λ n. longer_by (prefix_at problem label) n.rank in
    let (n, held, same) = Contains-from longer found (get_or (map longer found) k d) (Contains-get_or (map longer found) k d below) in
    ap (λ (p : Prefix). p.problem) same ∙ problem-at problem label

-- Kids, made one after another

module _ (problem : Problem) (label : List ℕ) (some : 1 ≤ length label) (next : List NextRank) (all : List StandList) (count : length all ≡ length next) where
  abbrev kid_of : NextRank → Prefix
  kid_of n = longer_by (prefix_at problem label) n.rank

  module _ (met rest more : List StandList) (list : StandList) (seen : met ++ rest ≡ all) (first : rest ≡ list ∷ more) where
    whole : met ++ (list ∷ more) ≡ all
    whole = ap (λ (r : List StandList). met ++ r) (sym first) ∙ seen

    within : length met < length next
    within =
        let parts : length (met ++ (list ∷ more)) ≡ length met + length (list ∷ more) = length-append met (list ∷ more) in
        omega (arith, parts, ap length whole, count)

    next-at : (d : NextRank) → slice_get next (length met) ≡ Some (get_or next (length met) d)
    next-at d = slice_get-get_or next (length met) d within

    list-at : slice_get all (length met) ≡ Some list
    list-at =
        let inside : length met < length all = omega (arith, within, count) in
        slice_get-get_or all (length met) list inside ∙ ap (λ (l : List StandList). Some (get_or l (length met) list)) (sym whole) ∙ ap (λ l. Some l) (get_or_at met list more list (length met) refl)

    module _ (longer : List ℕ) (n : ℕ) (d : NextRank) (number : n ≡ length met) (is : longer ≡ label ++ (get_or next n d).rank ∷ []) where
      node-is : prefix_at problem longer ≡ kid_of (get_or next (length met) d)
      node-is =
          ap (prefix_at problem) is ∙ longer-at problem label (get_or next n d).rank some ∙ ap (λ k. kid_of (get_or next k d)) number

      -- the kid of the next rank keeps what is its own
      pub kid-keeps : (part : GridList) → ((i : ℕ) (n : NextRank) (list : StandList) → slice_get next i ≡ Some n → slice_get all i ≡ Some list → IsProjection (kid_of n) part list)
          → (1 ≤ length longer) × IsProjection (prefix_at problem longer) part list
      kid-keeps part each = (
        omega (arith, ap length is, length_push label (get_or next n d).rank),
        subst (λ p. IsProjection p part list) (sym node-is) (each (length met) (get_or next (length met) d) list (next-at d) list-at),
      )

      -- and it is one more kid
      pub kids-push : (kids : List Prefix) → kids ≡ map kid_of (take (length met) next)
          → kids ++ prefix_at problem longer ∷ [] ≡ map kid_of (take (length (met ++ list ∷ [])) next)
      kids-push kids are =
          rw (length_push met list, take_more next (length met) d within, map-append kid_of (take (length met) next) (get_or next (length met) d ∷ []), are, node-is) refl

  -- the kids are as many as the lists that were met
  pub kids-count : (met rest : List StandList) (kids : List Prefix) → met ++ rest ≡ all → kids ≡ map kid_of (take (length met) next) → length kids ≡ length met
  kids-count met rest kids seen are =
      let parts : length (met ++ rest) ≡ length met + length rest = length-append met rest in
      let few : length met ≤ length next = omega (arith, parts, ap length seen, count) in
      ap length are ∙ length-map (take (length met) next) kid_of ∙ length-take-le (length met) next few
