-- The outputs that are computed are those of the transducer's paths that have ranks.
use Rattle.std.proofs.Common.{◌≡◌, ◌≢◌, ℕ, ◌-◌, ◌≤◌, inl, inr, Bool, true, false, ◌&&◌, cond, List, [], ◌∷◌, ◌++◌, map, filter, length, refl, sym, ap, ◌∙◌, subst, arith, eqb}
use Rattle.std.specs.List.{Contains, flat_map}
use Rattle.std.specs.Int.{bit_at}
use Rattle.std.specs.Str.{bytes_eq}
use Rattle.std.proofs.lemmas.Bool.{and_parts, and_from, false≢true, eqb-true, eq-eqb}
use Rattle.std.proofs.lemmas.Option.{get_or_from_slice_get, slice_get-get_or}
use Rattle.std.proofs.lemmas.Slice.Eq.{bytes_eq-Decides}
use Rattle.state_bits.specs.Members.{Has}
use Rattle.mine_model.specs.declared.item.Item.{Item}
use Rattle.mine_model.specs.Hierarchy.{Link}
use Rattle.mine_model.specs.Numbered.{leaf_of, tree_of}
use Rattle.mine_model.specs.Generation.{Matches, WritesAt, Generates, IsPatternOf}
use Rattle.mine_model.specs.Ranks.{HasRank, AreRanked}
use Rattle.mine_model.specs.Growth.{HasPatternBehind}
use Rattle.mine_model.specs.Pivots.{item_of_rank, IsWithinPivot}
use Rattle.mine_model.proofs.ListLemmas.{Contains-cases, Contains-first, Contains-none, Contains-by, Contains-from, Contains-filter, filter-Contains}
use Rattle.mine_model.proofs.ElementLemmas.{flat-cases, flat-held, any-held}
use Rattle.mine_model.proofs.RankLemmas.{HasRank-most}
use Rattle.mine_model.proofs.RankedLemmas.{ranked-none, ranked-first, ranked-split, ranked-cut, ranked-append, same_ranks, within-ranks}
use Rattle.fst_compile.specs.declared.edge.Edge.{Edge}
use Rattle.fst_compile.specs.Transducer.{edges_from, IsPath}
use Rattle.mining_job.specs.Problems.{Problem, IsWhole, data_of}
use Rattle.mine_model.specs.Decided.{matches, may_write}
use Rattle.mine_model.proofs.DecidedLemmas.{matches-Decides, may_write-Decides}
use Rattle.dfs_growth.specs.Tree.{all_ranks, written_by, outputs_by, outputs_from, begin_with, is_some_rank, are_within, grows, generates}
use Rattle.dfs_growth.proofs.TestLemmas.{any-back, range-forth, range-back, begin_with-Decides, within-Decides}

-- the item with a rank up to the number of ranks has it
pub item-ranked : (order : List Item) (rank : ℕ) → 1 ≤ rank → rank ≤ length order → HasRank order (item_of_rank order rank) rank
item-ranked order rank least most = record {
  least = least;
  place = slice_get-get_or order (rank - 1) (record { 0 = 0 }) (omega (arith, least, most));
}

pub ranked-item : (order : List Item) (v : Item) (rank : ℕ) → HasRank order v rank → item_of_rank order rank ≡ v
ranked-item order v rank has = get_or_from_slice_get order (rank - 1) v (record { 0 = 0 }) has.place

pub some-rank : (ranks : List ℕ) → is_some_rank ranks ≡ true → ranks ≢ []
some-rank [] some same = false≢true some
some-rank (r ∷ ranks) some same = cc

pub rank-some : (ranks : List ℕ) → ranks ≢ [] → is_some_rank ranks ≡ true
rank-some [] some = absurd (some refl)
rank-some (r ∷ ranks) some = refl

ranks_of_some : (order items : List Item) (ranks : List ℕ) → AreRanked order items ranks → items ≢ [] → ranks ≢ []
ranks_of_some order [] ranks ranked some same = some refl
ranks_of_some order (v ∷ items) [] ranked some same = ranked
ranks_of_some order (v ∷ items) (r ∷ ranks) ranked some same = absurd (cc)

items_of_some : (order items : List Item) (ranks : List ℕ) → AreRanked order items ranks → ranks ≢ [] → items ≢ []
items_of_some order items [] ranked some same = some refl
items_of_some order [] (r ∷ ranks) ranked some same = ranked
items_of_some order (v ∷ items) (r ∷ ranks) ranked some same = absurd (cc)

module _ (problem : Problem) where
  abbrev links : List (Link Item)
  links = problem.hierarchy.links

  abbrev order : List Item
  order = problem.ranking.order

  -- What an edge writes

  abbrev Passes : Edge → Item → ℕ → Bool
  Passes edge t rank = may_write problem.hierarchy.links (leaf_of edge.leaf) t (item_of_rank problem.ranking.order rank)

  abbrev ones : Edge → Item → List (List ℕ)
  ones edge t = map (λ rank. rank ∷ []) (filter (Passes edge t) (all_ranks problem))

  writes_forth : (captured : Bool) (edge : Edge) (t : Item) (ranks : List ℕ) → Contains (cond captured (ones edge t) ([] ∷ [])) ranks
      → (items : List Item) × WritesAt problem.hierarchy.links (leaf_of edge.leaf) captured t items × AreRanked problem.ranking.order items ranks
  writes_forth true edge t ranks held =
      let (rank, inside, same) = Contains-from (λ rank. rank ∷ []) (filter (Passes edge t) (all_ranks problem)) ranks held in
      let both = Contains-filter (Passes edge t) (all_ranks problem) rank inside in
      let bounds = range-forth (length order) rank both.0 in
      let v : Item = item_of_rank order rank in
      let has : HasRank order v rank = item-ranked order rank bounds.0 bounds.1 in
      (v ∷ [], (v, (may_write-Decides links (leaf_of edge.leaf) t v).0 both.1, refl), subst (AreRanked order (v ∷ [])) (sym same) (has, tt))
  writes_forth false edge t ranks held = elim (Contains-cases [] [] ranks held) [
    | inl none ↦ ([], refl, subst (AreRanked order []) (sym none) tt)
    | inr never ↦ absurd (Contains-none ranks never)
  ]

  writes_back : (captured : Bool) (edge : Edge) (t : Item) (items : List Item) (ranks : List ℕ) → WritesAt problem.hierarchy.links (leaf_of edge.leaf) captured t items
      → AreRanked problem.ranking.order items ranks → Contains (cond captured (ones edge t) ([] ∷ [])) ranks
  writes_back true edge t items ranks (v, may, same) ranked =
      let (rank, others, is, has, rest) = ranked-first order v [] ranks (subst (λ l. AreRanked order l ranks) same ranked) in
      let one : ranks ≡ rank ∷ [] = is ∙ ap (λ l. rank ∷ l) (ranked-none order others rest) in
      let passes : Passes edge t rank ≡ true = (may_write-Decides links (leaf_of edge.leaf) t (item_of_rank order rank)).1
      (subst (Rattle.mine_model.specs.Generation.MayWrite links (leaf_of edge.leaf) t) (sym (ranked-item order v rank has)) may) in
      subst (Contains (ones edge t)) (sym one) (Contains-by (λ rank. rank ∷ []) (filter (Passes edge t) (all_ranks problem)) rank
      (filter-Contains (Passes edge t) (all_ranks problem) rank (range-back (length order) rank has.least (HasRank-most order v rank has)) passes))
  writes_back false edge t items ranks none ranked =
      let same : ranks ≡ [] = ranked-none order ranks (subst (λ l. AreRanked order l ranks) none ranked) in
      subst (Contains ([] ∷ [])) (sym same) (Contains-first [] [])

  written-forth : (edge : Edge) (t : Item) (ranks : List ℕ) → Contains (written_by problem edge t) ranks
      → (items : List Item) × WritesAt problem.hierarchy.links (leaf_of edge.leaf) edge.captured t items × AreRanked problem.ranking.order items ranks
  unfolding written_by
  written-forth edge t ranks held = writes_forth edge.captured edge t ranks held

  written-back : (edge : Edge) (t : Item) (items : List Item) (ranks : List ℕ) → WritesAt problem.hierarchy.links (leaf_of edge.leaf) edge.captured t items
      → AreRanked problem.ranking.order items ranks → Contains (written_by problem edge t) ranks
  unfolding written_by
  written-back edge t items ranks writes ranked = writes_back edge.captured edge t items ranks writes ranked

  by_forth : (edge : Edge) (t : Item) (behind : List (List ℕ)) (ranks : List ℕ) → Contains (outputs_by problem edge t behind) ranks
      → Matches problem.hierarchy.links (leaf_of edge.leaf) t
      × ((here : List ℕ) × (there : List ℕ) × Contains (written_by problem edge t) here × Contains behind there × (ranks ≡ here ++ there))
  unfolding outputs_by
  by_forth edge t behind ranks held = go (matches links (leaf_of edge.leaf) t) refl held
    where
      go : (b : Bool) → matches links (leaf_of edge.leaf) t ≡ b → Contains (cond b (flat_map (λ here. map (λ there. here ++ there) behind) (written_by problem edge t)) []) ranks
          → Matches links (leaf_of edge.leaf) t
          × ((here : List ℕ) × (there : List ℕ) × Contains (written_by problem edge t) here × Contains behind there × (ranks ≡ here ++ there))
      go true is held =
          let (here, first, part) = flat-cases (λ here. map (λ there. here ++ there) behind) (written_by problem edge t) ranks held in
          let (there, rest, same) = Contains-from (λ there. here ++ there) behind ranks part in
          ((matches-Decides links (leaf_of edge.leaf) t).0 is, (here, there, first, rest, same))
      go false is held = absurd (Contains-none ranks held)

  by_back : (edge : Edge) (t : Item) (behind : List (List ℕ)) (here there : List ℕ) → Matches problem.hierarchy.links (leaf_of edge.leaf) t
      → Contains (written_by problem edge t) here → Contains behind there → Contains (outputs_by problem edge t behind) (here ++ there)
  unfolding outputs_by
  by_back edge t behind here there does first rest =
      subst (λ b. Contains (cond b (flat_map (λ here. map (λ there. here ++ there) behind) (written_by problem edge t)) []) (here ++ there))
      (sym ((matches-Decides links (leaf_of edge.leaf) t).1 does))
      (flat-held (λ here. map (λ there. here ++ there) behind) (written_by problem edge t) here (here ++ there) first (Contains-by (λ there. here ++ there) behind there rest))

  -- WHAT THE PATHS WRITE

  pub outputs-forth : (items : List Item) (state : ℕ) (ranks : List ℕ) → Contains (outputs_from problem state items) ranks
      → (output : List Item) × IsPath problem.hierarchy.links problem.transducer state items output × AreRanked problem.ranking.order output ranks
  unfolding outputs_from Has
  outputs-forth [] state ranks held = go (eqb (bit_at problem.transducer.finals state) 1) refl held
    where
      go : (b : Bool) → eqb (bit_at problem.transducer.finals state) 1 ≡ b → Contains (cond b ([] ∷ []) []) ranks
          → (output : List Item) × IsPath links problem.transducer state [] output × AreRanked order output ranks
      go true is held = elim (Contains-cases [] [] ranks held) [
        | inl none ↦ ([], (eqb-true (bit_at problem.transducer.finals state) 1 is, refl), subst (AreRanked order []) (sym none) tt)
        | inr never ↦ absurd (Contains-none ranks never)
      ]
      go false is held = absurd (Contains-none ranks held)
  outputs-forth (t ∷ items) state ranks held =
      let (edge, leaves, part) = flat-cases (λ (edge : Edge). outputs_by problem edge t (outputs_from problem edge.to.0 items)) (edges_from problem.transducer state) ranks held in
      let (does, (here, there, first, rest, same)) = by_forth edge t (outputs_from problem edge.to.0 items) ranks part in
      let (front, writes, ranked) = written-forth edge t here first in
      let (back, path, later) = outputs-forth items edge.to.0 there rest in
      (front ++ back, (edge, front, back, leaves, does, writes, refl, path), subst (AreRanked order (front ++ back)) (sym same) (ranked-append order front back here there ranked later))

  pub outputs-back : (items : List Item) (state : ℕ) (output : List Item) (ranks : List ℕ) → IsPath problem.hierarchy.links problem.transducer state items output
      → AreRanked problem.ranking.order output ranks → Contains (outputs_from problem state items) ranks
  unfolding outputs_from Has
  outputs-back [] state output ranks (final, none) ranked =
      let same : ranks ≡ [] = ranked-none order ranks (subst (λ l. AreRanked order l ranks) none ranked) in
      subst (λ b. Contains (cond b ([] ∷ []) []) ranks) (sym (eq-eqb (bit_at problem.transducer.finals state) 1 final))
      (subst (Contains ([] ∷ [])) (sym same) (Contains-first [] []))
  outputs-back (t ∷ items) state output ranks (edge, here, there, leaves, does, writes, same, path) ranked =
      let (front, back, cut, first, rest) = ranked-cut order here there ranks (subst (λ l. AreRanked order l ranks) same ranked) in
      subst (Contains (outputs_from problem state (t ∷ items))) (sym cut)
      (flat-held (λ (edge : Edge). outputs_by problem edge t (outputs_from problem edge.to.0 items)) (edges_from problem.transducer state) edge (front ++ back) leaves
      (by_back edge t (outputs_from problem edge.to.0 items) front back does (written-back edge t here front writes first) (outputs-back items edge.to.0 there back path rest)))

  module _ (whole : IsWhole problem) where
    -- items that grow have a pattern behind the prefix, which has ranks
    pub grows-forth : (pivot : ℕ) (ranks : List ℕ) (items : List Item) → grows problem pivot ranks items ≡ true
        → (prefix : List Item) × AreRanked problem.ranking.order prefix ranks
        × HasPatternBehind (data_of problem) (IsWithinPivot problem.ranking.order pivot) prefix items
    unfolding grows
    grows-forth pivot ranks items passes =
        let (output, held, is) = any-held (λ output. is_some_rank output && (begin_with ranks output && are_within pivot output)) (outputs_from problem 0 items) passes in
        let both = and_parts (is_some_rank output) (begin_with ranks output && are_within pivot output) is in
        let tests = and_parts (begin_with ranks output) (are_within pivot output) both.1 in
        let (others, cut) = (begin_with-Decides ranks output).0 tests.0 in
        let (pattern, path, ranked) = outputs-forth items 0 output held in
        let (front, back, joined, first, rest) = ranked-split order pattern ranks others (subst (AreRanked order pattern) cut ranked) in
        let some : pattern ≢ [] = items_of_some order pattern output ranked (some-rank output both.0) in
        let is_pattern : IsPatternOf links (tree_of problem.transducer.expression) items pattern = (some, (whole.paths links items pattern).0 path) in
        let within : IsWithinPivot order pivot pattern = (within-Decides order whole.ranks.once pivot pattern output ranked).0 tests.1 in
        (front, first, (back, subst (IsPatternOf links (tree_of problem.transducer.expression) items) {y = front ++ back} joined is_pattern, subst (IsWithinPivot order pivot) {y = front ++ back} joined within))

    pub grows-back : (pivot : ℕ) (prefix : List Item) (ranks : List ℕ) (items : List Item) → AreRanked problem.ranking.order prefix ranks
        → HasPatternBehind (data_of problem) (IsWithinPivot problem.ranking.order pivot) prefix items → grows problem pivot ranks items ≡ true
    unfolding grows
    grows-back pivot prefix ranks items ranked (more, is_pattern, within) =
        let (output, all) = within-ranks order pivot (prefix ++ more) within in
        let (front, back, cut, first, rest) = ranked-cut order prefix more output all in
        let same : front ≡ ranks = same_ranks order whole.ranks.once prefix front ranks first ranked in
        any-back (λ output. is_some_rank output && (begin_with ranks output && are_within pivot output)) (outputs_from problem 0 items) output
        (outputs-back items 0 (prefix ++ more) output ((whole.paths links items (prefix ++ more)).1 is_pattern.1) all)
        (and_from (is_some_rank output) (begin_with ranks output && are_within pivot output) (rank-some output (ranks_of_some order (prefix ++ more) output all is_pattern.0))
        (and_from (begin_with ranks output) (are_within pivot output) ((begin_with-Decides ranks output).1 (back, cut ∙ ap (λ l. l ++ back) same))
        ((within-Decides order whole.ranks.once pivot (prefix ++ more) output all).1 within)))

    -- items that generate ranks have the pattern with these ranks
    pub generates-forth : (ranks : List ℕ) (items : List Item) → generates problem ranks items ≡ true
        → (pattern : List Item) × AreRanked problem.ranking.order pattern ranks
        × IsPatternOf problem.hierarchy.links (tree_of problem.transducer.expression) items pattern
    unfolding generates
    generates-forth ranks items passes =
        let (output, held, is) = any-held (λ output. is_some_rank output && bytes_eq ranks output) (outputs_from problem 0 items) passes in
        let both = and_parts (is_some_rank output) (bytes_eq ranks output) is in
        let (pattern, path, ranked) = outputs-forth items 0 output held in
        let same : ranks ≡ output = (bytes_eq-Decides ranks output).0 both.1 in (
          pattern,
          subst (AreRanked order pattern) (sym same) ranked,
          (items_of_some order pattern output ranked (some-rank output both.0), (whole.paths links items pattern).0 path),
        )

    pub generates-back : (pattern : List Item) (ranks : List ℕ) (items : List Item) → AreRanked problem.ranking.order pattern ranks
        → IsPatternOf problem.hierarchy.links (tree_of problem.transducer.expression) items pattern → generates problem ranks items ≡ true
    unfolding generates
    generates-back pattern ranks items ranked is =
        any-back (λ output. is_some_rank output && bytes_eq ranks output) (outputs_from problem 0 items) ranks
        (outputs-back items 0 pattern ranks ((whole.paths links items pattern).1 is.1) ranked)
        (and_from (is_some_rank ranks) (bytes_eq ranks ranks) (rank-some ranks (ranks_of_some order pattern ranks ranked is.0)) ((bytes_eq-Decides ranks ranks).1 refl))
