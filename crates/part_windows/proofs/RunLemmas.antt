-- Runs that write ranks: joined, cut, and as paths of the transducer.
use Rattle.std.proofs.Common.{◌≡◌, ◌≢◌, ◌↔◌, ℕ, ◌≤◌, inl, inr, false, Option, Some, None, IfSome, List, [], ◌∷◌, ◌++◌, length, refl, sym, ap, ◌∙◌, subst}
use Rattle.std.specs.List.{AllByRecursion, Contains}
use Rattle.std.proofs.lemmas.Option.{IfSome_then}
use Rattle.state_bits.specs.Members.{Has}
use Rattle.mine_model.specs.declared.item.Item.{Item}
use Rattle.mine_model.specs.Ranks.{HasRank, AreRanked}
use Rattle.mine_model.specs.Pivots.{IsRankedUpTo, HoldsRank}
use Rattle.mine_model.proofs.ListLemmas.{Contains-cases, Contains-first, Contains-other, Contains-none}
use Rattle.mine_model.proofs.RankedLemmas.{ranked-none, ranked-first, ranked-same, item_rank}
use Rattle.fst_compile.specs.Transducer.{IsPath, Leads}
use Rattle.mining_job.specs.declared.bound.Bound.{Bound}
use Rattle.mining_job.specs.Problems.{Problem, IsWhole}
use Rattle.sequence_grids.specs.Grids.{IsAllowed, HoldsNeeded, Completes, Ends, Reads, WritesRank}
use Rattle.sequence_grids.proofs.PathLemmas.{path-step, reads-cases, target-of}
use Rattle.part_windows.specs.Patterns.{IsPatternWithin}
use Rattle.part_windows.specs.Windows.{WritesRanks, HoldNeeded}

module _ (problem : Problem) (bound : Bound) where
  -- a run to a state, and then one from there on
  pub runs-join : (IsEnd : ℕ → Type 0) (middle from : ℕ) (input : List Item) (first : List ℕ) (behind : List Item) (last : List ℕ)
      → WritesRanks problem bound (λ q. q ≡ middle) from input first → WritesRanks problem bound IsEnd middle behind last
      → WritesRanks problem bound IsEnd from (input ++ behind) (first ++ last)
  runs-join IsEnd middle from [] first behind last (at, nothing) after =
      subst (λ (r : List ℕ). WritesRanks problem bound IsEnd from behind (r ++ last)) (sym nothing)
      (subst (λ (s : ℕ). WritesRanks problem bound IsEnd s behind last) (sym at) after)
  runs-join IsEnd middle from (t ∷ input) first behind last (next, leads, either) after = (
    next,
    leads,
    elim either [
      | inl (silent, run) ↦ inl (silent, runs-join IsEnd middle next input first behind last run after)
      | inr (rank, more, same, writes, run) ↦ inr (
        rank,
        more ++ last,
        ap (λ (r : List ℕ). r ++ last) same,
        writes,
        runs-join IsEnd middle next input more behind last run after,
      )
    ],
  )

  -- a run over the items of two lists is one over the first, and then one over the second
  pub runs-split : (IsEnd : ℕ → Type 0) (from : ℕ) (input behind : List Item) (ranks : List ℕ) → WritesRanks problem bound IsEnd from (input ++ behind) ranks
      → (middle : ℕ) × (first : List ℕ) × (last : List ℕ) × (ranks ≡ first ++ last)
      × WritesRanks problem bound (λ q. q ≡ middle) from input first × WritesRanks problem bound IsEnd middle behind last
  runs-split IsEnd from [] behind ranks run = (from, [], ranks, refl, (refl, refl), run)
  runs-split IsEnd from (t ∷ input) behind ranks (next, leads, either) = elim either [
    | inl (silent, run) ↦
        let (middle, first, last, same, early, late) = runs-split IsEnd next input behind ranks run in
        (middle, first, last, same, (next, leads, inl (silent, early)), late)
    | inr (rank, more, is, writes, run) ↦
        let (middle, first, last, same, early, late) = runs-split IsEnd next input behind more run in
        (middle, rank ∷ first, last, is ∙ ap (λ (r : List ℕ). rank ∷ r) same, (next, leads, inr (rank, first, refl, writes, early)), late)
  ]

  -- a run ends in one state
  pub runs-end : (IsEnd : ℕ → Type 0) (from : ℕ) (input : List Item) (ranks : List ℕ) → WritesRanks problem bound IsEnd from input ranks
      → (to : ℕ) × IsEnd to × WritesRanks problem bound (λ q. q ≡ to) from input ranks
  runs-end IsEnd from [] ranks (is, nothing) = (from, is, (refl, nothing))
  runs-end IsEnd from (t ∷ input) ranks (next, leads, either) = elim either [
    | inl (silent, run) ↦ let (to, is, same) = runs-end IsEnd next input ranks run in (to, is, (next, leads, inl (silent, same)))
    | inr (rank, more, joined, writes, run) ↦ let (to, is, same) = runs-end IsEnd next input more run in (to, is, (next, leads, inr (rank, more, joined, writes, same)))
  ]

  -- a run is one to any ends among which its own is
  pub runs-weaker : (IsEnd Also : ℕ → Type 0) → ((q : ℕ) → IsEnd q → Also q) → (from : ℕ) (input : List Item) (ranks : List ℕ)
      → WritesRanks problem bound IsEnd from input ranks → WritesRanks problem bound Also from input ranks
  runs-weaker IsEnd Also follows from [] ranks (is, nothing) = (follows from is, nothing)
  runs-weaker IsEnd Also follows from (t ∷ input) ranks (next, leads, either) = (
    next,
    leads,
    elim either [
      | inl (silent, run) ↦ inl (silent, runs-weaker IsEnd Also follows next input ranks run)
      | inr (rank, more, joined, writes, run) ↦ inr (rank, more, joined, writes, runs-weaker IsEnd Also follows next input more run)
    ],
  )

  -- a run is cut at the edge that writes first
  pub runs-cut : (IsEnd : ℕ → Type 0) (from : ℕ) (input : List Item) (rank : ℕ) (more : List ℕ) → WritesRanks problem bound IsEnd from input (rank ∷ more)
      → (early : List Item) × (t : Item) × (late : List Item) × (state : ℕ) × (next : ℕ) × (input ≡ early ++ t ∷ late)
      × WritesRanks problem bound (λ q. q ≡ state) from early [] × Leads problem.transducer state next
      × WritesRank problem bound t next rank × WritesRanks problem bound IsEnd next late more
  runs-cut IsEnd from [] rank more (is, same) = absurd (cc)
  runs-cut IsEnd from (t ∷ input) rank more (next, leads, either) = elim either [
    | inl (silent, run) ↦
        let (early, u, late, state, last, cut, before, leads2, writes, behind) = runs-cut IsEnd next input rank more run in
        (t ∷ early, u, late, state, last, ap (λ (l : List Item). t ∷ l) cut, (next, leads, inl (silent, before)), leads2, writes, behind)
    | inr (first, others, same, writes, run) ↦
        let is : first ≡ rank = cc in
        let rest : others ≡ more = cc in (
          [],
          t,
          input,
          from,
          next,
          refl,
          (refl, refl),
          leads,
          subst (λ (r : ℕ). WritesRank problem bound t next r) is writes,
          subst (λ (r : List ℕ). WritesRanks problem bound IsEnd next input r) rest run,
        )
  ]

module _ (problem : Problem) (whole : IsWhole problem) (bound : Bound) where
  -- a run ends in a state of the transducer
  pub run-state : (from : ℕ) (input : List Item) (ranks : List ℕ) (to : ℕ) → from ≤ length problem.transducer.labels
      → WritesRanks problem bound (λ q. q ≡ to) from input ranks → to ≤ length problem.transducer.labels
  run-state from [] ranks to inside (at, nothing) = subst (λ (k : ℕ). k ≤ length problem.transducer.labels) at inside
  run-state from (t ∷ input) ranks to inside (next, leads, either) =
      let within = (target-of problem whole from next leads).1 in
      elim either [
        | inl (silent, run) ↦ run-state next input ranks to within run
        | inr (rank, more, joined, writes, run) ↦ run-state next input more to within run
      ]

  -- so only such ends matter
  pub runs-ends : (IsEnd Also : ℕ → Type 0) → ((q : ℕ) → q ≤ length problem.transducer.labels → IsEnd q → Also q)
      → (from : ℕ) (input : List Item) (ranks : List ℕ) → from ≤ length problem.transducer.labels
      → WritesRanks problem bound IsEnd from input ranks → WritesRanks problem bound Also from input ranks
  runs-ends IsEnd Also follows from input ranks inside run =
      let (to, is, same) = runs-end problem bound IsEnd from input ranks run in
      let also : Also to = follows to (run-state from input ranks to inside same) is in
      runs-weaker problem bound (λ q. q ≡ to) Also (λ q at. subst Also (sym at) also) from input ranks same

  -- the ranks of allowed items are up to the top
  ranks-low : (items : List Item) (ranks : List ℕ) → AreRanked problem.ranking.order items ranks
      → AllByRecursion (IsRankedUpTo problem.ranking.order bound.top) items → AllByRecursion (λ r. r ≤ bound.top) ranks
  ranks-low [] [] ranked all = tt
  ranks-low [] (r ∷ ranks) ranked all = absurd ranked
  ranks-low (v ∷ items) [] ranked all = absurd ranked
  ranks-low (v ∷ items) (r ∷ ranks) (has, ranked) ((rank, also, low), all) =
      let same : rank ≡ r = item_rank problem.ranking.order whole.ranks.once v rank r also has in
      (subst (λ (x : ℕ). x ≤ bound.top) same low, ranks-low items ranks ranked all)

  -- an item with the rank is among the items where the rank is among theirs
  holds-rank : (items : List Item) (ranks : List ℕ) (need : ℕ) → AreRanked problem.ranking.order items ranks
      → HoldsRank problem.ranking.order items need → Contains ranks need
  holds-rank [] ranks need ranked (v, held, has) = absurd (Contains-none v held)
  holds-rank (w ∷ items) [] need ranked holds = absurd ranked
  holds-rank (w ∷ items) (r ∷ ranks) need (first, ranked) (v, held, has) = elim (Contains-cases w items v held) [
    | inl same ↦
        let is : need ≡ r = item_rank problem.ranking.order whole.ranks.once w need r (subst (λ (x : Item). HasRank problem.ranking.order x need) same has) first in
        subst (Contains (r ∷ ranks)) (sym is) (Contains-first r ranks)
    | inr other ↦ Contains-other r ranks need (holds-rank items ranks need ranked (v, other, has))
  ]

  rank-held : (items : List Item) (ranks : List ℕ) (need : ℕ) → AreRanked problem.ranking.order items ranks
      → Contains ranks need → HoldsRank problem.ranking.order items need
  rank-held items [] need ranked held = absurd (Contains-none need held)
  rank-held [] (r ∷ ranks) need ranked held = absurd ranked
  rank-held (w ∷ items) (r ∷ ranks) need (first, ranked) held = elim (Contains-cases r ranks need held) [
    | inl same ↦ (w, Contains-first w items, subst (HasRank problem.ranking.order w) (sym same) first)
    | inr other ↦ let (v, is, has) = rank-held items ranks need ranked other in (v, Contains-other w items v is, has)
  ]

  no-items : (items : List Item) → AreRanked problem.ranking.order items [] → items ≡ []
  no-items [] ranked = refl
  no-items (v ∷ items) ranked = absurd ranked

  -- a path writes the ranks of its output
  pub path-ranks : (state : ℕ) (input output : List Item) (ranks : List ℕ) → IsPath problem.hierarchy.links problem.transducer state input output
      → AreRanked problem.ranking.order output ranks → AllByRecursion (λ r. r ≤ bound.top) ranks
      → WritesRanks problem bound (Has problem.transducer.finals) state input ranks
  path-ranks state [] output ranks (is, nothing) ranked low =
      (is, ranked-none problem.ranking.order ranks (subst (λ (o : List Item). AreRanked problem.ranking.order o ranks) nothing ranked))
  path-ranks state (t ∷ input) output ranks path ranked low =
      let (next, here, there, leads, reads, joined, after) = (path-step problem whole state t input output).0 path in (
        next,
        leads,
        elim (reads-cases problem t next here reads) [
          | inl silent ↦ inl (
            subst (Reads problem t next) silent reads,
            path-ranks next input there ranks after
                (subst (λ (o : List Item). AreRanked problem.ranking.order o ranks) (joined ∙ ap (λ (h : List Item). h ++ there) silent) ranked) low,
          )
          | inr (v, one) ↦
              let same : output ≡ v ∷ there = joined ∙ ap (λ (h : List Item). h ++ there) one in
              let (rank, others, is, has, rest) = ranked-first problem.ranking.order v there ranks (subst (λ (o : List Item). AreRanked problem.ranking.order o ranks) same ranked) in
              let most = subst (AllByRecursion (λ r. r ≤ bound.top)) is low in
              inr (rank, others, is, (v, has, most.0, subst (Reads problem t next) one reads), path-ranks next input there others after rest most.1)
        ],
      )

  -- and what a run writes is the output of a path
  pub ranks-path : (state : ℕ) (input : List Item) (ranks : List ℕ) → WritesRanks problem bound (Has problem.transducer.finals) state input ranks
      → (output : List Item) × IsPath problem.hierarchy.links problem.transducer state input output
      × AreRanked problem.ranking.order output ranks × AllByRecursion (IsAllowed problem.ranking bound) output
  ranks-path state [] ranks (is, nothing) = ([], (is, refl), subst (AreRanked problem.ranking.order []) (sym nothing) tt, tt)
  ranks-path state (t ∷ input) ranks (next, leads, either) = elim either [
    | inl (silent, run) ↦
        let (output, path, ranked, allowed) = ranks-path next input ranks run in
        (output, (path-step problem whole state t input output).1 (next, [], output, leads, silent, refl, path), ranked, allowed)
    | inr (rank, more, joined, (v, has, low, reads), run) ↦
        let (output, path, ranked, allowed) = ranks-path next input more run in (
          v ∷ output,
          (path-step problem whole state t input (v ∷ output)).1 (next, v ∷ [], output, leads, reads, refl, path),
          subst (AreRanked problem.ranking.order (v ∷ output)) (sym joined) (has, ranked),
          ((rank, has, low), allowed),
        )
  ]

  -- a path that writes nothing is a run that writes no ranks
  pub ends-silent : (state : ℕ) (input : List Item) → Ends problem input state ↔ WritesRanks problem bound (Has problem.transducer.finals) state input []
  ends-silent state input = (
    (λ path. path-ranks state input [] [] path tt tt),
    (λ run.
        let (output, path, ranked, allowed) = ranks-path state input [] run in
        subst (IsPath problem.hierarchy.links problem.transducer state input) (no-items output ranked) path),
  )

  holds-needed : (need : Option ℕ) (output : List Item) (ranks : List ℕ) → AreRanked problem.ranking.order output ranks → ranks ≢ []
      → IfSome need (Contains ranks) → HoldsNeeded problem.ranking need output
  holds-needed None [] ranks ranked some held = absurd (some (ranked-none problem.ranking.order ranks ranked))
  holds-needed None (v ∷ output) ranks ranked some held = (v, Contains-first v output, tt)
  holds-needed (Some need) output ranks ranked some held = rank-held output ranks need ranked held

  -- where a run writes ranks within the bound, a path completes
  pub run-completes : (state : ℕ) (input : List Item) (ranks : List ℕ) → ranks ≢ [] → HoldNeeded bound ranks
      → WritesRanks problem bound (Has problem.transducer.finals) state input ranks → Completes problem bound input state false
  run-completes state input ranks some needed run =
      let (output, path, ranked, allowed) = ranks-path state input ranks run in
      (output, path, allowed, inr (holds-needed bound.need output ranks ranked some needed))

  -- the patterns within the bound are what runs from the start write
  pub pattern-runs : (items pattern : List Item) (ranks : List ℕ) → AreRanked problem.ranking.order pattern ranks
      → IsPatternWithin problem bound items pattern
      ↔ ((ranks ≢ []) × HoldNeeded bound ranks × WritesRanks problem bound (Has problem.transducer.finals) 0 items ranks)
  pattern-runs items pattern ranks ranked = (
    (λ is. (
      (λ none. is.generated.0 (no-items pattern (subst (AreRanked problem.ranking.order pattern) none ranked))),
      IfSome_then bound.need is.within.needed (λ need holds. holds-rank pattern ranks need ranked holds),
      path-ranks 0 items pattern ranks ((whole.paths problem.hierarchy.links items pattern).1 is.generated.1) ranked (ranks-low pattern ranks ranked is.within.ranked),
    )),
    (λ (some, needed, run).
        let (output, path, also, allowed) = ranks-path 0 items ranks run in
        let same : output ≡ pattern = ranked-same problem.ranking.order output pattern ranks also ranked in
        record {
          generated = (
            (λ none. some (ranked-none problem.ranking.order ranks (subst (λ (p : List Item). AreRanked problem.ranking.order p ranks) none ranked))),
            (whole.paths problem.hierarchy.links items pattern).0 (subst (IsPath problem.hierarchy.links problem.transducer 0 items) same path),
          );
          within = record {
            ranked = subst (AllByRecursion (IsRankedUpTo problem.ranking.order bound.top)) same allowed;
            needed = IfSome_then bound.need needed (λ need held. rank-held pattern ranks need ranked held);
          };
        }),
  )
