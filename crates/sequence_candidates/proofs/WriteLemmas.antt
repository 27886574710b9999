-- What paths write from a state, from the first edge on.
use Rattle.std.proofs.Common.{◌≡◌, ℕ, ◌≤◌, ◌⊎◌, inl, inr, Bool, true, true≢false, ◌==◌, IsTrue, Option, Some, None, List, [], ◌∷◌, refl, sym, subst}
use Rattle.std.specs.List.{AllByRecursion}
use Rattle.std.proofs.lemmas.Bool.{or_cases, or_left, or_right}
use Rattle.std.proofs.lemmas.Bool.Decides.{Decides-eqb}
use Rattle.state_bits.specs.Members.{Has}
use Rattle.mine_model.specs.declared.item.Item.{Item}
use Rattle.mine_model.specs.Ranks.{Ranking, HasRank, AreRanked}
use Rattle.mine_model.proofs.ListLemmas.{Contains-cases, Contains-first, Contains-other}
use Rattle.mine_model.proofs.RankedLemmas.{item_rank}
use Rattle.fst_compile.specs.Transducer.{IsPath, Leads}
use Rattle.mining_job.specs.declared.bound.Bound.{Bound}
use Rattle.mining_job.specs.Problems.{Problem, IsWhole}
use Rattle.sequence_grids.specs.Grids.{GridList, IsAllowed, HoldsNeeded, Completes, Continues, Ends, Reads, WritesRank}
use Rattle.sequence_grids.proofs.KindLemmas.{nil-not-cons}
use Rattle.sequence_grids.proofs.PathLemmas.{path-step}
use Rattle.sequence_grids.proofs.GridLemmas.{allowed-ranked}
use Rattle.stand_sums.specs.Aims.{sees_with}
use Rattle.snapshot_project.specs.Aims.{goes}
use Rattle.snapshot_project.specs.Extensions.{GeneratesWithin}
use Rattle.snapshot_project.proofs.NeedLemmas.{needed-none, needed-within}
use Rattle.snapshot_project.proofs.RunLemmas.{step-reads, path-runs, runs-path, runs-first}
use Rattle.sequence_candidates.specs.Writings.{WritesRanks}
use Rattle.sequence_candidates.specs.Terrains.{seen_first}

-- ---- what is needed

-- a path that writes something goes on so
goes-needed : (ranking : Ranking) (need : Option ℕ) (seen : Bool) (v : Item) (output : List Item) → IsTrue seen ⊎ HoldsNeeded ranking need (v ∷ output)
    → IsTrue (goes seen need) ⊎ HoldsNeeded ranking need (v ∷ output)
goes-needed ranking None seen v output needed = inr (v, Contains-first v output, tt)
goes-needed ranking (Some need) seen v output needed = needed

-- and what goes on so has seen what is needed, or writes it
needed-goes : (ranking : Ranking) (need : Option ℕ) (seen : Bool) (output : List Item) → IsTrue (goes seen need) ⊎ HoldsNeeded ranking need output
    → IsTrue seen ⊎ HoldsNeeded ranking need output
needed-goes ranking None seen output (inl never) = absurd (true≢false (sym never))
needed-goes ranking None seen output (inr holds) = inr holds
needed-goes ranking (Some need) seen output either = either

-- behind an item what is needed was seen with its rank, or is behind
needed-behind : (problem : Problem) → IsWhole problem → (need : Option ℕ) (seen : Bool) (v : Item) (rank : ℕ) (output : List Item)
    → HasRank problem.ranking.order v rank → IsTrue seen ⊎ HoldsNeeded problem.ranking need (v ∷ output)
    → IsTrue (sees_with seen need rank) ⊎ HoldsNeeded problem.ranking need output
needed-behind problem whole None seen v rank output has needed = inl refl
needed-behind problem whole (Some need) seen v rank output has (inl yes') = inl (or_left seen (need == rank) yes')
needed-behind problem whole (Some need) seen v rank output has (inr (w, held, is)) = elim (Contains-cases v output w held) [
  | inl same ↦
      let one : need ≡ rank = item_rank problem.ranking.order whole.ranks.once v need rank (subst (λ (x : Item). HasRank problem.ranking.order x need) same is) has in
      inl (or_right seen (need == rank) ((Decides-eqb need rank).1 one))
  | inr there ↦ inr (w, there, is)
]

needed-before : (ranking : Ranking) (need : Option ℕ) (seen : Bool) (v : Item) (rank : ℕ) (output : List Item) → HasRank ranking.order v rank
    → IsTrue (sees_with seen need rank) ⊎ HoldsNeeded ranking need output → IsTrue seen ⊎ HoldsNeeded ranking need (v ∷ output)
needed-before ranking None seen v rank output has either = inr (v, Contains-first v output, tt)
needed-before ranking (Some need) seen v rank output has (inl sees) = elim (or_cases seen (need == rank) sees) [
  | inl yes' ↦ inl yes'
  | inr same ↦ inr (v, Contains-first v output, subst (HasRank ranking.order v) (sym ((Decides-eqb need rank).0 same)) has)
]
needed-before ranking (Some need) seen v rank output has (inr (w, held, is)) = inr (w, Contains-other v output w held, is)

module _ (problem : Problem) (whole : IsWhole problem) (bound : Bound) where
  -- ---- one edge, and then the rest

  -- an edge that writes nothing
  pub silent-writes : (t : Item) (rest : List Item) (from state : ℕ) (seen : Bool) (list : List ℕ) → Leads problem.transducer from state → Reads problem t state []
      → WritesRanks problem bound rest state seen list → WritesRanks problem bound (t ∷ rest) from seen list
  silent-writes t rest from state seen list leads reads behind = record {
    output = behind.output;
    ranked = behind.ranked;
    path = (path-step problem whole from t rest behind.output).1 (state, [], behind.output, leads, reads, refl, behind.path);
    allowed = behind.allowed;
    needed = behind.needed;
  }

  -- one that writes a rank
  pub rank-writes : (t : Item) (rest : List Item) (from state : ℕ) (seen : Bool) (rank : ℕ) (list : List ℕ) → Leads problem.transducer from state
      → WritesRank problem bound t state rank → WritesRanks problem bound rest state (sees_with seen bound.need rank) list
      → WritesRanks problem bound (t ∷ rest) from seen (rank ∷ list)
  rank-writes t rest from state seen rank list leads (v, has, few, reads) behind = record {
    output = v ∷ behind.output;
    ranked = (has, behind.ranked);
    path = (path-step problem whole from t rest (v ∷ behind.output)).1 (state, v ∷ [], behind.output, leads, reads, refl, behind.path);
    allowed = ((rank, has, few), behind.allowed);
    needed = needed-before problem.ranking bound.need seen v rank behind.output has behind.needed;
  }

  -- none
  pub ends-writes : (rest : List Item) (state : ℕ) (seen : Bool) → IsTrue seen → Ends problem rest state → WritesRanks problem bound rest state seen []
  ends-writes rest state seen yes' path = record { output = []; ranked = tt; path = path; allowed = tt; needed = inl yes' }

  -- where nothing is written, what is needed was seen, and the path ends
  pub writes-ends : (rest : List Item) (state : ℕ) (seen : Bool) → WritesRanks problem bound rest state seen [] → IsTrue seen × Ends problem rest state
  writes-ends rest state seen writes = by writes.output writes.ranked writes.path writes.needed
    where
      by : (output : List Item) → AreRanked problem.ranking.order output [] → IsPath problem.hierarchy.links problem.transducer state rest output
          → IsTrue seen ⊎ HoldsNeeded problem.ranking bound.need output → IsTrue seen × Ends problem rest state
      by [] ranked path (inl yes') = (yes', path)
      by [] ranked path (inr holds) = absurd (needed-none problem.ranking bound.need holds)
      by (v ∷ output) ranked path needed = absurd ranked

  -- and where something is, the path goes on as it has to
  pub writes-continues : (rest : List Item) (state : ℕ) (seen : Bool) (rank : ℕ) (list : List ℕ) → WritesRanks problem bound rest state seen (rank ∷ list)
      → Continues problem bound rest state (goes seen bound.need)
  writes-continues rest state seen rank list writes = by writes.output writes.ranked writes.path writes.allowed writes.needed
    where
      by : (output : List Item) → AreRanked problem.ranking.order output (rank ∷ list) → IsPath problem.hierarchy.links problem.transducer state rest output
          → AllByRecursion (IsAllowed problem.ranking bound) output → IsTrue seen ⊎ HoldsNeeded problem.ranking bound.need output
          → Continues problem bound rest state (goes seen bound.need)
      by [] ranked path allowed needed = absurd ranked
      by (v ∷ output) ranked path allowed needed = (v, output, path, allowed, goes-needed problem.ranking bound.need seen v output needed)

  -- where all was seen, it completes
  pub seen-completes : (rest : List Item) (state : ℕ) (seen : Bool) (list : List ℕ) → WritesRanks problem bound rest state seen list
      → Completes problem bound rest state true
  seen-completes rest state seen list writes = (writes.output, writes.path, writes.allowed, inl refl)

  -- what goes on so writes some ranks
  pub continues-writes : (rest : List Item) (state : ℕ) (seen : Bool) → Continues problem bound rest state (goes seen bound.need)
      → (rank : ℕ) × (list : List ℕ) × WritesRanks problem bound rest state seen (rank ∷ list)
  continues-writes rest state seen (v, output, path, allowed, met) =
      let ((rank, has, few), others) = allowed in
      let (list, ranked) = allowed-ranked problem.ranking bound output others in (
        rank,
        list,
        record {
          output = v ∷ output;
          ranked = (has, ranked);
          path = path;
          allowed = allowed;
          needed = needed-goes problem.ranking bound.need seen (v ∷ output) met;
        },
      )

  -- ---- the first edge

  -- an edge at t, which writes nothing, and then the same is written; or which writes the first rank
  pub record IsFirst (t : Item) (rest : List Item) (from : ℕ) (seen : Bool) (rank : ℕ) (list : List ℕ) (next : ℕ) : Type 0 where
    pub leads : Leads problem.transducer from next
    pub does : (Reads problem t next [] × WritesRanks problem bound rest next seen (rank ∷ list))
        ⊎ (WritesRank problem bound t next rank × WritesRanks problem bound rest next (sees_with seen bound.need rank) list)

  -- nothing is written at the end
  pub none-writes : (state : ℕ) (seen : Bool) (rank : ℕ) (list : List ℕ) → WritesRanks problem bound [] state seen (rank ∷ list) → ⊥
  none-writes state seen rank list writes = by writes.output writes.ranked writes.path
    where
      by : (output : List Item) → AreRanked problem.ranking.order output (rank ∷ list) → IsPath problem.hierarchy.links problem.transducer state [] output → ⊥
      by [] ranked path = ranked
      by (v ∷ output) ranked path = nil-not-cons v output (sym path.1)

  pub writes-first : (t : Item) (rest : List Item) (from : ℕ) (seen : Bool) (rank : ℕ) (list : List ℕ) → WritesRanks problem bound (t ∷ rest) from seen (rank ∷ list)
      → (next : ℕ) × IsFirst t rest from seen rank list next
  writes-first t rest from seen rank list writes = by writes.output writes.ranked writes.path writes.allowed writes.needed
    where
      by : (output : List Item) → AreRanked problem.ranking.order output (rank ∷ list) → IsPath problem.hierarchy.links problem.transducer from (t ∷ rest) output
          → AllByRecursion (IsAllowed problem.ranking bound) output → IsTrue seen ⊎ HoldsNeeded problem.ranking bound.need output
          → (next : ℕ) × IsFirst t rest from seen rank list next
      by [] ranked path allowed needed = absurd ranked
      by (v ∷ output) ranked path allowed needed =
          let (next, either) = runs-first problem (Has problem.transducer.finals) from t rest (v ∷ output) (path-runs problem from (t ∷ rest) (v ∷ output) path) in
          elim either [
            | inl (step, run) ↦
                let (leads, reads) = (step-reads problem whole from t [] next).0 step in (
                  next,
                  record {
                    leads = leads;
                    does = inl (
                      reads,
                      record {
                        output = v ∷ output;
                        ranked = ranked;
                        path = runs-path problem next rest (v ∷ output) run;
                        allowed = allowed;
                        needed = needed;
                      },
                    );
                  },
                )
            | inr (w, others, same, step, run) ↦
                let (leads, reads) = (step-reads problem whole from t (w ∷ []) next).0 step in
                let (item, behind) = cons-parts v output w others same in
                let (has, behind_ranked) = ranked in
                let ((other, has_other, few), behind_allowed) = allowed in
                let one : other ≡ rank = item_rank problem.ranking.order whole.ranks.once v other rank has_other has in (
                  next,
                  record {
                    leads = leads;
                    does = inr (
                      (v, has, subst (λ (r : ℕ). r ≤ bound.top) one few, subst (λ (x : Item). Reads problem t next (x ∷ [])) (sym item) reads),
                      record {
                        output = output;
                        ranked = behind_ranked;
                        path = subst (λ (o : List Item). IsPath problem.hierarchy.links problem.transducer next rest o) (sym behind) (runs-path problem next rest others run);
                        allowed = behind_allowed;
                        needed = needed-behind problem whole bound.need seen v rank output has needed;
                      },
                    );
                  },
                )
          ]
        where
          cons-parts : (v : Item) (output : List Item) (w : Item) (others : List Item) → v ∷ output ≡ w ∷ others → (v ≡ w) × (output ≡ others)
          cons-parts v output w others same = (cc, cc)

-- ---- the patterns of a sequence

module _ (part : GridList) (whole : IsWhole part.problem) (items : List Item) where
  -- where nothing is needed, all is seen
  needed-first : (need : Option ℕ) (v : Item) (output : List Item) → IsTrue (seen_first need) ⊎ HoldsNeeded part.problem.ranking need (v ∷ output)
      → HoldsNeeded part.problem.ranking need (v ∷ output)
  needed-first None v output either = (v, Contains-first v output, tt)
  needed-first (Some need) v output (inl never) = absurd (true≢false (sym never))
  needed-first (Some need) v output (inr holds) = holds

  pub writes-generates : (rank : ℕ) (list : List ℕ) → WritesRanks part.problem part.bound items 0 (seen_first part.bound.need) (rank ∷ list)
      → GeneratesWithin part (rank ∷ list) items
  writes-generates rank list writes = by writes.output writes.ranked writes.path writes.allowed writes.needed
    where
      by : (output : List Item) → AreRanked part.problem.ranking.order output (rank ∷ list) → IsPath part.problem.hierarchy.links part.problem.transducer 0 items output
          → AllByRecursion (IsAllowed part.problem.ranking part.bound) output
          → IsTrue (seen_first part.bound.need) ⊎ HoldsNeeded part.problem.ranking part.bound.need output → GeneratesWithin part (rank ∷ list) items
      by [] ranked path allowed needed = absurd ranked
      by (v ∷ output) ranked path allowed needed = (
        v ∷ output,
        ranked,
        ((λ none. nil-not-cons v output (sym none)), (whole.paths part.problem.hierarchy.links items (v ∷ output)).0 path),
        record {
          ranked = allowed;
          needed = (needed-within part.problem.ranking part.bound.need v output).0 (needed-first part.bound.need v output needed);
        },
      )

  pub generates-writes : (rank : ℕ) (list : List ℕ) → GeneratesWithin part (rank ∷ list) items
      → WritesRanks part.problem part.bound items 0 (seen_first part.bound.need) (rank ∷ list)
  generates-writes rank list ([], ranked, is, within) = absurd ranked
  generates-writes rank list (v ∷ pattern, ranked, (some, generates), within) = record {
    output = v ∷ pattern;
    ranked = ranked;
    path = (whole.paths part.problem.hierarchy.links items (v ∷ pattern)).1 generates;
    allowed = within.ranked;
    needed = inr ((needed-within part.problem.ranking part.bound.need v pattern).1 within.needed);
  }
