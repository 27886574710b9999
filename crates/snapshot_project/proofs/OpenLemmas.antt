-- Places from which more can be written.
use Rattle.std.proofs.Common.{◌≡◌, ◌↔◌, ℕ, zero, suc, ◌+◌, ◌≤◌, ◌⊎◌, inl, inr, Bool, IsTrue, Option, Some, None, List, [], ◌∷◌, ◌++◌, drop, sym, subst, arith, append_assoc}
use Rattle.std.specs.List.{slice_get}
use Rattle.state_bits.specs.Members.{Has}
use Rattle.mine_model.specs.declared.item.Item.{Item}
use Rattle.mine_model.specs.Ranks.{Ranking, HasRank}
use Rattle.mine_model.proofs.ListLemmas.{Contains-first}
use Rattle.fst_compile.specs.Transducer.{Leads}
use Rattle.mining_job.specs.declared.bound.Bound.{Bound}
use Rattle.mining_job.specs.Problems.{Problem, IsWhole}
use Rattle.sequence_grids.specs.Grids.{HoldsNeeded, Continues, Reads, WritesRank}
use Rattle.snapshot_project.specs.Aims.{goes}
use Rattle.snapshot_project.specs.Runs.{IsRun}
use Rattle.snapshot_project.specs.Snapshots.{CompletesBehind, HasSnapshot, WritesOn}
use Rattle.snapshot_project.specs.Live.{IsLive, HoldsNeededWith, CompletesWith, WritesNext}
use Rattle.snapshot_project.proofs.RunLemmas.{step-reads, step-run, path-runs, runs-path, runs-join, writing-first}
use Rattle.snapshot_project.proofs.NeedLemmas.{needed-append, needed-longer, needed-decided}
use Rattle.snapshot_project.proofs.LiveLemmas.{cut-rest, live-first, live-next}

-- what a path that goes on owes, by what it writes behind the prefix
goes-needed : (ranking : Ranking) (need : Option ℕ) (seen : Bool) (prefix : List Item) (v : Item) (more : List Item)
    → IsTrue seen ↔ HoldsNeeded ranking need prefix → HoldsNeeded ranking need (prefix ++ v ∷ more) → IsTrue (goes seen need) ⊎ HoldsNeeded ranking need (v ∷ more)
goes-needed ranking None seen prefix v more is holds = inr (v, Contains-first v more, tt)
goes-needed ranking (Some need) seen prefix v more is holds = elim ((needed-append ranking (Some need) prefix (v ∷ more)).0 holds) [
  | inl before ↦ inl (is.1 before)
  | inr behind ↦ inr behind
]

module _ (problem : Problem) (bound : Bound) (prefix : List Item) where
  -- there a path completes
  pub open-completes : (rest : List Item) (state : ℕ) → WritesOn problem bound prefix rest state → CompletesBehind problem bound prefix rest state
  open-completes rest state (v, more, path, allowed, holds) =
      let (seen, says) = needed-decided problem.ranking bound.need prefix in (
        seen,
        says,
        (
          v ∷ more,
          path,
          allowed,
          elim ((needed-append problem.ranking bound.need prefix (v ∷ more)).0 holds) [ inl before ↦ inl (says.1 before) | inr behind ↦ inr behind ],
        ),
      )

  -- and goes on as it has to
  pub open-goes : (seen : Bool) → IsTrue seen ↔ HoldsNeeded problem.ranking bound.need prefix → (rest : List Item) (state : ℕ)
      → WritesOn problem bound prefix rest state → Continues problem bound rest state (goes seen bound.need)
  open-goes seen is rest state (v, more, path, allowed, holds) =
      (v, more, path, allowed, goes-needed problem.ranking bound.need seen prefix v more is holds)

  -- before a silent run from where more can be written it can be written too
  pub open-back : (from : ℕ) (quiet rest : List Item) (to : ℕ) → IsRun problem from quiet [] to
      → WritesOn problem bound prefix rest to → WritesOn problem bound prefix (quiet ++ rest) from
  open-back from quiet rest to run (v, more, path, allowed, holds) = (
    v,
    more,
    runs-path problem from (quiet ++ rest) (v ∷ more)
        (runs-join problem (Has problem.transducer.finals) to from quiet [] rest (v ∷ more) run (path-runs problem to rest (v ∷ more) path)),
    allowed,
    holds,
  )

module _ (problem : Problem) (whole : IsWhole problem) (bound : Bound) (items prefix : List Item) where
  -- before a silent edge
  pub open-before : (position from state : ℕ) (t : Item) → slice_get items position ≡ Some t → Leads problem.transducer from state → Reads problem t state []
      → WritesOn problem bound prefix (drop (position + 1) items) state → WritesOn problem bound prefix (drop position items) from
  open-before position from state t here leads reads on =
      subst (λ (r : List Item). WritesOn problem bound prefix r from) (sym (cut-rest items position t here))
      (open-back problem bound prefix from (t ∷ []) (drop (position + 1) items) state
      (step-run problem from t [] state ((step-reads problem whole from t [] state).1 (leads, reads))) on)

  writes-holds : (rank : ℕ) (w : Item) (output : List Item) → HasRank problem.ranking.order w rank
      → HoldsNeededWith problem bound prefix rank ⊎ HoldsNeeded problem.ranking bound.need output → HoldsNeeded problem.ranking bound.need (prefix ++ w ∷ output)
  writes-holds rank w output has met =
      subst (HoldsNeeded problem.ranking bound.need) (append_assoc prefix (w ∷ []) output)
      ((needed-append problem.ranking bound.need (prefix ++ w ∷ []) output).1 (elim met [
        | inl before ↦ inl ((needed-longer problem whole bound.need prefix w rank has).1 before)
        | inr behind ↦ inr behind
      ]))

  -- from where an edge writes something, it can be written
  pub open-writes : (rank position from state : ℕ) (t : Item) → slice_get items position ≡ Some t → Leads problem.transducer from state
      → WritesRank problem bound t state rank → CompletesWith problem bound prefix rank (drop (position + 1) items) state
      → WritesOn problem bound prefix (drop position items) from
  open-writes rank position from state t here leads (w, has, few, reads) (seen, says, (output, path, allowed, met)) =
      subst (λ (r : List Item). WritesOn problem bound prefix r from) (sym (cut-rest items position t here)) (
        w,
        output,
        runs-path problem from (t ∷ drop (position + 1) items) (w ∷ output)
            (writing-first problem (Has problem.transducer.finals) from t w state (drop (position + 1) items) output
            ((step-reads problem whole from t (w ∷ []) state).1 (leads, reads)) (path-runs problem state (drop (position + 1) items) output path)),
        ((rank, has, few), allowed),
        writes-holds rank w output has (elim met [ inl before ↦ inl (says.0 before) | inr behind ↦ inr behind ]),
      )

  -- a live state from which more can be written stands at such a snapshot or behind one
  pub open-begins : (position state : ℕ) → IsLive problem bound items prefix position state → WritesOn problem bound prefix (drop position items) state
      → (start : ℕ) × (from : ℕ) × (start ≤ position) × HasSnapshot problem bound items prefix start from
      × WritesOn problem bound prefix (drop start items) from
  open-begins zero state live on = (0, state, omega arith, (live-first problem whole bound items prefix state).0 live, on)
  open-begins (suc before) state live on =
      let next : suc before ≡ before + 1 = omega arith in
      elim ((live-next problem whole bound items prefix before state).0 (subst (λ (k : ℕ). IsLive problem bound items prefix k state) next live)) [
        | inl snapshot ↦ (suc before, state, omega arith, subst (λ (k : ℕ). HasSnapshot problem bound items prefix k state) (sym next) snapshot, on)
        | inr (t, last, here, alive, leads, reads, behind) ↦
            let after : WritesOn problem bound prefix (drop (before + 1) items) state = subst (λ (k : ℕ). WritesOn problem bound prefix (drop k items) state) next on in
            let (start, from, early, snapshot, begun) = open-begins before last alive (open-before before last state t here leads reads after) in
            (start, from, omega arith, snapshot, begun)
      ]

  -- what is written behind the prefix comes from a snapshot from which more can be written
  pub writes-begins : (rank position state : ℕ) → WritesNext problem bound items prefix rank position state
      → (start : ℕ) × (from : ℕ) × (start ≤ position) × HasSnapshot problem bound items prefix start from
      × WritesOn problem bound prefix (drop start items) from
  writes-begins rank position state (t, from, here, live, leads, writes, completes) =
      open-begins position from live (open-writes rank position from state t here leads writes completes)
