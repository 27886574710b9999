-- Snapshots, and what they say of patterns.
use Rattle.std.proofs.Common.{◌≡◌, ◌≢◌, ◌↔◌, ℕ, ◌+◌, ◌≤◌, ◌⊎◌, inl, inr, IsTrue, false, List, [], ◌∷◌, ◌++◌, length, take, drop, refl, sym, ap, ◌∙◌, subst, arith, rules, append_assoc}
use Rattle.std.specs.List.{AllByRecursion}
use Rattle.std.proofs.lemmas.List.{append-nil, length-append, length_push, length-take-le, take-append-drop}
use Rattle.std.proofs.Math.Seq.{take-append_seam, drop-append_seam}
use Rattle.state_bits.specs.Members.{Has}
use Rattle.mine_model.specs.declared.item.Item.{Item}
use Rattle.mine_model.specs.Numbered.{tree_of}
use Rattle.mine_model.specs.Generation.{IsPatternOf}
use Rattle.mine_model.specs.Growth.{HasPatternBehind}
use Rattle.mine_model.specs.Pivots.{IsWithin}
use Rattle.mine_model.proofs.ListLemmas.{back_of_both, of_both}
use Rattle.fst_compile.specs.Transducer.{IsPath}
use Rattle.mining_job.specs.declared.bound.Bound.{Bound}
use Rattle.mining_job.specs.Problems.{Problem, IsWhole, data_of}
use Rattle.sequence_grids.specs.Grids.{IsAllowed, HoldsNeeded, Completes, Ends}
use Rattle.sequence_grids.proofs.KindLemmas.{nil-not-cons}
use Rattle.snapshot_project.specs.Runs.{Runs, IsRun}
use Rattle.snapshot_project.specs.Snapshots.{IsReached, CompletesBehind, IsSnapshotAt, HasSnapshot, WritesOn}
use Rattle.snapshot_project.proofs.RunLemmas.{step-state, step-run, path-runs, runs-path, runs-join, runs-cut_behind}
use Rattle.snapshot_project.proofs.NeedLemmas.{needed-none, needed-append, needed-decided, needed-within, completes-behind}

pub push-not-nil : (xs : List Item) (x : Item) → xs ++ x ∷ [] ≡ [] → ⊥
push-not-nil xs x e = let long : length (xs ++ x ∷ []) ≡ length xs + 1 = length_push xs x in let none : length (xs ++ x ∷ []) ≡ 0 = ap length e in omega arith

module _ (problem : Problem) where
  -- the run that leads to a place
  pub reached-run : (done prefix : List Item) (state : ℕ) → IsReached problem done prefix state → IsRun problem 0 done prefix state
  reached-run done prefix state reached = elim reached [
    | inl (none, nothing, start) ↦ subst (λ (d : List Item). IsRun problem 0 d prefix state) (sym none) (sym start, nothing)
    | inr (early, t, before, w, previous, cut, same, run, step) ↦
        subst (λ (d : List Item). IsRun problem 0 d prefix state) (sym cut)
        (subst (λ (o : List Item). IsRun problem 0 (early ++ t ∷ []) o state) (sym same)
        (runs-join problem (λ k. k ≡ state) previous 0 early before (t ∷ []) (w ∷ []) run (step-run problem previous t (w ∷ []) state step)))
  ]

  -- a run that writes the prefix and more passes a place where it has just written the prefix
  pub reached-cut : (IsEnd : ℕ → Type 0) (input prefix more : List Item) → Runs problem IsEnd 0 input (prefix ++ more)
      → (done : List Item) × (rest : List Item) × (state : ℕ) × (input ≡ done ++ rest)
      × IsReached problem done prefix state × Runs problem IsEnd state rest more
  reached-cut IsEnd input [] more run = ([], input, 0, refl, inl (refl, refl, refl), run)
  reached-cut IsEnd input (b ∷ items) more run =
      let (early, t, rest, before, w, previous, next, cut, same, run1, step, behind) = runs-cut_behind problem IsEnd 0 input b items more run in (
        early ++ t ∷ [],
        rest,
        next,
        cut ∙ sym (append_assoc early (t ∷ []) rest),
        inr (early, t, before, w, previous, refl, same, run1, step),
        behind,
      )

  pub reached-join : (IsEnd : ℕ → Type 0) (done prefix : List Item) (state : ℕ) (rest more : List Item) → IsReached problem done prefix state
      → Runs problem IsEnd state rest more → Runs problem IsEnd 0 (done ++ rest) (prefix ++ more)
  reached-join IsEnd done prefix state rest more reached run =
      runs-join problem IsEnd state 0 done prefix rest more (reached-run done prefix state reached) run

  -- the paths from a place
  pub place-path : (done prefix : List Item) (state : ℕ) (rest more : List Item) → IsReached problem done prefix state
      → IsPath problem.hierarchy.links problem.transducer state rest more → IsPath problem.hierarchy.links problem.transducer 0 (done ++ rest) (prefix ++ more)
  place-path done prefix state rest more reached path =
      runs-path problem 0 (done ++ rest) (prefix ++ more)
      (reached-join (Has problem.transducer.finals) done prefix state rest more reached (path-runs problem state rest more path))

  pub path-place : (input prefix more : List Item) → IsPath problem.hierarchy.links problem.transducer 0 input (prefix ++ more)
      → (done : List Item) × (rest : List Item) × (state : ℕ) × (input ≡ done ++ rest)
      × IsReached problem done prefix state × IsPath problem.hierarchy.links problem.transducer state rest more
  path-place input prefix more path =
      let (done, rest, state, cut, reached, run) = reached-cut (Has problem.transducer.finals) input prefix more (path-runs problem 0 input (prefix ++ more) path) in
      (done, rest, state, cut, reached, runs-path problem state rest more run)

  module _ (bound : Bound) where
    -- from a cut to a position
    pub snapshot-placed : (done rest prefix : List Item) (state : ℕ) → IsSnapshotAt problem bound done rest prefix state
        → HasSnapshot problem bound (done ++ rest) prefix (length done) state
    snapshot-placed done rest prefix state snapshot =
        let whole : length (done ++ rest) ≡ length done + length rest = length-append done rest in (
          omega arith,
          subst (λ (d : List Item). IsSnapshotAt problem bound d (drop (length done) (done ++ rest)) prefix state) (sym (take-append_seam done rest))
              (subst (λ (r : List Item). IsSnapshotAt problem bound done r prefix state) (sym (drop-append_seam done rest)) snapshot),
        )

    unseen : IsTrue false ↔ HoldsNeeded problem.ranking bound.need []
    unseen = ((λ no'. absurd (search rules)), (λ h. absurd (needed-none problem.ranking bound.need h)))

    -- the empty prefix has a snapshot at the start alone, where the items complete
    pub snapshot-start : (items : List Item) (position state : ℕ)
        → HasSnapshot problem bound items [] position state ↔ ((position ≡ 0) × (state ≡ 0) × Completes problem bound items 0 false)
    snapshot-start items position state = (
      (λ (inside, (reached, completes)). elim reached [
        | inl (none, nothing, start) ↦
            let long : length (take position items) ≡ position = length-take-le position items inside in
            let first : position ≡ 0 = sym long ∙ ap length none in (
              first,
              start,
              (completes-behind problem bound [] items 0 false unseen).0
                  (subst (λ (k : ℕ). CompletesBehind problem bound [] (drop k items) 0) first
                  (subst (CompletesBehind problem bound [] (drop position items)) start completes)),
            )
        | inr (early, t, before, w, previous, cut, same, run, step) ↦ absurd (push-not-nil before w (sym same))
      ]),
      (λ (first, start, completes).
          subst (λ (k : ℕ). HasSnapshot problem bound items [] k state) (sym first)
          (subst (HasSnapshot problem bound items [] 0) (sym start)
          (omega arith, (inl (refl, refl, refl), (completes-behind problem bound [] items 0 false unseen).1 completes)))),
    )

    module _ (whole : IsWhole problem) (items prefix : List Item) where
      -- the state is one of the transducer
      pub snapshot-state : (position state : ℕ) → HasSnapshot problem bound items prefix position state → state ≤ length problem.transducer.labels
      snapshot-state position state (inside, (reached, completes)) = elim reached [
        | inl (none, nothing, start) ↦ omega arith
        | inr (early, t, before, w, previous, cut, same, run, step) ↦ step-state problem whole previous t (w ∷ []) state step
      ]

      -- ---- patterns

      within-from : (v : Item) (output : List Item) → AllByRecursion (IsAllowed problem.ranking bound) (v ∷ output)
          → HoldsNeeded problem.ranking bound.need (v ∷ output) → IsWithin problem.ranking.order bound.top bound.need (v ∷ output)
      within-from v output all holds = record { ranked = all; needed = (needed-within problem.ranking bound.need v output).0 holds }

      pattern-from : (output : List Item) → IsPath problem.hierarchy.links problem.transducer 0 items output
          → AllByRecursion (IsAllowed problem.ranking bound) output → HoldsNeeded problem.ranking bound.need output
          → IsPatternOf problem.hierarchy.links (tree_of problem.transducer.expression) items output × IsWithin problem.ranking.order bound.top bound.need output
      pattern-from [] path all holds = absurd (needed-none problem.ranking bound.need holds)
      pattern-from (v ∷ output) path all holds = (
        ((λ none. nil-not-cons v output (sym none)), (whole.paths problem.hierarchy.links items (v ∷ output)).0 path),
        within-from v output all holds,
      )

      pattern-holds : (output : List Item) → output ≢ [] → IsWithin problem.ranking.order bound.top bound.need output → HoldsNeeded problem.ranking bound.need output
      pattern-holds [] some within = absurd (some refl)
      pattern-holds (v ∷ output) some within = (needed-within problem.ranking bound.need v output).1 within.needed

      at-items : (position : ℕ) (more : List Item) → IsPath problem.hierarchy.links problem.transducer 0 (take position items ++ drop position items) more
          → IsPath problem.hierarchy.links problem.transducer 0 items more
      at-items position more = subst (λ (s : List Item). IsPath problem.hierarchy.links problem.transducer 0 s more) (take-append-drop position items)

      module _ (allowed : AllByRecursion (IsAllowed problem.ranking bound) prefix) where
        continued : (position state : ℕ) → HasSnapshot problem bound items prefix position state
            → HasPatternBehind (data_of problem) (IsWithin problem.ranking.order bound.top bound.need) prefix items
        continued position state (inside, (reached, (seen, says, (output, path, rest_allowed, met)))) =
            let (pattern, within) =
            pattern-from (prefix ++ output)
            (at-items position (prefix ++ output) (place-path (take position items) prefix state (drop position items) output reached path))
            (of_both (IsAllowed problem.ranking bound) prefix output allowed rest_allowed)
            ((needed-append problem.ranking bound.need prefix output).1 (elim met [ inl before ↦ inl (says.0 before) | inr behind ↦ inr behind ])) in
            (output, pattern, within)

        -- from where more can be written the items have a pattern that is longer
        pub written-behind : (position state : ℕ) → HasSnapshot problem bound items prefix position state
            → WritesOn problem bound prefix (drop position items) state
            → (v : Item) × IsAllowed problem.ranking bound v
            × HasPatternBehind (data_of problem) (IsWithin problem.ranking.order bound.top bound.need) (prefix ++ v ∷ []) items
        written-behind position state (inside, (reached, completes)) (v, more, path, more_allowed, holds) =
            let (pattern, within) =
            pattern-from (prefix ++ v ∷ more)
            (at-items position (prefix ++ v ∷ more) (place-path (take position items) prefix state (drop position items) (v ∷ more) reached path))
            (of_both (IsAllowed problem.ranking bound) prefix (v ∷ more) allowed more_allowed) holds in
            let e : prefix ++ v ∷ more ≡ (prefix ++ v ∷ []) ++ more = sym (append_assoc prefix (v ∷ []) more) in (
              v,
              more_allowed.0,
              (
                more,
                subst (IsPatternOf problem.hierarchy.links (tree_of problem.transducer.expression) items) e pattern,
                subst (IsWithin problem.ranking.order bound.top bound.need) e within,
              ),
            )

        from-pattern : HasPatternBehind (data_of problem) (IsWithin problem.ranking.order bound.top bound.need) prefix items
            → (position : ℕ) × (state : ℕ) × HasSnapshot problem bound items prefix position state
        from-pattern (more, (some, generates), within) =
            let path = (whole.paths problem.hierarchy.links items (prefix ++ more)).1 generates in
            let (done, rest, state, cut, reached, behind) = path-place items prefix more path in
            let (seen, says) = needed-decided problem.ranking bound.need prefix in
            let met : IsTrue seen ⊎ HoldsNeeded problem.ranking bound.need more =
            elim ((needed-append problem.ranking bound.need prefix more).0 (pattern-holds (prefix ++ more) some within)) [ inl before ↦ inl (says.1 before) | inr later ↦ inr later ] in (
              length done,
              state,
              subst (λ (s : List Item). HasSnapshot problem bound s prefix (length done) state) (sym cut)
                  (snapshot-placed done rest prefix state (reached, (seen, says, (more, behind, back_of_both (IsAllowed problem.ranking bound) prefix more within.ranked, met)))),
            )

        -- THE LAW: the items have a snapshot of the prefix exactly where they have a pattern within the bound that begins with it
        pub snapshot-law : ((position : ℕ) × (state : ℕ) × HasSnapshot problem bound items prefix position state)
            ↔ HasPatternBehind (data_of problem) (IsWithin problem.ranking.order bound.top bound.need) prefix items
        snapshot-law = ((λ (position, state, snapshot). continued position state snapshot), from-pattern)

        ended : (position state : ℕ) → HasSnapshot problem bound items prefix position state
            → HoldsNeeded problem.ranking bound.need prefix → Ends problem (drop position items) state
            → IsPatternOf problem.hierarchy.links (tree_of problem.transducer.expression) items prefix × IsWithin problem.ranking.order bound.top bound.need prefix
        ended position state (inside, (reached, completes)) holds ends =
            pattern-from prefix
            (subst (IsPath problem.hierarchy.links problem.transducer 0 items) (append-nil prefix)
            (at-items position (prefix ++ []) (place-path (take position items) prefix state (drop position items) [] reached ends)))
            allowed holds

        from-ended : IsPatternOf problem.hierarchy.links (tree_of problem.transducer.expression) items prefix
            → IsWithin problem.ranking.order bound.top bound.need prefix
            → (position : ℕ) × (state : ℕ) × HasSnapshot problem bound items prefix position state
            × HoldsNeeded problem.ranking bound.need prefix × Ends problem (drop position items) state
        from-ended (some, generates) within =
            let path = (whole.paths problem.hierarchy.links items prefix).1 generates in
            let (done, rest, state, cut, reached, ends) =
            path-place items prefix [] (subst (IsPath problem.hierarchy.links problem.transducer 0 items) (sym (append-nil prefix)) path) in
            let holds : HoldsNeeded problem.ranking bound.need prefix = pattern-holds prefix some within in
            let (seen, says) = needed-decided problem.ranking bound.need prefix in (
              length done,
              state,
              subst (λ (s : List Item). HasSnapshot problem bound s prefix (length done) state) (sym cut)
                  (snapshot-placed done rest prefix state (reached, (seen, says, ([], ends, tt, inl (says.1 holds))))),
              holds,
              subst (λ (s : List Item). Ends problem (drop (length done) s) state) (sym cut)
                  (subst (λ (r : List Item). Ends problem r state) (sym (drop-append_seam done rest)) ends),
            )

        -- the prefix itself is such a pattern exactly where it holds what is needed and a snapshot ends
        pub snapshot-ends : ((position : ℕ) × (state : ℕ) × HasSnapshot problem bound items prefix position state
            × HoldsNeeded problem.ranking bound.need prefix × Ends problem (drop position items) state)
            ↔ (IsPatternOf problem.hierarchy.links (tree_of problem.transducer.expression) items prefix
            × IsWithin problem.ranking.order bound.top bound.need prefix)
        snapshot-ends = (
          (λ (position, state, snapshot, holds, ends). ended position state snapshot holds ends),
          (λ (pattern, within). from-ended pattern within),
        )
