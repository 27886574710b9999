-- The live states of a prefix, position by position, and the snapshots of the prefixes that are longer by one.
use Rattle.std.proofs.Common.{◌≡◌, ◌↔◌, ℕ, ◌+◌, ◌≤◌, ◌<◌, ◌⊎◌, inl, inr, Some, List, [], ◌∷◌, ◌++◌, length, take, drop, refl, sym, ap, ◌∙◌, subst, arith, append_assoc}
use Rattle.std.specs.List.{slice_get}
use Rattle.std.proofs.lemmas.List.{append-nil, length-append, length-take-le, same_from_push, take-append-drop, take_more, drop_more}
use Rattle.std.proofs.lemmas.Option.{get_or_from_slice_get, slice_get_within, same_Some}
use Rattle.state_bits.specs.Members.{Has}
use Rattle.mine_model.specs.declared.item.Item.{Item}
use Rattle.mine_model.specs.Ranks.{HasRank}
use Rattle.mining_job.specs.declared.bound.Bound.{Bound}
use Rattle.mining_job.specs.Problems.{Problem, IsWhole}
use Rattle.sequence_grids.specs.Grids.{IsAllowed, HoldsNeeded, Reads}
use Rattle.sequence_grids.proofs.KindLemmas.{nil-not-cons}
use Rattle.sequence_grids.proofs.GridLemmas.{item_there}
use Rattle.snapshot_project.specs.Runs.{IsStep, IsRun}
use Rattle.snapshot_project.specs.Snapshots.{CompletesBehind, IsSnapshotAt, HasSnapshot}
use Rattle.snapshot_project.specs.Live.{IsLiveAt, IsLive, GoesOn, WritesNext}
use Rattle.snapshot_project.proofs.RunLemmas.{step-reads, step-run, path-runs, runs-path, runs-join, run-state, silent-last, writing-first}
use Rattle.snapshot_project.proofs.NeedLemmas.{needed-append, needed-decided, completes-longer}
use Rattle.snapshot_project.proofs.SnapshotLemmas.{push-not-nil, reached-run, reached-cut, snapshot-placed, snapshot-state}

module _ (problem : Problem) (bound : Bound) (prefix : List Item) where
  -- what completes behind a silent run completes before it: nothing is lost where live states that do not complete are left out
  pub completes-back : (from : ℕ) (quiet rest : List Item) (to : ℕ) → IsRun problem from quiet [] to
      → CompletesBehind problem bound prefix rest to → CompletesBehind problem bound prefix (quiet ++ rest) from
  completes-back from quiet rest to run (seen, says, (output, path, allowed, met)) = (
    seen,
    says,
    (
      output,
      runs-path problem from (quiet ++ rest) output
          (runs-join problem (Has problem.transducer.finals) to from quiet [] rest output run (path-runs problem to rest output path)),
      allowed,
      met,
    ),
  )

  -- the same of an edge that writes an allowed item
  completes-before : (from : ℕ) (t w : Item) (rest : List Item) (to : ℕ) → IsAllowed problem.ranking bound w → IsStep problem from t (w ∷ []) to
      → CompletesBehind problem bound (prefix ++ w ∷ []) rest to → CompletesBehind problem bound prefix (t ∷ rest) from
  completes-before from t w rest to may step (longer, tells, (output, path, allowed, met)) =
      let (seen, says) = needed-decided problem.ranking bound.need prefix in
      let behind : HoldsNeeded problem.ranking bound.need (w ∷ []) ⊎ HoldsNeeded problem.ranking bound.need output
      → HoldsNeeded problem.ranking bound.need (w ∷ output) =
      λ h. (needed-append problem.ranking bound.need (w ∷ []) output).1 h in (
        seen,
        says,
        (
          w ∷ output,
          runs-path problem from (t ∷ rest) (w ∷ output)
              (writing-first problem (Has problem.transducer.finals) from t w to rest output step (path-runs problem to rest output path)),
          (may, allowed),
          elim met [
            | inl holds ↦ elim ((needed-append problem.ranking bound.need prefix (w ∷ [])).0 (tells.0 holds)) [
              | inl before ↦ inl (says.1 before)
              | inr now ↦ inr (behind (inl now))
            ]
            | inr later ↦ inr (behind (inr later))
          ],
        ),
      )

  -- ---- between what is done and the rest

  snapshot-live : (done rest : List Item) (state : ℕ) → IsSnapshotAt problem bound done rest prefix state → IsLiveAt problem bound done rest prefix state
  snapshot-live done rest state snapshot = (done, [], state, sym (append-nil done), snapshot, (refl, refl), snapshot.1)

  live-start : (rest : List Item) (state : ℕ) → IsLiveAt problem bound [] rest prefix state → IsSnapshotAt problem bound [] rest prefix state
  live-start rest state (early, quiet, start, cut, snapshot, run, completes) = by early quiet cut snapshot run
    where
      by : (early quiet : List Item) → [] ≡ early ++ quiet → IsSnapshotAt problem bound early (quiet ++ rest) prefix start
          → IsRun problem start quiet [] state → IsSnapshotAt problem bound [] rest prefix state
      by [] [] cut snapshot run = subst (IsSnapshotAt problem bound [] rest prefix) run.0 snapshot
      by [] (u ∷ quiet) cut snapshot run = absurd (nil-not-cons u quiet cut)
      by (u ∷ early) quiet cut snapshot run = absurd (nil-not-cons u (early ++ quiet) cut)

  live-on : (done : List Item) (t : Item) (rest : List Item) (from next : ℕ) → IsLiveAt problem bound done (t ∷ rest) prefix from
      → IsStep problem from t [] next → CompletesBehind problem bound prefix rest next → IsLiveAt problem bound (done ++ t ∷ []) rest prefix next
  live-on done t rest from next (early, quiet, start, cut, snapshot, run, before) step completes = (
    early,
    quiet ++ t ∷ [],
    start,
    ap (λ (d : List Item). d ++ t ∷ []) cut ∙ append_assoc early quiet (t ∷ []),
    subst (λ (l : List Item). IsSnapshotAt problem bound early l prefix start) (sym (append_assoc quiet (t ∷ []) rest)) snapshot,
    runs-join problem (λ k. k ≡ next) from start quiet [] (t ∷ []) [] run (step-run problem from t [] next step),
    completes,
  )

  live-came : (done : List Item) (t : Item) (rest : List Item) (next : ℕ) → IsLiveAt problem bound (done ++ t ∷ []) rest prefix next
      → IsSnapshotAt problem bound (done ++ t ∷ []) rest prefix next
      ⊎ ((from : ℕ) × IsLiveAt problem bound done (t ∷ rest) prefix from × IsStep problem from t [] next × CompletesBehind problem bound prefix rest next)
  live-came done t rest next (early, quiet, start, cut, snapshot, run, completes) = by quiet cut snapshot run
    where
      by : (quiet : List Item) → done ++ t ∷ [] ≡ early ++ quiet → IsSnapshotAt problem bound early (quiet ++ rest) prefix start
          → IsRun problem start quiet [] next
          → IsSnapshotAt problem bound (done ++ t ∷ []) rest prefix next
          ⊎ ((from : ℕ) × IsLiveAt problem bound done (t ∷ rest) prefix from × IsStep problem from t [] next × CompletesBehind problem bound prefix rest next)
      by [] cut snapshot run =
          let all : done ++ t ∷ [] ≡ early = cut ∙ append-nil early in
          inl (subst (λ (d : List Item). IsSnapshotAt problem bound d rest prefix next) (sym all)
          (subst (IsSnapshotAt problem bound early rest prefix) run.0 snapshot))
      by (u ∷ input) cut snapshot run =
          let (front, last, middle, same, first, step) = silent-last problem start u input next run in
          let all : done ++ t ∷ [] ≡ (early ++ front) ++ last ∷ [] = cut ∙ ap (λ (l : List Item). early ++ l) same ∙ sym (append_assoc early front (last ∷ [])) in
          let (before, item) = same_from_push done (early ++ front) t last all in
          let later : u ∷ (input ++ rest) ≡ front ++ t ∷ rest =
          ap (λ (l : List Item). l ++ rest) same ∙ append_assoc front (last ∷ []) rest ∙ ap (λ (x : Item). front ++ x ∷ rest) (sym item) in
          let here : IsStep problem middle t [] next = subst (λ (x : Item). IsStep problem middle x [] next) (sym item) step in
          inr (
            middle,
            (
              early,
              front,
              start,
              before,
              subst (λ (l : List Item). IsSnapshotAt problem bound early l prefix start) later snapshot,
              first,
              completes-back middle (t ∷ []) rest next (step-run problem middle t [] next here) completes,
            ),
            here,
            completes,
          )

  longer-from : (done : List Item) (t : Item) (rest : List Item) (w : Item) (next : ℕ) → IsAllowed problem.ranking bound w
      → IsSnapshotAt problem bound (done ++ t ∷ []) rest (prefix ++ w ∷ []) next
      → (from : ℕ) × IsLiveAt problem bound done (t ∷ rest) prefix from × IsStep problem from t (w ∷ []) next
      × CompletesBehind problem bound (prefix ++ w ∷ []) rest next
  longer-from done t rest w next may (reached, completes) = elim reached [
    | inl (none, nothing, start) ↦ absurd (push-not-nil prefix w nothing)
    | inr (first, u, before, v, previous, cut, same, run, step) ↦
        let (places, item) = same_from_push done first t u cut in
        let (items, written) = same_from_push prefix before w v same in
        let here : IsRun problem 0 done prefix previous =
        subst (λ (d : List Item). IsRun problem 0 d prefix previous) (sym places)
        (subst (λ (o : List Item). IsRun problem 0 first o previous) (sym items) run) in
        let now : IsStep problem previous t (w ∷ []) next =
        subst (λ (x : Item). IsStep problem previous x (w ∷ []) next) (sym item)
        (subst (λ (x : Item). IsStep problem previous u (x ∷ []) next) (sym written) step) in
        let (early, quiet, start, whole, at, silent) =
        reached-cut problem (λ k. k ≡ previous) done prefix []
        (subst (λ (o : List Item). IsRun problem 0 done o previous) (sym (append-nil prefix)) here) in
        let alive : CompletesBehind problem bound prefix (t ∷ rest) previous = completes-before previous t w rest next may now completes in (
          previous,
          (early, quiet, start, whole, (at, completes-back start quiet (t ∷ rest) previous silent alive), silent, alive),
          now,
          completes,
        )
  ]

  longer-at : (done : List Item) (t : Item) (rest : List Item) (w : Item) (from next : ℕ) → IsLiveAt problem bound done (t ∷ rest) prefix from
      → IsStep problem from t (w ∷ []) next → CompletesBehind problem bound (prefix ++ w ∷ []) rest next
      → IsSnapshotAt problem bound (done ++ t ∷ []) rest (prefix ++ w ∷ []) next
  longer-at done t rest w from next (early, quiet, start, cut, snapshot, silent, alive) step completes = (
    inr (
      done,
      t,
      prefix,
      w,
      from,
      refl,
      refl,
      subst (λ (d : List Item). IsRun problem 0 d prefix from) (sym cut)
          (subst (λ (o : List Item). IsRun problem 0 (early ++ quiet) o from) (append-nil prefix)
          (runs-join problem (λ k. k ≡ from) start 0 early prefix quiet [] (reached-run problem early prefix start snapshot.0) silent)),
      step,
    ),
    completes,
  )

-- what is done and what is left at a position
pub cut-done : (items : List Item) (position : ℕ) (t : Item) → slice_get items position ≡ Some t → take (position + 1) items ≡ take position items ++ t ∷ []
cut-done items position t here =
    take_more items position t (slice_get_within items position t here)
    ∙ ap (λ (x : Item). take position items ++ x ∷ []) (get_or_from_slice_get items position t t here)

pub cut-rest : (items : List Item) (position : ℕ) (t : Item) → slice_get items position ≡ Some t → drop position items ≡ t ∷ drop (position + 1) items
cut-rest items position t here =
    drop_more items position t (slice_get_within items position t here)
    ∙ ap (λ (x : Item). x ∷ drop (position + 1) items) (get_or_from_slice_get items position t t here)

module _ (problem : Problem) (whole : IsWhole problem) (bound : Bound) (items prefix : List Item) where
  -- what is live stands at a snapshot or behind one
  pub live-begins : (position state : ℕ) → IsLive problem bound items prefix position state
      → (start : ℕ) × (from : ℕ) × (start ≤ position) × HasSnapshot problem bound items prefix start from
  live-begins position state (inside, (early, quiet, start, cut, snapshot, run, completes)) =
      let long : length (take position items) ≡ position = length-take-le position items inside in
      let parts : length (early ++ quiet) ≡ length early + length quiet = length-append early quiet in
      let same : length (take position items) ≡ length (early ++ quiet) = ap length cut in
      let all : items ≡ early ++ (quiet ++ drop position items) =
      sym (take-append-drop position items) ∙ ap (λ (l : List Item). l ++ drop position items) cut ∙ append_assoc early quiet (drop position items) in (
        length early,
        start,
        omega arith,
        subst (λ (s : List Item). HasSnapshot problem bound s prefix (length early) start) (sym all)
            (snapshot-placed problem bound early (quiet ++ drop position items) prefix start snapshot),
      )

  -- the state is one of the transducer
  pub live-state : (position state : ℕ) → IsLive problem bound items prefix position state → state ≤ length problem.transducer.labels
  live-state position state live =
      let (inside, (early, quiet, start, cut, snapshot, run, completes)) = live in
      let from : start ≤ length problem.transducer.labels =
      snapshot-state problem bound whole (early ++ (quiet ++ drop position items)) prefix (length early) start
      (snapshot-placed problem bound early (quiet ++ drop position items) prefix start snapshot) in
      run-state problem whole start quiet [] state from run

  -- at the start
  pub live-first : (state : ℕ) → IsLive problem bound items prefix 0 state ↔ HasSnapshot problem bound items prefix 0 state
  live-first state = (
    (λ (inside, live). (inside, live-start problem bound prefix items state live)),
    (λ (inside, snapshot). (inside, snapshot-live problem bound prefix [] items state snapshot)),
  )

  -- a snapshot is live
  pub live-snapshot : (position state : ℕ) → HasSnapshot problem bound items prefix position state → IsLive problem bound items prefix position state
  live-snapshot position state (inside, snapshot) = (inside, snapshot-live problem bound prefix (take position items) (drop position items) state snapshot)

  live-from : (position state : ℕ) → IsLive problem bound items prefix (position + 1) state
      → HasSnapshot problem bound items prefix (position + 1) state ⊎ GoesOn problem bound items prefix position state
  live-from position state (inside, live) =
      let (t, here) = item_there items position (omega arith) in
      let done = cut-done items position t here in
      elim (live-came problem bound prefix (take position items) t (drop (position + 1) items) state
      (subst (λ (d : List Item). IsLiveAt problem bound d (drop (position + 1) items) prefix state) done live)) [
        | inl snapshot ↦ inl (inside, subst (λ (d : List Item). IsSnapshotAt problem bound d (drop (position + 1) items) prefix state) (sym done) snapshot)
        | inr (from, before, step, completes) ↦
            let (leads, reads) = (step-reads problem whole from t [] state).0 step in
            inr (
              t,
              from,
              here,
              (omega arith, subst (λ (r : List Item). IsLiveAt problem bound (take position items) r prefix from) (sym (cut-rest items position t here)) before),
              leads,
              reads,
              completes,
            )
      ]

  live-to : (position state : ℕ) → GoesOn problem bound items prefix position state → IsLive problem bound items prefix (position + 1) state
  live-to position state (t, from, here, (inside, live), leads, reads, completes) =
      let within : position < length items = slice_get_within items position t here in (
        omega arith,
        subst (λ (d : List Item). IsLiveAt problem bound d (drop (position + 1) items) prefix state) (sym (cut-done items position t here))
            (live-on problem bound prefix (take position items) t (drop (position + 1) items) from state
            (subst (λ (r : List Item). IsLiveAt problem bound (take position items) r prefix from) (cut-rest items position t here) live)
            ((step-reads problem whole from t [] state).1 (leads, reads)) completes),
      )

  -- behind a position
  pub live-next : (position state : ℕ) → IsLive problem bound items prefix (position + 1) state
      ↔ (HasSnapshot problem bound items prefix (position + 1) state ⊎ GoesOn problem bound items prefix position state)
  live-next position state = (
    live-from position state,
    (λ h. elim h [
      | inl snapshot ↦ live-snapshot (position + 1) state snapshot
      | inr goes ↦ live-to position state goes
    ]),
  )

  module _ (w : Item) where
    -- no longer prefix has a snapshot at the start
    pub longer-first : (state : ℕ) → HasSnapshot problem bound items (prefix ++ w ∷ []) 0 state → ⊥
    longer-first state (inside, (reached, completes)) = elim reached [
      | inl (none, nothing, start) ↦ push-not-nil prefix w nothing
      | inr (early, t, before, v, previous, cut, same, run, step) ↦ push-not-nil early t (sym cut)
    ]

    -- THE STEP: behind a position it has them where an edge from a live state writes the item
    module _ (rank : ℕ) (has : HasRank problem.ranking.order w rank) where
      longer-down : rank ≤ bound.top → (position state : ℕ)
          → HasSnapshot problem bound items (prefix ++ w ∷ []) (position + 1) state → WritesNext problem bound items prefix rank position state
      longer-down few position state (inside, snapshot) =
          let (t, here) = item_there items position (omega arith) in
          let (from, live, step, completes) =
          longer-from problem bound prefix (take position items) t (drop (position + 1) items) w state (rank, has, few)
          (subst (λ (d : List Item). IsSnapshotAt problem bound d (drop (position + 1) items) (prefix ++ w ∷ []) state) (cut-done items position t here) snapshot) in
          let (leads, reads) = (step-reads problem whole from t (w ∷ []) state).0 step in (
            t,
            from,
            here,
            (omega arith, subst (λ (r : List Item). IsLiveAt problem bound (take position items) r prefix from) (sym (cut-rest items position t here)) live),
            leads,
            (w, has, few, reads),
            (completes-longer problem bound prefix rank whole w has (drop (position + 1) items) state).0 completes,
          )

      longer-up : (position state : ℕ)
          → WritesNext problem bound items prefix rank position state → HasSnapshot problem bound items (prefix ++ w ∷ []) (position + 1) state
      longer-up position state (t, from, here, (inside, live), leads, (v, other, few, reads), completes) =
          let within : position < length items = slice_get_within items position t here in
          let same : v ≡ w = same_Some v w (sym other.place ∙ has.place) in (
            omega arith,
            subst (λ (d : List Item). IsSnapshotAt problem bound d (drop (position + 1) items) (prefix ++ w ∷ []) state) (sym (cut-done items position t here))
                (longer-at problem bound prefix (take position items) t (drop (position + 1) items) w from state
                (subst (λ (r : List Item). IsLiveAt problem bound (take position items) r prefix from) (cut-rest items position t here) live)
                ((step-reads problem whole from t (w ∷ []) state).1 (leads, subst (λ (x : Item). Reads problem t state (x ∷ [])) same reads))
                ((completes-longer problem bound prefix rank whole w has (drop (position + 1) items) state).1 completes)),
          )

      pub longer-next : rank ≤ bound.top → (position state : ℕ)
          → HasSnapshot problem bound items (prefix ++ w ∷ []) (position + 1) state ↔ WritesNext problem bound items prefix rank position state
      longer-next few position state = (longer-down few position state, longer-up position state)
