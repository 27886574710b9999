-- Runs of a transducer, joined and cut.
use Rattle.std.proofs.Common.{◌≡◌, ◌↔◌, ℕ, ◌≤◌, ◌⊎◌, inl, inr, List, [], ◌∷◌, ◌++◌, length, refl, sym, ap, ◌∙◌, subst, append_assoc}
use Rattle.std.proofs.lemmas.List.{append-nil}
use Rattle.state_bits.specs.Members.{Has}
use Rattle.mine_model.specs.declared.item.Item.{Item}
use Rattle.mine_model.specs.Numbered.{leaf_of}
use Rattle.fst_compile.specs.Transducer.{IsPath, Leads}
use Rattle.mining_job.specs.Problems.{Problem, IsWhole}
use Rattle.sequence_grids.specs.Grids.{Reads}
use Rattle.sequence_grids.proofs.KindLemmas.{nil-not-cons}
use Rattle.sequence_grids.proofs.PathLemmas.{reads-edge, writes-cases, target-of}
use Rattle.snapshot_project.specs.Runs.{IsStep, Runs, IsRun}

module _ (problem : Problem) where
  -- an edge writes nothing or one item
  pub step-cases : (from : ℕ) (t : Item) (here : List Item) (to : ℕ) → IsStep problem from t here to → (here ≡ []) ⊎ ((v : Item) × (here ≡ v ∷ []))
  step-cases from t here to (edge, held, is, matches, writes) =
      elim (writes-cases problem.hierarchy.links (leaf_of edge.leaf) edge.captured t here writes) [
        | inl silent ↦ inl silent.1
        | inr (captured, (v, may, same)) ↦ inr (v, same)
      ]

  -- an edge does what its state's label says
  pub step-reads : IsWhole problem → (from : ℕ) (t : Item) (here : List Item) (to : ℕ)
      → IsStep problem from t here to ↔ (Leads problem.transducer from to × Reads problem t to here)
  step-reads whole from t here to = (
    (λ (edge, held, is, matches, writes). (
      (edge, held, is),
      subst (λ (k : ℕ). Reads problem t k here) is ((reads-edge problem edge t here (whole.automaton.labelled from edge held)).1 (matches, writes)),
    )),
    (λ ((edge, held, is), reads).
        let (matches, writes) = (reads-edge problem edge t here (whole.automaton.labelled from edge held)).0 (subst (λ (k : ℕ). Reads problem t k here) (sym is) reads) in
        (edge, held, is, matches, writes)),
  )

  -- it leads to a state of the transducer
  pub step-state : IsWhole problem → (from : ℕ) (t : Item) (here : List Item) (to : ℕ) → IsStep problem from t here to → to ≤ length problem.transducer.labels
  step-state whole from t here to (edge, held, is, matches, writes) = (target-of problem whole from to (edge, held, is)).1

  -- paths are runs to final states
  pub path-runs : (state : ℕ) (input output : List Item) → IsPath problem.hierarchy.links problem.transducer state input output
      → Runs problem (Has problem.transducer.finals) state input output
  path-runs state [] output path = path
  path-runs state (t ∷ rest) output (edge, here, there, held, matches, writes, joined, path) =
      (edge.to.0, here, there, (edge, held, refl, matches, writes), joined, path-runs edge.to.0 rest there path)

  pub runs-path : (state : ℕ) (input output : List Item) → Runs problem (Has problem.transducer.finals) state input output
      → IsPath problem.hierarchy.links problem.transducer state input output
  runs-path state [] output run = run
  runs-path state (t ∷ rest) output (next, here, there, (edge, held, is, matches, writes), joined, run) = (
    edge,
    here,
    there,
    held,
    matches,
    writes,
    joined,
    subst (λ (k : ℕ). IsPath problem.hierarchy.links problem.transducer k rest there) (sym is) (runs-path next rest there run),
  )

  -- one edge
  pub step-run : (from : ℕ) (t : Item) (here : List Item) (to : ℕ) → IsStep problem from t here to → IsRun problem from (t ∷ []) here to
  step-run from t here to step = (to, here, [], step, sym (append-nil here), (refl, refl))

  -- a run to one state that is not empty ends in a state of the transducer
  pub run-state : IsWhole problem → (from : ℕ) (input output : List Item) (to : ℕ) → from ≤ length problem.transducer.labels
      → IsRun problem from input output to → to ≤ length problem.transducer.labels
  run-state whole from [] output to inside run = subst (λ (k : ℕ). k ≤ length problem.transducer.labels) run.0 inside
  run-state whole from (t ∷ rest) output to inside (next, here, there, step, joined, run) =
      run-state whole next rest there to (step-state whole from t here next step) run

  -- a silent edge, and then a run
  pub silent-first : (IsEnd : ℕ → Type 0) (from : ℕ) (t : Item) (next : ℕ) (rest output : List Item) → IsStep problem from t [] next
      → Runs problem IsEnd next rest output → Runs problem IsEnd from (t ∷ rest) output
  silent-first IsEnd from t next rest output step run = (next, [], output, step, refl, run)

  -- an edge that writes, and then a run
  pub writing-first : (IsEnd : ℕ → Type 0) (from : ℕ) (t w : Item) (next : ℕ) (rest output : List Item) → IsStep problem from t (w ∷ []) next
      → Runs problem IsEnd next rest output → Runs problem IsEnd from (t ∷ rest) (w ∷ output)
  writing-first IsEnd from t w next rest output step run = (next, w ∷ [], output, step, refl, run)

  -- a run to a state, and then one from there on
  pub runs-join : (IsEnd : ℕ → Type 0) (middle from : ℕ) (input1 output1 input2 output2 : List Item) → IsRun problem from input1 output1 middle
      → Runs problem IsEnd middle input2 output2 → Runs problem IsEnd from (input1 ++ input2) (output1 ++ output2)
  runs-join IsEnd middle from [] output1 input2 output2 (at, nothing) after =
      subst (λ (o : List Item). Runs problem IsEnd from input2 (o ++ output2)) (sym nothing)
      (subst (λ (s : ℕ). Runs problem IsEnd s input2 output2) (sym at) after)
  runs-join IsEnd middle from (t ∷ rest) output1 input2 output2 (next, here, there, step, joined, run) after = (
    next,
    here,
    there ++ output2,
    step,
    ap (λ (o : List Item). o ++ output2) joined ∙ append_assoc here there output2,
    runs-join IsEnd middle next rest there input2 output2 run after,
  )

  -- a run over one item and more begins with a silent edge, or with one that writes the first item of its output
  pub runs-first : (IsEnd : ℕ → Type 0) (from : ℕ) (t : Item) (rest output : List Item) → Runs problem IsEnd from (t ∷ rest) output
      → (next : ℕ) × ((IsStep problem from t [] next × Runs problem IsEnd next rest output)
      ⊎ ((w : Item) × (others : List Item) × (output ≡ w ∷ others) × IsStep problem from t (w ∷ []) next × Runs problem IsEnd next rest others))
  runs-first IsEnd from t rest output (next, here, there, step, joined, run) = (
    next,
    elim (step-cases from t here next step) [
      | inl silent ↦ inl (
        subst (λ (h : List Item). IsStep problem from t h next) silent step,
        subst (Runs problem IsEnd next rest) (sym (joined ∙ ap (λ (h : List Item). h ++ there) silent)) run,
      )
      | inr (w, one) ↦ inr (
        w,
        there,
        joined ∙ ap (λ (h : List Item). h ++ there) one,
        subst (λ (h : List Item). IsStep problem from t h next) one step,
        run,
      )
    ],
  )

  -- a silent run to a state that is not empty ends with a silent edge
  pub silent-last : (from : ℕ) (u : Item) (input : List Item) (to : ℕ) → IsRun problem from (u ∷ input) [] to
      → (front : List Item) × (t : Item) × (middle : ℕ) × (u ∷ input ≡ front ++ t ∷ []) × IsRun problem from front [] middle × IsStep problem middle t [] to
  silent-last from u [] to run =
      let (next, either) = runs-first (λ k. k ≡ to) from u [] [] run in
      elim either [
        | inl (step, at) ↦ ([], u, from, refl, (refl, refl), subst (λ (k : ℕ). IsStep problem from u [] k) at.0 step)
        | inr (w, others, same, step, at) ↦ absurd (nil-not-cons w others same)
      ]
  silent-last from u (v ∷ input) to run =
      let (next, either) = runs-first (λ k. k ≡ to) from u (v ∷ input) [] run in
      elim either [
        | inl (step, after) ↦
            let (front, t, middle, cut, run1, last) = silent-last next v input to after in
            (u ∷ front, t, middle, ap (λ (l : List Item). u ∷ l) cut, silent-first (λ k. k ≡ middle) from u next front [] step run1, last)
        | inr (w, others, same, step, at) ↦ absurd (nil-not-cons w others same)
      ]

  module _ (IsEnd : ℕ → Type 0) where
    -- a run is cut at the edge that writes the first item of its output
    runs-cut : (from : ℕ) (input : List Item) (w : Item) (after : List Item) → Runs problem IsEnd from input (w ∷ after)
        → (early : List Item) × (t : Item) × (rest : List Item) × (middle : ℕ) × (next : ℕ)
        × (input ≡ early ++ t ∷ rest) × IsRun problem from early [] middle × IsStep problem middle t (w ∷ []) next × Runs problem IsEnd next rest after
    runs-cut from [] w after run = absurd (nil-not-cons w after (sym run.1))
    runs-cut from (t ∷ rest) w after run =
        let (next, either) = runs-first IsEnd from t rest (w ∷ after) run in
        elim either [
          | inl (step, behind) ↦
              let (early, u, later, middle, last, cut, run1, writes, others) = runs-cut next rest w after behind in (
                t ∷ early,
                u,
                later,
                middle,
                last,
                ap (λ (l : List Item). t ∷ l) cut,
                silent-first (λ k. k ≡ middle) from t next early [] step run1,
                writes,
                others,
              )
          | inr (v, others, same, step, behind) ↦
              let first : w ≡ v = cc in
              let tail : after ≡ others = cc in (
                [],
                t,
                rest,
                from,
                next,
                refl,
                (refl, refl),
                subst (λ (x : Item). IsStep problem from t (x ∷ []) next) (sym first) step,
                subst (Runs problem IsEnd next rest) (sym tail) behind,
              )
        ]

    -- a run is cut at the edge that writes the last of these items
    pub runs-cut_behind : (from : ℕ) (input : List Item) (b : Item) (items after : List Item) → Runs problem IsEnd from input (b ∷ items ++ after)
        → (early : List Item) × (t : Item) × (rest : List Item) × (before : List Item) × (w : Item) × (middle : ℕ) × (next : ℕ)
        × (input ≡ early ++ t ∷ rest) × (b ∷ items ≡ before ++ w ∷ []) × IsRun problem from early before middle
        × IsStep problem middle t (w ∷ []) next × Runs problem IsEnd next rest after
    runs-cut_behind from input b [] after run =
        let (early, t, rest, middle, next, cut, run1, step, behind) = runs-cut from input b after run in
        (early, t, rest, [], b, middle, next, cut, refl, run1, step, behind)
    runs-cut_behind from input b (c ∷ items) after run =
        let (early, t, rest, middle, next, cut, run1, step, behind) = runs-cut from input b (c ∷ items ++ after) run in
        let (early2, u, later, before, w, middle2, last, cut2, same, run2, step2, behind2) = runs-cut_behind next rest c items after behind in (
          early ++ t ∷ early2,
          u,
          later,
          b ∷ before,
          w,
          middle2,
          last,
          cut ∙ ap (λ (l : List Item). early ++ t ∷ l) cut2 ∙ sym (append_assoc early (t ∷ early2) (u ∷ later)),
          ap (λ (l : List Item). b ∷ l) same,
          runs-join (λ k. k ≡ middle2) middle from early [] (t ∷ early2) (b ∷ before) run1
              (writing-first (λ k. k ≡ middle2) middle t b next early2 before step run2),
          step2,
          behind2,
        )
