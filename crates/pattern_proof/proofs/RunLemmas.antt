-- Paths of the expression are those of its transducer.
use Rattle.std.proofs.Common.{◌≡◌, ℕ, ◌-◌, ◌≤◌, Bool, true, false, Some, List, [], ◌∷◌, length, refl, sym, ap, ◌∙◌, subst, arith, Contains, ◌↔◌, MatchBool}
use Rattle.std.specs.List.{AllByRecursion, slice_get}
use Rattle.std.specs.Option.{option_map}
use Rattle.std.proofs.lemmas.Option.{slice_get-get_or, slice_get-map}
use Rattle.mine_model.specs.declared.item.Item.{Item}
use Rattle.mine_model.specs.Hierarchy.{Link}
use Rattle.mine_model.specs.Numbered.{tree_of, leaf_of}
use Rattle.mine_model.specs.Generation.{Matches, WritesAt, Generates}
use Rattle.fst_compile.specs.declared.edge.Edge.{Edge}
use Rattle.fst_compile.specs.declared.edge.Label.{Label}
use Rattle.fst_compile.specs.Shape.{Shape, Entry, labels_of, unfold_tree}
use Rattle.fst_compile.specs.Transducer.{Transducer, IsPath, Enters, edges_from, entry_of}
use Rattle.mining_job.specs.Problems.{Problem, IsWhole, items_of}
use Rattle.pattern_proof.specs.Runs.{Passes, Writes}
use Rattle.pattern_proof.specs.Steps.{IsRun}

module _ (links : List (Link Item)) (transducer : Transducer) where
  -- a run reads and writes as a path does
  run-path : (state : ℕ) (states : List ℕ) (items output : List Item) → IsRun links transducer state states items output → IsPath links transducer state items output
  run-path state [] [] output run = run
  run-path state [] (t ∷ items) output run = absurd run
  run-path state (next ∷ states) [] output run = absurd run
  run-path state (next ∷ states) (t ∷ items) output (edge, here, there, held, to, matches, writes, is, run) =
      (edge, here, there, held, matches, writes, is, subst (λ k. IsPath links transducer k items there) (sym to) (run-path next states items there run))

  -- a path has a run
  path-run : (state : ℕ) (items output : List Item) → IsPath links transducer state items output → (states : List ℕ) × IsRun links transducer state states items output
  path-run state [] output path = ([], path)
  path-run state (t ∷ items) output (edge, here, there, held, matches, writes, is, path) =
      let (states, run) = path-run edge.to.0 items there path in
      (edge.to.0 ∷ states, (edge, here, there, held, refl, matches, writes, is, run))

  -- the states of a run are states of the transducer
  run-states : ((state : ℕ) (edge : Edge) → Contains (edges_from transducer state) edge → Enters transducer.labels edge)
      → (state : ℕ) (states : List ℕ) (items output : List Item) → IsRun links transducer state states items output → AllByRecursion (λ n. n ≤ length transducer.labels) states
  run-states labelled state [] items output run = tt
  run-states labelled state (next ∷ states) [] output run = absurd run
  run-states labelled state (next ∷ states) (t ∷ items) output (edge, here, there, held, to, matches, writes, is, run) =
      let enters : Enters transducer.labels edge = labelled state edge held in
      let number = enters.to in let within = enters.within in
      (omega (arith, number, within, to), run-states labelled next states items there run)

module _ (problem : Problem) (whole : IsWhole problem) where
  abbrev shape : Shape
  shape = unfold_tree (tree_of problem.transducer.expression) false

  abbrev read_by : Edge → Entry
  read_by edge = record { leaf = leaf_of edge.leaf; captured = edge.captured }

  -- the item expression of an edge
  read : (edge : Edge) (next : ℕ) → Enters problem.transducer.labels edge → edge.to.0 ≡ next → slice_get (labels_of shape) (next - 1) ≡ Some (read_by edge)
  read edge next enters to =
      let d : Label = record { leaf = edge.leaf; captured = edge.captured } in
      let target = enters.to in
      let place : next - 1 ≡ enters.number = omega (arith, target, to) in
      ap (λ n. slice_get (labels_of shape) n) place
      ∙ ap (λ l. slice_get l enters.number) (sym whole.automaton.labels)
      ∙ slice_get-map entry_of problem.transducer.labels enters.number
      ∙ ap (option_map entry_of) (slice_get-get_or problem.transducer.labels enters.number d enters.within ∙ ap (λ (l : Label). Some l) (enters.label d))

  pub passes-run : (state : ℕ) (states : List ℕ) (items output : List Item)
      → Passes problem.hierarchy.links shape state states items output → IsRun problem.hierarchy.links problem.transducer state states items output
  passes-run state [] [] output (ends, is) = ((whole.automaton.finals state).1 ends, is)
  passes-run state [] (t ∷ items) output passes = absurd passes
  passes-run state (next ∷ states) [] output passes = absurd passes
  passes-run state (next ∷ states) (t ∷ items) output (entry, here, there, may, found, matches, writes, both, rest) =
      let (edge, held, to) = (whole.automaton.edges state next).1 may in
      let some : Some (read_by edge) ≡ Some entry = sym (read edge next (whole.automaton.labelled state edge held) to) ∙ found in
      let same : read_by edge ≡ entry = cc in (
        edge,
        here,
        there,
        held,
        to,
        subst (λ (e : Entry). Matches problem.hierarchy.links e.leaf t) (sym same) matches,
        subst (λ (e : Entry). WritesAt problem.hierarchy.links e.leaf e.captured t here) (sym same) writes,
        both,
        passes-run next states items there rest,
      )

  pub run-passes : (state : ℕ) (states : List ℕ) (items output : List Item)
      → IsRun problem.hierarchy.links problem.transducer state states items output → Passes problem.hierarchy.links shape state states items output
  run-passes state [] [] output (final, is) = ((whole.automaton.finals state).0 final, is)
  run-passes state [] (t ∷ items) output run = absurd run
  run-passes state (next ∷ states) [] output run = absurd run
  run-passes state (next ∷ states) (t ∷ items) output (edge, here, there, held, to, matches, writes, both, run) = (
    read_by edge,
    here,
    there,
    (whole.automaton.edges state next).0 (edge, held, to),
    read edge next (whole.automaton.labelled state edge held) to,
    matches,
    writes,
    both,
    run-passes next states items there run,
  )

  -- the states of a path over a sequence are states of the transducer
  pub path-states : (place : ℕ) (states : List ℕ) (pattern : List Item) → Writes problem place states pattern → AllByRecursion (λ n. n ≤ length problem.transducer.labels) states
  path-states place states pattern passes =
      run-states problem.hierarchy.links problem.transducer whole.automaton.labelled 0 states (items_of problem place) pattern
      (passes-run 0 states (items_of problem place) pattern passes)

  -- a path over a sequence generates
  pub writes-generates : (place : ℕ) (states : List ℕ) (pattern : List Item) → Writes problem place states pattern
      → Generates problem.hierarchy.links (tree_of problem.transducer.expression) false (items_of problem place) pattern
  writes-generates place states pattern passes =
      (whole.paths problem.hierarchy.links (items_of problem place) pattern).0
      (run-path problem.hierarchy.links problem.transducer 0 states (items_of problem place) pattern
      (passes-run 0 states (items_of problem place) pattern passes))

  -- what is generated has a path
  pub generates-writes : (place : ℕ) (pattern : List Item)
      → Generates problem.hierarchy.links (tree_of problem.transducer.expression) false (items_of problem place) pattern
      → (states : List ℕ) × Writes problem place states pattern
  generates-writes place pattern generates =
      let (states, run) = path-run problem.hierarchy.links problem.transducer 0 (items_of problem place) pattern
      ((whole.paths problem.hierarchy.links (items_of problem place) pattern).1 generates) in
      (states, run-passes 0 states (items_of problem place) pattern run)

  -- what is asked of the parts of a problem is asked of its paths
  pub parts-writes : (place : ℕ) (states : List ℕ) (pattern items : List Item) (links : List (Link Item)) (transducer : Transducer) → links ≡ problem.hierarchy.links → transducer ≡ problem.transducer
      → items ≡ items_of problem place → (answer : Bool) → ((answer ≡ true) ↔ IsRun links transducer 0 states items pattern) → (answer ≡ true) ↔ Writes problem place states pattern
  parts-writes place states pattern items links transducer same_links same_transducer same_items answer decided =
      let own : (answer ≡ true) ↔ IsRun problem.hierarchy.links problem.transducer 0 states (items_of problem place) pattern =
      subst (λ l. (answer ≡ true) ↔ IsRun l problem.transducer 0 states (items_of problem place) pattern) same_links
      (subst (λ m. (answer ≡ true) ↔ IsRun links m 0 states (items_of problem place) pattern) same_transducer
      (subst (λ l. (answer ≡ true) ↔ IsRun links transducer 0 states l pattern) same_items decided)) in (
        (λ yes. run-passes 0 states (items_of problem place) pattern (own.0 yes)),
        (λ passes. own.1 (passes-run 0 states (items_of problem place) pattern passes)),
      )

  -- what is said of the parts of a problem is said of it
  pub match-writes : (place : ℕ) (states : List ℕ) (pattern items : List Item) (links : List (Link Item)) (transducer : Transducer) → links ≡ problem.hierarchy.links → transducer ≡ problem.transducer
      → items ≡ items_of problem place → (answer : Bool)
      → MatchBool answer (IsRun links transducer 0 states items pattern) ((others : List ℕ) → IsRun links transducer 0 others items pattern → ⊥)
      → MatchBool answer (Writes problem place states pattern) ((others : List ℕ) → Writes problem place others pattern → ⊥)
  match-writes place states pattern items links transducer same_links same_transducer same_items answer said = by answer said
    where
      by : (answer : Bool) → MatchBool answer (IsRun links transducer 0 states items pattern) ((others : List ℕ) → IsRun links transducer 0 others items pattern → ⊥)
          → MatchBool answer (Writes problem place states pattern) ((others : List ℕ) → Writes problem place others pattern → ⊥)
      by true run = run-passes 0 states (items_of problem place) pattern
          (subst (λ l. IsRun problem.hierarchy.links problem.transducer 0 states l pattern) same_items
          (subst (λ m. IsRun problem.hierarchy.links m 0 states items pattern) same_transducer (subst (λ l. IsRun l transducer 0 states items pattern) same_links run)))
      by false none = λ others passes.
          let run = passes-run 0 others (items_of problem place) pattern passes in
          none others
          (subst (λ l. IsRun links transducer 0 others l pattern) (sym same_items)
          (subst (λ m. IsRun links m 0 others (items_of problem place) pattern) (sym same_transducer)
          (subst (λ l. IsRun l problem.transducer 0 others (items_of problem place) pattern) (sym same_links) run)))
