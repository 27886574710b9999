-- Paths that show a row, by the numbers of names and by names.
use Rattle.std.proofs.Common.{◌≡◌, ℕ, zero, suc, ◌+◌, false, Some, List, [], ◌∷◌, map, refl, sym, subst}
use Rattle.std.specs.List.{AllByRecursion, slice_get, slice_index_or}
use Rattle.std.proofs.lemmas.Option.{slice_get_within}
use Rattle.mine_model.specs.declared.item.Item.{Item}
use Rattle.mine_model.specs.declared.row.Row.{Row}
use Rattle.mine_model.specs.Answer.{Data}
use Rattle.mine_model.specs.Hierarchy.{Link}
use Rattle.mine_model.specs.Names.{name_of, HasName, AreNamed, sequence_by}
use Rattle.mine_model.specs.Numbered.{tree_of}
use Rattle.mine_model.specs.Support.{Sequence}
use Rattle.mine_model.proofs.ElementLemmas.{get-some, get-held, slice_get-mapped_by}
use Rattle.mine_model.proofs.ListLemmas.{AllByRecursion-contained, AllByRecursion-weaker}
use Rattle.mine_model.proofs.NamedAnswer.{named_data}
use Rattle.mine_model.proofs.NumberingLemmas.{Renames, one_to_one-lists}
use Rattle.mining_job.specs.Problems.{Problem, data_of}
use Rattle.fst_compile.specs.Shape.{unfold_tree}
use Rattle.pattern_proof.specs.ProofLines.{Cited}
use Rattle.pattern_proof.specs.Proofs.{IsGoodPath, weight_of}
use Rattle.pattern_proof.specs.Runs.{Passes, Writes}
use Rattle.proof_names.specs.NamedProofs.{Shows, shown_weight}
use Rattle.proof_names.proofs.ShapeLemmas.{unfold-by, unfold-named}
use Rattle.proof_names.proofs.PassLemmas.{mapped-from, passes-forth, passes-back}

-- the sequence that stands at a place
pub sequence-found : {A : Type 0} (sequences : List (Sequence A)) (place : ℕ) (s : Sequence A) → slice_get sequences place ≡ Some s
    → slice_index_or sequences place (record { items = []; weight = 0 }) ≡ s
sequence-found [] place s found = absurd (cc)
sequence-found (t ∷ sequences) zero s found = (cc)
sequence-found (t ∷ sequences) (suc place) s found = sequence-found sequences place s found

pub weight-by : {A B : Type 0} (f : A → B) (sequences : List (Sequence A)) (place : ℕ)
    → (slice_index_or (map (sequence_by f) sequences) place (record { items = []; weight = 0 })).weight
    ≡ (slice_index_or sequences place (record { items = []; weight = 0 })).weight
weight-by f [] place = refl
weight-by f (s ∷ sequences) zero = refl
weight-by f (s ∷ sequences) (suc place) = weight-by f sequences place

module _ (names : List (List ℕ)) (others : List (Link (List ℕ))) (problem : Problem)
    (renames : Renames problem.hierarchy.links others (HasName names) (name_of names)) (named : AreNamed names (data_of problem)) where
  abbrev D : Data (List ℕ)
  D = named_data names others (data_of problem)

  pub weights-same : (paths : List Cited) → shown_weight D paths ≡ weight_of problem paths
  weights-same [] = refl
  weights-same (path ∷ paths) = λ i. weight-by (name_of names) problem.sequences path.place i + weights-same paths i

  pub items-named : (place : ℕ) (s : Sequence Item) → slice_get problem.sequences place ≡ Some s → AllByRecursion (HasName names) s.items
  items-named place s found =
      AllByRecursion-contained (λ (s : Sequence Item). AllByRecursion (HasName names) s.items) problem.sequences s named.sequences (get-held problem.sequences place s found)

  pub shows-forth : (row : Row) (path : Cited) → IsGoodPath problem row path → Shows D (map (name_of names) row.pattern) path
  shows-forth row path good =
      let (s, found) = get-some problem.sequences path.place good.there in
      let passes = subst (λ (t : Sequence Item). Passes problem.hierarchy.links (unfold_tree (tree_of problem.transducer.expression) false) 0 path.states t.items row.pattern)
      (sequence-found problem.sequences path.place s found) good.run in (
        sequence_by (name_of names) s,
        slice_get-mapped_by (sequence_by (name_of names)) problem.sequences path.place s found,
        subst (λ shape. Passes others shape 0 path.states (map (name_of names) s.items) (map (name_of names) row.pattern))
            (sym (unfold-by (name_of names) (tree_of problem.transducer.expression) false))
            (passes-forth problem.hierarchy.links others (HasName names) (name_of names) renames (unfold_tree (tree_of problem.transducer.expression) false)
            (unfold-named (HasName names) (tree_of problem.transducer.expression) false named.expression)
            0 path.states s.items row.pattern (items-named path.place s found) passes),
      )

  -- what a path writes are items with names, and a good path is one for any row with these
  pub shows-back : (pattern : List (List ℕ)) (path : Cited) → Shows D pattern path
      → (own : List Item) × (pattern ≡ map (name_of names) own) × AllByRecursion (HasName names) own
      × ((row : Row) → row.pattern ≡ own → IsGoodPath problem row path)
  shows-back pattern path (sequence, at, passes) =
      let (s, found, is) = mapped-from (sequence_by (name_of names)) problem.sequences path.place sequence at in
      let over = subst (λ (t : Sequence (List ℕ)). Passes others (unfold_tree D.expression false) 0 path.states t.items pattern) (sym is) passes in
      let (own, same, run, inside) = passes-back problem.hierarchy.links others (HasName names) (name_of names) renames (unfold_tree (tree_of problem.transducer.expression) false)
      (unfold-named (HasName names) (tree_of problem.transducer.expression) false named.expression) 0 path.states s.items pattern (items-named path.place s found)
      (subst (λ shape. Passes others shape 0 path.states (map (name_of names) s.items) pattern)
      (unfold-by (name_of names) (tree_of problem.transducer.expression) false) over) in (
        own,
        same,
        inside,
        (λ row is_own. record {
          there = slice_get_within problem.sequences path.place s found;
          run = subst (λ l. Writes problem path.place path.states l) (sym is_own)
              (subst (λ (t : Sequence Item). Passes problem.hierarchy.links (unfold_tree (tree_of problem.transducer.expression) false) 0 path.states t.items own)
              (sym (sequence-found problem.sequences path.place s found)) run);
        }),
      )

  pub shows-same : (row : Row) (path : Cited) → AllByRecursion (HasName names) row.pattern → Shows D (map (name_of names) row.pattern) path → IsGoodPath problem row path
  shows-same row path inside shows =
      let (own, same, also, good) = shows-back (map (name_of names) row.pattern) path shows in
      good row (one_to_one-lists problem.hierarchy.links others (HasName names) (name_of names) renames row.pattern own inside also same)

  pub all-forth : (row : Row) (paths : List Cited) → AllByRecursion (IsGoodPath problem row) paths → AllByRecursion (Shows D (map (name_of names) row.pattern)) paths
  all-forth row = AllByRecursion-weaker (IsGoodPath problem row) (Shows D (map (name_of names) row.pattern)) (shows-forth row)

  pub all-same : (row : Row) (paths : List Cited) → AllByRecursion (HasName names) row.pattern
      → AllByRecursion (Shows D (map (name_of names) row.pattern)) paths → AllByRecursion (IsGoodPath problem row) paths
  all-same row paths inside =
      AllByRecursion-weaker (Shows D (map (name_of names) row.pattern)) (IsGoodPath problem row) (λ path shows. shows-same row path inside shows) paths
