-- What is kept between sequences, while one is gone over.
use Rattle.std.proofs.Common.{◌≡◌, ◌↔◌, ℕ, ◌≤◌, Bool, false, None, List, [], ◌∷◌, ◌++◌, length, ap, ◌∙◌, subst}
use Rattle.std.specs.List.{Contains}
use Rattle.mine_model.proofs.ListLemmas.{Contains-none}
use Rattle.mining_job.specs.Problems.{Problem, IsWhole, items_of}
use Rattle.sequence_grids.specs.Grids.{GridList, Completes}
use Rattle.pivot_partition.specs.Tops.{bound_by}
use Rattle.pivot_partition.specs.Marks.{AreMarked}
use Rattle.pivot_partition.specs.Pivots.{IsPivotOf}
use Rattle.pivot_partition.specs.Kept.{AreKept}
use Rattle.pivot_partition.proofs.TopLemmas.{pivot-completes, pivot-writes}

module _ (problem : Problem) where
  -- the grid of one sequence under the bound of all ranks
  abbrev pub grid_of : ℕ → GridList
  grid_of sequence = record { problem = problem; bound = record { top = length problem.ranking.order; need = None }; sequences = sequence ∷ [] }

  pub kept-pushed : (grids new : GridList) (front entered : List ℕ) (marks : List Bool) (sequence : ℕ) → AreKept problem grids front entered marks
      → new ≡ record grids { sequences = grids.sequences ++ sequence ∷ [] } → new ≡ grid_of sequence
  kept-pushed grids new front entered marks sequence kept is = is ∙ ap (λ (g : GridList). record g { sequences = g.sequences ++ sequence ∷ [] }) kept.grids_are

  pub kept-cleared : (pushed new : GridList) (front entered front' entered' : List ℕ) (marks marks' : List Bool) (sequence : ℕ) → pushed ≡ grid_of sequence
      → new ≡ record pushed { sequences = [] } → length front' ≡ length front → length entered' ≡ length entered → length marks' ≡ length marks → AreMarked marks' []
      → (grids : GridList) → AreKept problem grids front entered marks → AreKept problem new front' entered' marks'
  kept-cleared pushed new front entered front' entered' marks marks' sequence at is long wide far none grids kept = record {
    grids_are = is ∙ ap (λ (g : GridList). record g { sequences = [] }) at;
    front_long = long ∙ kept.front_long;
    entered_long = wide ∙ kept.entered_long;
    marks_long = far ∙ kept.marks_long;
    few = kept.few;
    unmarked = none;
  }

  module _ (whole : IsWhole problem) (sequence : ℕ) where
    -- what the grid of a sequence says is said of its pivots
    pub found-pivots : (found : List ℕ) → ((rank : ℕ) → Contains found rank ↔ ((1 ≤ rank) × (rank ≤ length problem.ranking.order)
        × Completes problem (bound_by rank) (items_of problem sequence) 0 false))
        → (rank : ℕ) → Contains found rank ↔ IsPivotOf problem (items_of problem sequence) rank
    found-pivots found exact rank = (
      (λ held. let (least, most, completes) = (exact rank).0 held in
          record { least = least; most = most; behind = (pivot-completes problem whole (items_of problem sequence) rank least).1 completes }),
      (λ is. (exact rank).1 (is.least, is.most, (pivot-completes problem whole (items_of problem sequence) rank is.least).0 is.behind)),
    )

    pub no-pivots : (found : List ℕ) → found ≡ [] → (Completes problem (record { top = length problem.ranking.order; need = None }) (items_of problem sequence) 0 false → ⊥)
        → (rank : ℕ) → Contains found rank ↔ IsPivotOf problem (items_of problem sequence) rank
    no-pivots found none silent rank = (
      (λ held. absurd (Contains-none rank (subst (λ l. Contains l rank) none held))),
      (λ is. absurd (silent (pivot-writes problem whole (items_of problem sequence) 0 rank (length problem.ranking.order) is.most
          ((pivot-completes problem whole (items_of problem sequence) rank is.least).0 is.behind)))),
    )
