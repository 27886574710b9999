-- A part of the job with these numbers.
use Rattle.std.proofs.Common.{◌≡◌, ℕ, ◌<◌, Bool, List, [], ◌∷◌, length, sym, ap, ◌∙◌, subst, refl, slice_index}
use Rattle.mine_model.specs.Database.{sequence_at}
use Rattle.mining_job.specs.Problems.{Problem, IsWhole}
use Rattle.sequence_grids.specs.Grids.{GridList}
use Rattle.sieve_passes.specs.Branches.{part_of}
use Rattle.sieve_passes.specs.Sums.{AddsAll}

module _ (part : GridList) (problem : Problem) (numbers : List ℕ) (is : part ≡ part_of problem numbers) where
  pub part-again : part ≡ part_of part.problem part.sequences
  part-again = subst (λ (p : GridList). p ≡ part_of p.problem p.sequences) (sym is) refl

  pub part-whole : IsWhole problem → IsWhole part.problem
  part-whole whole = subst (λ (p : GridList). IsWhole p.problem) (sym is) whole

  pub part-index : (index : ℕ) → index < length numbers → index < length part.sequences
  part-index index below = subst (λ (p : GridList). index < length p.sequences) (sym is) below

  pub part-weight : (index number weight : ℕ) → slice_index numbers index ≡ number → weight ≡ (sequence_at problem.sequences number).weight
      → weight ≡ (sequence_at part.problem.sequences (slice_index part.sequences index)).weight
  part-weight index number weight at same =
      subst (λ (p : GridList). weight ≡ (sequence_at p.problem.sequences (slice_index p.sequences index)).weight) (sym is)
      (same ∙ ap (λ (k : ℕ). (sequence_at problem.sequences k).weight) (sym at))

  pub part-adds : (index number : ℕ) (levels : List (List Bool)) (before after : List ℕ) → slice_index numbers index ≡ number
      → AddsAll part.problem levels (sequence_at part.problem.sequences (slice_index part.sequences index) ∷ []) before after
      → AddsAll problem levels (sequence_at problem.sequences number ∷ []) before after
  part-adds index number levels before after at adds =
      let one : AddsAll problem levels (sequence_at problem.sequences (slice_index numbers index) ∷ []) before after =
      subst (λ (p : GridList). AddsAll p.problem levels (sequence_at p.problem.sequences (slice_index p.sequences index) ∷ []) before after) is adds in
      subst (λ (k : ℕ). AddsAll problem levels (sequence_at problem.sequences k ∷ []) before after) at one
