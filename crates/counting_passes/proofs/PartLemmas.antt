-- A part of the job with these numbers.
use Rattle.std.proofs.Common.{◌≡◌, ℕ, List, [], ◌∷◌, sym, ap, ◌∙◌, subst, Bool, slice_index}
use Rattle.mine_model.specs.declared.item.Item.{Item}
use Rattle.mine_model.specs.Database.{sequence_at}
use Rattle.mine_model.specs.Support.{Sequence}
use Rattle.mining_job.specs.Problems.{Problem}
use Rattle.sequence_grids.specs.Grids.{GridList}
use Rattle.prefix_counts.specs.Prefixes.{Prefixes}
use Rattle.sieve_passes.specs.Branches.{part_of}
use Rattle.counting_passes.specs.Counts.{CountsAll}

module _ (part : GridList) (problem : Problem) (numbers : List ℕ) (is : part ≡ part_of problem numbers) where
  -- what is read of a sequence of the job is read of that of the part
  pub part-number : (read : Sequence Item → ℕ) (index number n : ℕ) → slice_index numbers index ≡ number → n ≡ read (sequence_at problem.sequences number)
      → n ≡ read (sequence_at part.problem.sequences (slice_index part.sequences index))
  part-number read index number n at same =
      subst (λ (p : GridList). n ≡ read (sequence_at p.problem.sequences (slice_index p.sequences index))) (sym is)
      (same ∙ ap (λ (k : ℕ). read (sequence_at problem.sequences k)) (sym at))

  pub part-counts : (index number : ℕ) (levels : List (List Bool)) (before after : Prefixes) → slice_index numbers index ≡ number
      → CountsAll part.problem levels (sequence_at part.problem.sequences (slice_index part.sequences index) ∷ []) before after
      → CountsAll problem levels (sequence_at problem.sequences number ∷ []) before after
  part-counts index number levels before after at counts =
      let one : CountsAll problem levels (sequence_at problem.sequences (slice_index numbers index) ∷ []) before after =
      subst (λ (p : GridList). CountsAll p.problem levels (sequence_at p.problem.sequences (slice_index p.sequences index) ∷ []) before after) is counts in
      subst (λ (k : ℕ). CountsAll problem levels (sequence_at problem.sequences k ∷ []) before after) at one
