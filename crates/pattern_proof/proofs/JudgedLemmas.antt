-- How a line is refused, from what was read of it.
use Rattle.std.proofs.Common.{◌≡◌, ℕ, ◌+◌, ◌<◌, ◌≤◌, ◌^◌, inl, inr, true, false, Option, Some, None, List, length, refl, sym, ◌∙◌, subst, arith, Result, Ok, Err, IfOk, MatchOption, IfSome}
use Rattle.mine_model.specs.declared.row.Row.{Row}
use Rattle.mine_model.specs.Limits.{most_sequences}
use Rattle.mining_job.specs.Problems.{Problem, IsWhole}
use Rattle.std.specs.Option.{option_map}
use Rattle.pattern_proof.specs.declared.open_row.Above.{Above}
use Rattle.pattern_proof.specs.Taking.{open_row_of}
use Rattle.pattern_proof.specs.declared.fault.ProofFault.TheVariants.{BadProof}
use Rattle.pattern_proof.specs.ProofLines.{Cited, is_path_line, SaysRow, SaysPath, AreFileNames}
use Rattle.pattern_proof.specs.Proofs.{IsGoodPath}
use Rattle.pattern_proof.specs.Reading.{IsSmall}
use Rattle.mine_model.proofs.ListLemmas.{AllByRecursion-weaker}
use Rattle.pattern_proof.proofs.RunLemmas.{path-states}
use Rattle.pattern_proof.specs.Standing.{OpenRow, Standing, IsClosed, MayFollow, MayBeCited, RefusesAt}
use Rattle.pattern_proof.proofs.TextLemmas.{row-unique, path-unique}

-- a good path has small numbers
pub good-small : (problem : Problem) → IsWhole problem → length problem.sequences ≤ most_sequences → length problem.transducer.labels + 1 ≤ 1025 → (row : Row) (path : Cited) → IsGoodPath problem row path → IsSmall path
good-small problem whole few short row path good = (
  (let there = good.there in omega (arith, there, few)),
  AllByRecursion-weaker (λ n. n ≤ length problem.transducer.labels) (λ n. n < 2 ^ 32) (λ n less. omega (arith, less, short)) path.states
      (path-states problem whole path.place path.states row.pattern good.run),
)

module _ (problem : Problem) (names : List (List ℕ)) (before : Standing) (number : ℕ) (text : List ℕ) where
  pub refuse-row : is_path_line text ≡ false → IfSome before.current IsClosed → ((row : Row) → SaysRow names text row → MayFollow problem names before row → ⊥)
      → RefusesAt problem names before number text (BadProof number)
  refuse-row line closed none = inr (inl (line, closed, none, refl))

  pub refuse-path : is_path_line text ≡ true → ((above : OpenRow) (path : Cited) → before.current ≡ Some above → SaysPath text path → MayBeCited problem above path → ⊥)
      → RefusesAt problem names before number text (BadProof number)
  refuse-path line none = inr (inr (line, none, refl))

  -- the row that the line says may not follow
  pub row-alone : AreFileNames names → (said : Row) → SaysRow names text said → (MayFollow problem names before said → ⊥)
      → (row : Row) → SaysRow names text row → MayFollow problem names before row → ⊥
  row-alone sound said says not row other follows = not (subst (MayFollow problem names before) (row-unique names sound text row said other says) follows)

  -- the path that the line says may not be cited
  pub path-alone : (upper : OpenRow) → before.current ≡ Some upper → (said : Cited) → SaysPath text said → (MayBeCited problem upper said → ⊥)
      → (above : OpenRow) (path : Cited) → before.current ≡ Some above → SaysPath text path → MayBeCited problem above path → ⊥
  path-alone upper is said says not above path same other may =
      let one : Some above ≡ Some upper = sym same ∙ is in
      let row : above ≡ upper = cc in
      not (subst (λ o. MayBeCited problem o said) row (subst (MayBeCited problem above) (path-unique text path said other says) may))

-- what holds of the row that is open
pub behind-open : (P : Row → Type 0) (current : Option Above) → IfSome (option_map open_row_of current) (λ above. P above.row) → IfSome current (λ above. P above.row)
behind-open P None holds = tt
behind-open P (Some above) holds = holds

-- a path that no line says with small numbers is good for no row
pub path-said : {E : Type 0} (problem : Problem) → IsWhole problem → length problem.sequences ≤ most_sequences → length problem.transducer.labels + 1 ≤ 1025 → (text : List ℕ) (P : ℕ → Type 0)
    (result : Result (Option ℕ) E) → IfOk result (λ said. MatchOption said ((path : Cited) → SaysPath text path → IsSmall path → ⊥) P)
    → IfOk result (λ said. MatchOption said ((row : Row) (path : Cited) → SaysPath text path → IsGoodPath problem row path → ⊥) P)
path-said problem whole few short text P (Ok None) none = λ row path says good. none path says (good-small problem whole few short row path good)
path-said problem whole few short text P (Ok (Some place)) holds = holds
path-said problem whole few short text P (Err e) none = tt
