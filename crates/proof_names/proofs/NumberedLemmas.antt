-- What holds of a numbering, said of the data over names.
use Rattle.std.proofs.Common.{◌≡◌, ℕ, ◌≤◌, ◌↔◌, inl, inr, List, length, map, subst, arith}
use Rattle.std.specs.List.{AllByRecursion}
use Rattle.mine_model.specs.declared.row.Row.{Row}
use Rattle.mine_model.specs.declared.fault.Fault.{Fault}
use Rattle.mine_model.specs.Answer.{Data}
use Rattle.mine_model.specs.Limits.{most_file_bytes}
use Rattle.mine_model.specs.Names.{HasName, named_row}
use Rattle.mine_model.specs.Text.{lines_of, IsSoundLine}
use Rattle.mining_job.specs.Problems.{Problem}
use Rattle.pattern_proof.specs.declared.fault.ProofFault.{ProofFault}
use Rattle.pattern_proof.specs.Judging.{IsProofRefusal}
use Rattle.pattern_proof.specs.Proofs.{IsGood, IsProofOf}
use Rattle.pattern_proof.proofs.JudgingLemmas.{good-not-refused}
use Rattle.proof_names.specs.NamedProofs.{IsGoodProof, IsProofText}
use Rattle.proof_names.specs.NamedRefusals.{IsProofFileRefusal}
use Rattle.proof_names.specs.Numberings.{IsNumbering, fault_of}
use Rattle.proof_names.proofs.AgreeLemmas.{Agree}
use Rattle.proof_names.proofs.NamingLemmas.{renames-of, data-named}
use Rattle.proof_names.proofs.NamedGoodLemmas.{good-forth, good-from}
use Rattle.proof_names.proofs.NamedRefusalLemmas.{file-agree}
use Rattle.proof_names.proofs.FullLemmas.{proof-named}

module _ (d : Data (List ℕ)) (known names : List (List ℕ)) (problem : Problem) (numbering : IsNumbering d known names problem) where
  pub good-named : (lines : List (List ℕ)) (count : ℕ) → (IsGood problem names lines count ↔ IsGoodProof d known lines count)
  good-named lines count =
      subst (λ (own : Data (List ℕ)). IsGood problem names lines count ↔ IsGoodProof own known lines count) (data-named d known names problem numbering) (
        good-forth names d.links problem (renames-of d known names problem numbering) numbering.named known numbering.held lines count,
        (λ good. (good-from names d.links problem (renames-of d known names problem numbering) numbering.named known numbering.held lines count good).0),
      )

  refusals : (bytes : List ℕ) → Agree fault_of (IsProofRefusal problem names bytes) (IsProofFileRefusal d known bytes)
  refusals bytes =
      subst (λ (own : Data (List ℕ)). Agree fault_of (IsProofRefusal problem names bytes) (IsProofFileRefusal own known bytes)) (data-named d known names problem numbering)
      (file-agree names d.links problem (renames-of d known names problem numbering) numbering.named known numbering.held bytes)

  pub refused-named : (bytes : List ℕ) → ((fault : ProofFault) → IsProofRefusal problem names bytes fault → IsProofFileRefusal d known bytes (fault_of fault))
      × ((fault : Fault) → IsProofFileRefusal d known bytes fault → (own : ProofFault) × (fault ≡ fault_of own) × IsProofRefusal problem names bytes own)
  refused-named bytes = let agree = refusals bytes in ((λ fault is. agree.forth fault is), (λ fault is. agree.back fault is))

  pub text-is-named : (rows : List Row) (bytes : List ℕ) → AllByRecursion (λ (row : Row). AllByRecursion (HasName names) row.pattern) rows
      → IsProofOf problem names rows bytes → IsProofText d (map (named_row names) rows) bytes
  text-is-named rows bytes have proof =
      subst (λ (own : Data (List ℕ)). IsProofText own (map (named_row names) rows) bytes) (data-named d known names problem numbering)
      (proof-named names d.links problem (renames-of d known names problem numbering) numbering.named rows bytes have proof)

  -- a good proof whose lines are sound is not refused
  pub good-unrefused : (bytes : List ℕ) (count : ℕ) → length bytes ≤ most_file_bytes → AllByRecursion IsSoundLine (lines_of bytes)
      → IsGoodProof d known (lines_of bytes) count → (fault : Fault) → IsProofFileRefusal d known bytes fault → ⊥
  good-unrefused bytes count few sound good fault refused =
      let (own, same, is) = (refused-named bytes).1 fault refused in
      elim is [
        | inl large ↦ let over = large.0 in omega (arith, over, few)
        | inr other ↦ good-not-refused problem names numbering.files (lines_of bytes) count sound ((good-named (lines_of bytes) count).1 good) own other.1
      ]
