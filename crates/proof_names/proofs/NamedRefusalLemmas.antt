-- The first refusal of a proof file by the numbers of names is the first one by names.
use Rattle.std.proofs.Common.{◌≡◌, ℕ, ◌+◌, ◌≤◌, ◌<◌, ◌↔◌, inl, inr, false, List, [], ◌∷◌, ◌++◌, map, length, refl, sym, ap, ◌∙◌, subst, Contains}
use Rattle.std.specs.List.{AllByRecursion}
use Rattle.std.proofs.lemmas.List.{map-append}
use Rattle.mine_model.specs.declared.row.Row.{Row}
use Rattle.mine_model.specs.declared.fault.Fault.{Fault}
use Rattle.mine_model.specs.declared.fault.Fault.TheVariants.{BadProof as DataBadProof}
use Rattle.mine_model.specs.declared.fault.Which.TheVariants.{Proof}
use Rattle.mine_model.specs.Answer.{Data, NamedRow, ComesBefore}
use Rattle.mine_model.specs.Hierarchy.{Link}
use Rattle.mine_model.specs.Limits.{most_file_bytes, most_support}
use Rattle.mine_model.specs.Names.{name_of, HasName, AreNamed, named_row}
use Rattle.mine_model.specs.Refusal.{IsTooLarge, IsTextRefusal}
use Rattle.mine_model.specs.Text.{lines_of}
use Rattle.mine_model.proofs.ListLemmas.{back_of_both}
use Rattle.mine_model.proofs.NamedAnswer.{named_data}
use Rattle.mine_model.proofs.NumberingLemmas.{Renames}
use Rattle.mining_job.specs.Problems.{Problem, data_of}
use Rattle.pattern_proof.specs.declared.fault.ProofFault.{ProofFault}
use Rattle.pattern_proof.specs.declared.fault.ProofFault.TheVariants.{TooLarge, BadByte, NameTooLong, BadProof}
use Rattle.pattern_proof.specs.ProofLines.{Entry, is_path_line, Say}
use Rattle.pattern_proof.specs.Judging.{IsBehind, IsGoodLine, EndUnproved, IsTextRefusal as IsOwnTextRefusal, IsLineRefusal, IsProofRefusal}
use Rattle.proof_names.specs.NamedProofs.{ProofRow, SayRows, IsShown}
use Rattle.proof_names.specs.NamedRefusals.{IsNextRow, ShowsNext, IsGoodBehind, EndUnshown, IsProofLineRefusal, IsProofFileRefusal}
use Rattle.proof_names.specs.Numberings.{fault_of}
use Rattle.proof_names.proofs.AgreeLemmas.{Agree, agree-first, agree-among}
use Rattle.proof_names.proofs.NamedSayLemmas.{named_entry, IsKnown, map-snoc, row-forth, row-back, say-forth, say-back, say-known}
use Rattle.proof_names.proofs.NamedGoodLemmas.{claim-forth, claim-back, shown-forth, shown-back}
use Rattle.proof_names.proofs.ShowLemmas.{shows-forth, shows-same}

text-agree : (number : ℕ) (text : List ℕ) → Agree fault_of (IsOwnTextRefusal number text) (IsTextRefusal Proof number text)
text-agree number text = record { forth = forth; back = back }
  where
    forth : (fault : ProofFault) → IsOwnTextRefusal number text fault → IsTextRefusal Proof number text (fault_of fault)
    forth fault (column, inl (first, is)) = (column, inl (first, ap fault_of is))
    forth fault (column, inr (first, is)) = (column, inr (first, ap fault_of is))

    back : (fault : Fault) → IsTextRefusal Proof number text fault → (own : ProofFault) × (fault ≡ fault_of own) × IsOwnTextRefusal number text own
    back fault (column, inl (first, is)) = (BadByte number column, is, (column, inl (first, refl)))
    back fault (column, inr (first, is)) = (NameTooLong number column, is, (column, inr (first, refl)))

large-agree : (bytes : List ℕ) → Agree fault_of (λ fault. (most_file_bytes < length bytes) × (fault ≡ TooLarge)) (IsTooLarge Proof bytes)
large-agree bytes = record { forth = λ fault large. (large.0, ap fault_of large.1); back = λ fault large. (TooLarge, large.1, (large.0, refl)) }

-- Which row may come next

behind-forth : (names : List (List ℕ)) (before : List Entry) (row : Row) → IsBehind names before row → IsNextRow (map (named_entry names) before) (named_row names row)
behind-forth names before row behind earlier last cut =
    let (front, end, own_cut, fronts, ends) = map-snoc (named_entry names) before earlier last cut in
    subst (λ (r : ProofRow). ComesBefore r.row (named_row names row)) ends (behind front end own_cut)

behind-back : (names : List (List ℕ)) (before : List Entry) (row : Row) → IsNextRow (map (named_entry names) before) (named_row names row) → IsBehind names before row
behind-back names before row next earlier last cut =
    next (map (named_entry names) earlier) (named_entry names last) (ap (map (named_entry names)) cut ∙ map-append (named_entry names) earlier (last ∷ []))

module _ (names : List (List ℕ)) (others : List (Link (List ℕ))) (problem : Problem)
    (renames : Renames problem.hierarchy.links others (HasName names) (name_of names)) (named : AreNamed names (data_of problem))
    (known : List (List ℕ)) (held : (name : List ℕ) → (Contains known name ↔ Contains names name)) where
  abbrev D : Data (List ℕ)
  D = named_data names others (data_of problem)

  end-forth : (lines : List (List ℕ)) (number : ℕ) → EndUnproved problem names lines number → EndUnshown D known lines number
  end-forth lines number (earlier, last, say, short, count) = (
    map (named_entry names) earlier,
    named_entry names last,
    subst (SayRows known lines) (map-append (named_entry names) earlier (last ∷ [])) (say-forth names known held [] lines (earlier ++ last ∷ []) say),
    (λ shown. short (shown-back names others problem renames named last shown)),
    count,
  )

  end-back : (lines : List (List ℕ)) (number : ℕ) → EndUnshown D known lines number → EndUnproved problem names lines number
  end-back lines number (earlier, last, say, short, count) =
      let (own, same, said) = say-back names known held [] lines (earlier ++ last ∷ []) say in
      let (front, end, cut, fronts, ends) = map-snoc (named_entry names) own earlier last same in (
        front,
        end,
        subst (Say names lines) cut said,
        (λ enough. short (subst (IsShown D) ends (shown-forth names others problem renames named end enough))),
        subst (λ (r : ProofRow). number + length r.paths ≡ length lines) (sym ends) count,
      )

  line-forth : (entries : List Entry) (text : List ℕ) → IsGoodLine problem names entries text → IsGoodBehind D known (map (named_entry names) entries) text
  line-forth entries text (inl (row, says, range, behind)) = inl (
    named_row names row,
    row-forth names known held text row says,
    claim-forth names others problem renames named row range,
    behind-forth names entries row behind,
  )
  line-forth entries text (inr (earlier, last, path, cut, says, next)) = inr (
    map (named_entry names) earlier,
    named_entry names last,
    path,
    ap (map (named_entry names)) cut ∙ map-append (named_entry names) earlier (last ∷ []),
    says,
    (shows-forth names others problem renames named last.row path next.good, next.later),
  )

  line-back : (entries : List Entry) (text : List ℕ) → AllByRecursion (IsKnown names) entries
      → IsGoodBehind D known (map (named_entry names) entries) text → IsGoodLine problem names entries text
  line-back entries text have (inl (row, says, claim, next)) =
      let (own, same, own_says) = row-back names known held text row says in
      inl (
        own,
        own_says,
        claim-back names others problem renames named own (subst (λ (r : NamedRow). (problem.threshold ≤ r.support) × (r.support ≤ most_support)) (sym same) claim),
        behind-back names entries own (subst (IsNextRow (map (named_entry names) entries)) (sym same) next),
      )
  line-back entries text have (inr (earlier, last, path, cut, says, next)) =
      let (front, end, own_cut, fronts, ends) = map-snoc (named_entry names) entries earlier last cut in
      let end_known : AllByRecursion (IsKnown names) (end ∷ []) = back_of_both (IsKnown names) front (end ∷ []) (subst (AllByRecursion (IsKnown names)) own_cut have) in
      let (shows, later) = subst (λ r. ShowsNext D r path) (sym ends) next in
      inr (
        front,
        end,
        path,
        own_cut,
        says,
        record { good = shows-same names others problem renames named end.row path end_known.0 shows; later = later },
      )

  end-agree : (lines : List (List ℕ)) → Agree fault_of (λ fault. (number : ℕ) × EndUnproved problem names lines number × (fault ≡ BadProof number))
      (λ fault. (number : ℕ) × EndUnshown D known lines number × (fault ≡ DataBadProof number))
  end-agree lines = record {
    forth = λ fault refused. let (number, end, is) = refused in (number, end-forth lines number end, ap fault_of is);
    back = λ fault refused. let (number, end, is) = refused in (BadProof number, is, (number, end-back lines number end, refl));
  }

  unproved-agree : (before : List (List ℕ)) (text : List ℕ)
      → Agree fault_of (λ fault. (number : ℕ) × (is_path_line text ≡ false) × EndUnproved problem names before number × (fault ≡ BadProof number))
      (λ fault. (number : ℕ) × (is_path_line text ≡ false) × EndUnshown D known before number × (fault ≡ DataBadProof number))
  unproved-agree before text = record {
    forth = λ fault refused. let (number, row, end, is) = refused in (number, row, end-forth before number end, ap fault_of is);
    back = λ fault refused. let (number, row, end, is) = refused in (BadProof number, is, (number, row, end-back before number end, refl));
  }

  bad-agree : (before : List (List ℕ)) (text : List ℕ)
      → Agree fault_of (λ fault. (entries : List Entry) × Say names before entries × (IsGoodLine problem names entries text → ⊥) × (fault ≡ BadProof (length before + 1)))
      (λ fault. (rows : List ProofRow) × SayRows known before rows × (IsGoodBehind D known rows text → ⊥) × (fault ≡ DataBadProof (length before + 1)))
  bad-agree before text = record {
    forth = λ fault refused. let (entries, say, bad, is) = refused in (
      map (named_entry names) entries,
      say-forth names known held [] before entries say,
      (λ good. bad (line-back entries text (say-known names known held [] before entries say tt) good)),
      ap fault_of is,
    );
    back = λ fault refused. let (rows, say, bad, is) = refused in
        let (own, same, said) = say-back names known held [] before rows say in (
          BadProof (length before + 1),
          is,
          (own, said, (λ good. bad (subst (λ r. IsGoodBehind D known r text) same (line-forth own text good))), refl),
        );
  }

  line-agree : (before : List (List ℕ)) (text : List ℕ) → Agree fault_of (IsLineRefusal problem names before text) (IsProofLineRefusal D known before text)
  line-agree before text =
      agree-first fault_of _ _ _ _ (text-agree (length before + 1) text) (agree-first fault_of _ _ _ _ (unproved-agree before text) (bad-agree before text))

  pub file-agree : (bytes : List ℕ) → Agree fault_of (IsProofRefusal problem names bytes) (IsProofFileRefusal D known bytes)
  file-agree bytes =
      agree-first fault_of _ _ _ _ (large-agree bytes)
      (agree-first fault_of _ _ _ _
      (agree-among fault_of (IsLineRefusal problem names) (IsProofLineRefusal D known) line-agree [] (lines_of bytes)) (end-agree (lines_of bytes)))
