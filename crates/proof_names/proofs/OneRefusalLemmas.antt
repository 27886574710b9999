-- At most one refusal of a proof file comes first, where the known names are of name bytes alone.
use Rattle.std.proofs.Common.{◌≡◌, ℕ, ◌+◌, inl, inr, true, false, true≢false, List, [], ◌∷◌, ◌++◌, length, refl, sym, ap, ◌∙◌, subst, arith, Contains}
use Rattle.std.specs.List.{AllByRecursion, join_with_byte}
use Rattle.std.proofs.lemmas.Bool.{ne_eqb}
use Rattle.mine_model.specs.declared.fault.Fault.TheVariants.{BadByte, NameTooLong, BadProof}
use Rattle.mine_model.specs.declared.fault.Which.TheVariants.{Proof}
use Rattle.mine_model.specs.Answer.{Data, NamedRow}
use Rattle.mine_model.specs.Grammar.{value_of_digits}
use Rattle.mine_model.specs.Refusal.{IsTextRefusal}
use Rattle.mine_model.specs.Text.{lines_of, is_name_byte, bad_byte, long_name}
use Rattle.mine_model.specs.Tokens.{Each}
use Rattle.mine_model.proofs.FirstLemmas.{AtMostOne, FirstOf-unique, FirstAmong-unique}
use Rattle.mine_model.proofs.ListLemmas.{AllByRecursion-contained}
use Rattle.mine_model.proofs.TextFaultLemmas.{text-unique, bad≢long}
use Rattle.pattern_proof.specs.Pieces.{IsWithout}
use Rattle.pattern_proof.specs.ProofLines.{is_path_line}
use Rattle.pattern_proof.proofs.SayLemmas.{snoc-unique}
use Rattle.pattern_proof.proofs.TextLemmas.{cut-unique, join-unique, digits-no-tab, path-unique, path-line}
use Rattle.proof_names.specs.NamedProofs.{ProofRow, SaysNamedRow, AddsLine, AddLines, IsGoodProof}
use Rattle.proof_names.specs.NamedRefusals.{EndUnshown, IsProofLineRefusal, IsProofFileRefusal}

text-refusal-unique : (number : ℕ) (text : List ℕ) → AtMostOne (IsTextRefusal Proof number text)
text-refusal-unique number text f g (c, inl p) (d, inl q) = p.1 ∙ ap (BadByte Proof number) (text-unique text bad_byte bad_byte c d p.0 q.0).1 ∙ sym q.1
text-refusal-unique number text f g (c, inl p) (d, inr q) = absurd (bad≢long (text-unique text bad_byte long_name c d p.0 q.0).0)
text-refusal-unique number text f g (c, inr p) (d, inl q) = absurd (bad≢long (text-unique text bad_byte long_name d c q.0 p.0).0)
text-refusal-unique number text f g (c, inr p) (d, inr q) = p.1 ∙ ap (NameTooLong Proof number) (text-unique text long_name long_name c d p.0 q.0).1 ∙ sym q.1

without-space : (name : List ℕ) → Each is_name_byte true name → IsWithout 32 name
without-space [] each = tt
without-space (b ∷ name) each =
    ((λ same. true≢false (sym each.0 ∙ ap is_name_byte same)), without-space name each.1)

named-line : (known : List (List ℕ)) (text : List ℕ) (row : NamedRow) → SaysNamedRow known text row → is_path_line text ≡ false
named-line known text row ([], is, number, some, have) = absurd (number.1 refl)
named-line known text row (d ∷ digits, is, number, some, have) = ap is_path_line is ∙ ne_eqb d 9 (digits-no-tab (d ∷ digits) row.support number).0

module _ (known : List (List ℕ)) (clean : AllByRecursion (Each is_name_byte true) known) where
  words-clean : (words : List (List ℕ)) → AllByRecursion (Contains known) words → AllByRecursion (IsWithout 32) words
  words-clean [] have = tt
  words-clean (word ∷ words) have =
      (without-space word (AllByRecursion-contained (Each is_name_byte true) known word clean have.0), words-clean words have.1)

  named-unique : (text : List ℕ) (r s : NamedRow) → SaysNamedRow known text r → SaysNamedRow known text s → r ≡ s
  named-unique text r s (digits, is, number, some, have) (others, also, same_number, more, as_well) =
      let cut = cut-unique 9 digits others (9 ∷ join_with_byte 32 r.pattern) (9 ∷ join_with_byte 32 s.pattern)
      (digits-no-tab digits r.support number) (digits-no-tab others s.support same_number) refl refl (sym is ∙ also) in
      let joined : join_with_byte 32 r.pattern ≡ join_with_byte 32 s.pattern = (let t = cut.1 in cc) in
      let pattern : r.pattern ≡ s.pattern =
      join-unique r.pattern s.pattern some more (words-clean r.pattern have) (words-clean s.pattern as_well) joined in
      let support : r.support ≡ s.support = sym number.2 ∙ ap value_of_digits cut.0 ∙ same_number.2 in
      λ i. record { pattern = pattern i; support = support i }

  adds-unique : (before : List ProofRow) (text : List ℕ) (after others : List ProofRow) → AddsLine known before text after → AddsLine known before text others → after ≡ others
  adds-unique before text after others (inl (row, says, is)) (inl (other, also, as_well)) =
      let same : row ≡ other = named-unique text row other says also in
      is ∙ ap (λ (r : NamedRow). before ++ (let made : ProofRow = record { row = r; paths = [] } in made) ∷ []) same ∙ sym as_well
  adds-unique before text after others (inl (row, says, is)) (inr (earlier, last, path, cut, also, as_well)) =
      absurd (true≢false (sym (path-line text path also) ∙ named-line known text row says))
  adds-unique before text after others (inr (earlier, last, path, cut, says, is)) (inl (other, also, as_well)) =
      absurd (true≢false (sym (path-line text path says) ∙ named-line known text other also))
  adds-unique before text after others (inr (earlier, last, path, cut, says, is)) (inr (front, end, other, split, also, as_well)) =
      let same = path-unique text path other says also in
      let both = snoc-unique earlier front last end (sym cut ∙ split) in
      is ∙ (λ i. both.0 i ++ (let made : ProofRow = record { row = (both.1 i).row; paths = (both.1 i).paths ++ same i ∷ [] } in made) ∷ []) ∙ sym as_well

  rows-unique : (before : List ProofRow) (lines : List (List ℕ)) (after others : List ProofRow) → AddLines known before lines after → AddLines known before lines others → after ≡ others
  rows-unique before [] after others say also = say ∙ sym also
  rows-unique before (text ∷ lines) after others (between, adds, say) (other, as_well, also) =
      let same : between ≡ other = adds-unique before text between other adds as_well in
      rows-unique other lines after others (subst (λ b. AddLines known b lines after) same say) also

  module _ (d : Data (List ℕ)) where
    pub count-unique : (lines : List (List ℕ)) (m n : ℕ) → IsGoodProof d known lines m → IsGoodProof d known lines n → m ≡ n
    count-unique lines m n good also = good.counted ∙ ap length (rows-unique [] lines good.rows also.rows good.said also.said) ∙ sym also.counted

    unshown-unique : (lines : List (List ℕ)) (m n : ℕ) → EndUnshown d known lines m → EndUnshown d known lines n → m ≡ n
    unshown-unique lines m n (earlier, last, say, not, count) (front, end, also, nor, sum) =
        let same = (snoc-unique earlier front last end (rows-unique [] lines (earlier ++ last ∷ []) (front ++ end ∷ []) say also)).1 in
        let e : length last.paths ≡ length end.paths = ap (λ (x : ProofRow). length x.paths) same in
        omega (arith, e, count, sum)

    line-unique : (before : List (List ℕ)) (text : List ℕ) → AtMostOne (IsProofLineRefusal d known before text)
    line-unique before text =
        FirstOf-unique _ _ (text-refusal-unique (length before + 1) text)
        (FirstOf-unique _ _
        (λ f g p q. p.3 ∙ ap BadProof (unshown-unique before p.0 q.0 p.2 q.2) ∙ sym q.3)
        (λ f g p q. p.3 ∙ sym q.3))

    pub file-unique : (bytes : List ℕ) → AtMostOne (IsProofFileRefusal d known bytes)
    file-unique bytes =
        FirstOf-unique _ _ (λ f g p q. p.1 ∙ sym q.1)
        (FirstOf-unique _ _ (FirstAmong-unique (IsProofLineRefusal d known) line-unique [] (lines_of bytes))
        (λ f g p q. p.2 ∙ ap BadProof (unshown-unique (lines_of bytes) p.0 q.0 p.1 q.1) ∙ sym q.2))
