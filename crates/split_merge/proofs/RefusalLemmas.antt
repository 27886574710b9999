-- A merge has at most one refusal.
use Rattle.std.proofs.Common.{◌≡◌, ◌⊎◌, inl, inr, ℕ, ◌+◌, List, [], length, sym, ap, ◌∙◌}
use Rattle.mine_model.specs.Text.{lines_of, bad_byte, long_name, IsFirstTextFault}
use Rattle.mine_model.proofs.TextFaultLemmas.{text-unique, bad≢long}
use Rattle.mine_model.proofs.FirstLemmas.{AtMostOne, FirstOf-unique, FirstAmong-unique}
use Rattle.split_merge.specs.declared.faults.MergeFault.TheVariants as merges
use Rattle.split_merge.specs.Merging.{FileFault, IsMergedLineRefusal, IsMergedFileRefusal, IsMergeRefusal, lines_of_files}

-- the text of a line of a merged file
merged-text-unique : (line : ℕ) (text : List ℕ) → AtMostOne (λ fault. (column : ℕ)
    × ((IsFirstTextFault text bad_byte column × (fault ≡ merges.BadByte line column))
    ⊎ (IsFirstTextFault text long_name column × (fault ≡ merges.NameTooLong line column))))
merged-text-unique line text f g (c, inl p) (d, inl q) = p.1 ∙ ap (merges.BadByte line) (text-unique text bad_byte bad_byte c d p.0 q.0).1 ∙ sym q.1
merged-text-unique line text f g (c, inl p) (d, inr q) = absurd (bad≢long (text-unique text bad_byte long_name c d p.0 q.0).0)
merged-text-unique line text f g (c, inr p) (d, inl q) = absurd (bad≢long (text-unique text bad_byte long_name d c q.0 p.0).0)
merged-text-unique line text f g (c, inr p) (d, inr q) = p.1 ∙ ap (merges.NameTooLong line) (text-unique text long_name long_name c d p.0 q.0).1 ∙ sym q.1

merged-file-unique : (threshold : ℕ) (earlier : List (List ℕ)) (bytes : List ℕ) → AtMostOne (IsMergedFileRefusal threshold earlier bytes)
merged-file-unique threshold earlier bytes =
    FirstOf-unique _ _ (λ f g p q. p.1 ∙ sym q.1)
    (FirstAmong-unique (IsMergedLineRefusal threshold earlier)
    (λ before text. FirstOf-unique _ _ (merged-text-unique (length before + 1) text)
    (FirstOf-unique _ _ (λ f g p q. p.1 ∙ sym q.1) (λ f g p q. p.1 ∙ sym q.1))) [] (lines_of bytes))

FileFault-same : (f g : FileFault) → f.file ≡ g.file → f.fault ≡ g.fault → f ≡ g
FileFault-same f g file fault =
    ap (λ n. record { file = n; fault = f.fault }) file ∙ ap (λ e. record { file = g.file; fault = e }) fault

pub merge-unique : (threshold : ℕ) (files : List (List ℕ)) → AtMostOne (IsMergeRefusal threshold files)
merge-unique threshold files =
    FirstAmong-unique (λ before bytes (refused : FileFault). (refused.file ≡ length before + 1)
    × IsMergedFileRefusal threshold (lines_of_files before) bytes refused.fault)
    (λ before bytes f g p q. FileFault-same f g (p.0 ∙ sym q.0)
    (merged-file-unique threshold (lines_of_files before) bytes f.fault g.fault p.1 q.1)) [] files
