-- Of each file at most one refusal comes first, and so of the files of a merge.
use Rattle.std.proofs.Common.{◌≡◌, inl, inr, ℕ, ◌+◌, Bool, true, false, List, [], ◌∷◌, length, sym, ap, ◌∙◌, subst}
use Rattle.std.proofs.lemmas.Bool.{cases_order}
use Rattle.mine_model.specs.declared.fault.Fault.TheVariants.{BadByte, NameTooLong, Cycle, BadWeight}
use Rattle.mine_model.specs.declared.fault.Which.{Which}
use Rattle.mine_model.specs.declared.fault.Which.TheVariants.{Hierarchy, Sequences, Merged}
use Rattle.mine_model.specs.Hierarchy.{PlacedLink, IsCycleLine}
use Rattle.mine_model.specs.Text.{Field, lines_of, bad_byte, long_name}
use Rattle.mine_model.specs.First.{FirstAmong}
use Rattle.mine_model.specs.Refusal.{IsTextRefusal, IsHierarchyLineRefusal, IsHierarchyRefusal, IsBadWeight, IsSequenceLineRefusal, IsSequencesRefusal, placed_links_of}
use Rattle.mine_model.proofs.TextFaultLemmas.{text-unique, bad≢long}
use Rattle.mine_model.proofs.FirstLemmas.{AtMostOne, FirstOf-unique, FirstAmong-unique}
use Rattle.proof_names.specs.NamedRefusals.{IsProofFileRefusal}
use Rattle.proof_names.proofs.OneRefusalLemmas.{file-unique}
use Rattle.mine_model.specs.Text.{is_name_byte}
use Rattle.mine_model.specs.Tokens.{Each}
use Rattle.mine_model.proofs.ListLemmas.{AllByRecursion-weaker}
use Rattle.mine_model.specs.Names.{IsFileName}
use Rattle.command_line.specs.Words.{Source, read, embed, make, merge, Task, mine, prove, check}
use Rattle.split_merge.specs.Merging.{FileFault}
use Rattle.split_merge.proofs.RefusalLemmas.{merge-unique}
use Rattle.desq_run.specs.Said.{RefusesHierarchy, RefusesSequences}
use Rattle.desq_run.specs.Merged.{fault_in, RefusesMerged}
use Rattle.desq_run.specs.Ends.{Input, known_names, input_data, RefusesProof}
use Rattle.desq_run.proofs.KnownLemmas.{says-unique, known-files}

IsTextRefusal-unique : (file : Which) (line : ℕ) (text : List ℕ) → AtMostOne (IsTextRefusal file line text)
IsTextRefusal-unique file line text f g (c, inl p) (d, inl q) = p.1 ∙ ap (BadByte file line) (text-unique text bad_byte bad_byte c d p.0 q.0).1 ∙ sym q.1
IsTextRefusal-unique file line text f g (c, inl p) (d, inr q) = absurd (bad≢long (text-unique text bad_byte long_name c d p.0 q.0).0)
IsTextRefusal-unique file line text f g (c, inr p) (d, inl q) = absurd (bad≢long (text-unique text bad_byte long_name d c q.0 p.0).0)
IsTextRefusal-unique file line text f g (c, inr p) (d, inr q) = p.1 ∙ ap (NameTooLong file line) (text-unique text long_name long_name c d p.0 q.0).1 ∙ sym q.1

IsCycleLine-unique : {A : Type 0} (placed : List (PlacedLink A)) (m n : ℕ) → IsCycleLine placed m → IsCycleLine placed n → m ≡ n
IsCycleLine-unique placed m n p q = elim (cases_order m n) [
  | inl same ↦ same
  | inr apart ↦ elim apart [
    | inl less ↦ absurd (q.1 m less p.0)
    | inr more ↦ absurd (p.1 n more q.0)
  ]
]

hierarchy-unique : (bytes : List ℕ) → AtMostOne (IsHierarchyRefusal bytes)
hierarchy-unique bytes =
    FirstOf-unique _ _ (λ f g p q. p.1 ∙ sym q.1)
    (FirstOf-unique (FirstAmong IsHierarchyLineRefusal [] (lines_of bytes)) _
    (FirstAmong-unique IsHierarchyLineRefusal
    (λ before text. FirstOf-unique _ _ (IsTextRefusal-unique Hierarchy (length before + 1) text) (λ f g p q. p.1 ∙ sym q.1)) [] (lines_of bytes))
    (FirstOf-unique _ _
    (λ f g p q. p.2 ∙ ap Cycle (IsCycleLine-unique (placed_links_of (lines_of bytes)) p.0 q.0 p.1 q.1) ∙ sym q.2)
    (λ f g p q. p.1 ∙ sym q.1)))

IsBadWeight-unique : (weighted : Bool) (fields : List Field) (c d : ℕ) → IsBadWeight weighted fields c → IsBadWeight weighted fields d → c ≡ d
IsBadWeight-unique false fields c d p q = absurd p
IsBadWeight-unique true [] c d p q = p ∙ sym q
IsBadWeight-unique true (field ∷ fields) c d p q = p.1 ∙ sym q.1

sequences-unique : (weighted : Bool) (known : List (List ℕ)) (bytes : List ℕ) → AtMostOne (IsSequencesRefusal weighted known bytes)
sequences-unique weighted known bytes =
    FirstOf-unique _ _ (λ f g p q. p.1 ∙ sym q.1)
    (FirstAmong-unique (IsSequenceLineRefusal weighted known)
    (λ before text. FirstOf-unique _ _ (IsTextRefusal-unique Sequences (length before + 1) text)
    (FirstOf-unique _ _ (λ f g p q. p.1 ∙ sym q.1)
    (FirstOf-unique _ _
    (λ f g p q. p.2 ∙ ap (BadWeight (length before + 1)) (IsBadWeight-unique weighted _ p.0 q.0 p.1 q.1) ∙ sym q.2)
    (FirstOf-unique _ _ (λ f g p q. p.1 ∙ sym q.1) (λ f g p q. p.1 ∙ sym q.1))))) [] (lines_of bytes))

-- so of each source
pub hierarchy-once : (source : Source) (bytes : List ℕ) → AtMostOne (RefusesHierarchy source bytes)
hierarchy-once (read expression file) bytes = hierarchy-unique bytes
hierarchy-once (embed rule file) bytes = hierarchy-unique bytes
hierarchy-once (make count expression) bytes = λ f g p q. absurd p
hierarchy-once (merge files) bytes = λ f g p q. absurd p

pub sequences-once : (source : Source) (weighted : Bool) (known : List (List ℕ)) (bytes : List ℕ)
    → AtMostOne (RefusesSequences source weighted known bytes)
sequences-once (read expression file) weighted known bytes = sequences-unique weighted known bytes
sequences-once (embed rule file) weighted known bytes = sequences-unique weighted known bytes
sequences-once (make count expression) weighted known bytes = λ f g p q. absurd p
sequences-once (merge files) weighted known bytes = λ f g p q. absurd p

-- so of the files of a merge
pub merged-once : (source : Source) (threshold : ℕ) (files : List (List ℕ)) → AtMostOne (RefusesMerged source threshold files)
merged-once (read expression file) threshold files = λ f g p q. absurd p
merged-once (embed rule file) threshold files = λ f g p q. absurd p
merged-once (make count expression) threshold files = λ f g p q. absurd p
merged-once (merge names) threshold files = λ f g p q.
    p.2 ∙ ap (λ (refused : FileFault). fault_in (Merged refused.file) refused.fault) (merge-unique threshold files p.0 q.0 p.1 q.1) ∙ sym q.2

-- so of a proof that is checked
pub proof-once : (task : Task) (input : Input) → AtMostOne (RefusesProof task input)
proof-once mine input = λ f g p q. absurd p
proof-once prove input = λ f g p q. absurd p
proof-once (check file) input = λ f g (tree, says, refused) (other, also, as_well).
    file-unique (known_names input) (AllByRecursion-weaker IsFileName (Each is_name_byte true) (λ name is. is.1) (known_names input) (known-files input))
    (input_data input tree) input.proof f g refused
    (subst (λ t. IsProofFileRefusal (input_data input t) (known_names input) input.proof g) (says-unique input.command.source other tree also says) as_well)
