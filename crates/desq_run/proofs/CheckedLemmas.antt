-- What a run writes as a proof passes the check of a run over the same data.
use Rattle.std.proofs.Common.{◌≡◌, ◌≤◌, ◌∙◌, inl, inr, ℕ, Bool, List, ◌++◌, length, Contains, refl, sym, subst}
use Rattle.std.specs.List.{AllByRecursion}
use Rattle.mine_model.specs.declared.fault.Fault.{Fault}
use Rattle.mine_model.specs.Answer.{NamedRow, IsAnswer, IsFrequent}
use Rattle.mine_model.specs.Expression.{Tree, unfolded_leaves}
use Rattle.mine_model.specs.First.{FirstOf}
use Rattle.mine_model.specs.Grammar.{Use}
use Rattle.mine_model.specs.Hierarchy.{Link}
use Rattle.mine_model.specs.Limits.{most_leaves, most_sequences, most_weight, most_file_bytes, most_name_bytes}
use Rattle.mine_model.specs.Refusal.{items_of}
use Rattle.mine_model.specs.Support.{Sequence}
use Rattle.mine_model.specs.Text.{lines_of, IsSoundLine}
use Rattle.mine_model.proofs.ElementLemmas.{flat-held}
use Rattle.mine_model.proofs.ListLemmas.{Contains-by, AllByRecursion-from, AllByRecursion-contained, AllByRecursion-weaker}
use Rattle.mine_model.proofs.NumberingLemmas.{unfolded_leaves-by}
use Rattle.split_merge.specs.Merging.{IsOutputRow, IsKnownRow}
use Rattle.proof_names.specs.NamedProofs.{ProofRow, IsGoodProof, IsFullRow, IsProofText}
use Rattle.proof_names.specs.NamedRefusals.{IsProofFileRefusal}
use Rattle.proof_names.specs.Numberings.{AreKnown}
use Rattle.proof_names.proofs.AnswerProofLemmas.{answer-good}
use Rattle.proof_names.proofs.KnownLemmas.{distinct-names, frequent-known}
use Rattle.command_line.specs.Words.{Source, read, make, Task, prove, IsCommand, IsOfFile, SuitsTask}
use Rattle.command_line.proofs.CommandLemmas.{task_suits}
use Rattle.desq_run.specs.Sources.{IsSourceRefusal, IsUnknownIn, SaysTree}
use Rattle.desq_run.specs.Said.{names_said, links_said, sequences_said, RefusesHierarchy, RefusesSequences, checked_text}
use Rattle.desq_run.specs.Merged.{RefusesMerged}
use Rattle.desq_run.specs.Ends.{Input, known_names, hierarchy_names, IsDataRefusal, RefusesProof, input_data, IsAccepted, IsAnswerTo, AreRowsTo, IsTextOf, IsAnswerText}
use Rattle.desq_run.specs.Checked.{IsCheckRun}
use Rattle.desq_run.proofs.KnownLemmas.{known-files, says-unique}
use Rattle.desq_run.proofs.LeafCountLemmas.{leaves_few}
use Rattle.desq_run.proofs.LimitLemmas.{Nothing, first_none, second_none, sequences_count, sequence_weight, within-limits}
use Rattle.desq_run.proofs.LinkLemmas.{links-among, Contains-front, Contains-back}
use Rattle.desq_run.proofs.SharedLemmas.{answer-from}
use Rattle.desq_run.proofs.SourceLemmas.{has-ranges}
use Rattle.desq_run.proofs.UnrefusedLemmas.{good-unrefused}
use Rattle.desq_run.proofs.WrittenLemmas.{IsFit, rows-sound}

-- the first refusal of what is mined, of a source and the bytes of its files
abbrev Refuses : Source → Bool → List ℕ → List ℕ → Fault → Type 0
Refuses source weighted hierarchy sequences = FirstOf (IsSourceRefusal source)
    (FirstOf (RefusesHierarchy source hierarchy)
    (FirstOf (RefusesSequences source weighted (names_said source hierarchy) sequences)
    (IsUnknownIn (names_said source hierarchy ++ items_of (sequences_said source weighted sequences)) source)))

-- the leaves of an expression on a file that is not refused
few-leaves : (expression file : List ℕ) (tree : Tree (List ℕ)) → Nothing (IsSourceRefusal (read expression file)) → SaysTree (read expression file) tree
    → unfolded_leaves tree ≤ most_leaves
few-leaves expression file tree none (uses, reads, same) =
    subst (λ t. unfolded_leaves t ≤ most_leaves) (sym same)
    (subst (λ n. n ≤ most_leaves) (sym (unfolded_leaves-by (λ (u : Use). u.name) uses)) (leaves_few expression uses reads none))

module _ (words : List (List ℕ)) (input : Input) (said : IsCommand words input.command) (task : input.command.task ≡ prove) (accepted : IsAccepted input)
    (tree : Tree (List ℕ)) (says : SaysTree input.command.source tree) where
  of_file : IsOfFile input.command
  of_file = subst (λ (t : Task). SuitsTask t input.command) task (task_suits words input.command said)

  data_none : Nothing (IsSourceRefusal input.command.source)
  data_none fault refused = accepted fault (inl (inl (inl refused)))

  none_behind : (fault : Fault) → RefusesSequences input.command.source input.command.weighted (hierarchy_names input) input.sequences fault → ⊥
  none_behind = first_none _ _ (second_none (RefusesHierarchy input.command.source input.hierarchy) _ (second_none (IsSourceRefusal input.command.source) _
      (first_none _ _ (first_none _ _ accepted))))

  few : unfolded_leaves tree ≤ most_leaves
  few = few-leaves of_file.expression of_file.file tree (subst (λ source. Nothing (IsSourceRefusal source)) of_file.source data_none)
      (subst (λ source. SaysTree source tree) of_file.source says)

  short : length (sequences_said input.command.source input.command.weighted input.sequences) ≤ most_sequences
  short = subst (λ source. length (sequences_said source input.command.weighted input.sequences) ≤ most_sequences) (sym of_file.source)
      (sequences_count input.command.weighted (names_said (read of_file.expression of_file.file) input.hierarchy) input.sequences
      (subst (λ source. Nothing (RefusesSequences source input.command.weighted (names_said source input.hierarchy) input.sequences)) of_file.source none_behind))

  light : AllByRecursion (λ (s : Sequence (List ℕ)). s.weight ≤ most_weight) (sequences_said input.command.source input.command.weighted input.sequences)
  light = subst (λ source. AllByRecursion (λ (s : Sequence (List ℕ)). s.weight ≤ most_weight) (sequences_said source input.command.weighted input.sequences)) (sym of_file.source)
      (AllByRecursion-from (λ (s : Sequence (List ℕ)). s.weight ≤ most_weight) (sequences_said (read of_file.expression of_file.file) input.command.weighted input.sequences)
      (sequence_weight input.command.weighted (names_said (read of_file.expression of_file.file) input.hierarchy) input.sequences
      (subst (λ source. Nothing (RefusesSequences source input.command.weighted (names_said source input.hierarchy) input.sequences)) of_file.source none_behind)))

  known : AreKnown (known_names input) (input_data input tree)
  known = record {
    parents = AllByRecursion-from (λ (link : Link (List ℕ)). Contains (known_names input) link.parent) (links_said input.command.source input.hierarchy) (λ link held.
        Contains-front (names_said input.command.source input.hierarchy) (items_of (sequences_said input.command.source input.command.weighted input.sequences)) link.parent
        (links-among input.command.source input.hierarchy link held).1);
    sequences = AllByRecursion-from (λ (s : Sequence (List ℕ)). AllByRecursion (Contains (known_names input)) s.items)
        (sequences_said input.command.source input.command.weighted input.sequences) (λ s held.
        AllByRecursion-from (Contains (known_names input)) s.items (λ name inside.
        Contains-back (names_said input.command.source input.hierarchy) (items_of (sequences_said input.command.source input.command.weighted input.sequences)) name
        (flat-held (λ (s : Sequence (List ℕ)). s.items) (sequences_said input.command.source input.command.weighted input.sequences) s name held inside)));
  }

  -- a proof of the answer is good
  pub proof-passes : (answer : List NamedRow) (text : List ℕ) → IsAnswer (input_data input tree) answer → IsProofText (input_data input tree) answer text
      → IsGoodProof (input_data input tree) (known_names input) (lines_of text) (length answer)
  proof-passes answer text is proof =
      answer-good (input_data input tree) short light few (known_names input) (known-files input) known said.says.support.2.within.0 answer text is proof

  no_made : (count : ℕ) (expression : List ℕ) → input.command.source ≡ make count expression → ⊥
  no_made count expression own = let other : read of_file.expression of_file.file ≡ make count expression = sym of_file.source ∙ own in cc

  -- and its lines are sound
  pub proof-sound : (answer : List NamedRow) (text : List ℕ) → IsAnswer (input_data input tree) answer → IsProofText (input_data input tree) answer text
      → AllByRecursion IsSoundLine (lines_of text)
  proof-sound answer text is proof =
      let (names, sound, held) = distinct-names (known_names input) (known-files input) in
      let least : 1 ≤ input.command.threshold = said.says.support.2.within.0 in
      let limits = within-limits input no_made least accepted tree answer says is in
      subst (λ b. AllByRecursion IsSoundLine (lines_of b)) (sym proof.written)
      (rows-sound (input_data input tree) short few (known_names input) names sound held proof.rows
      (AllByRecursion-from (IsFit (input_data input tree) short few (known_names input) names sound held) proof.rows (λ row inside.
      let there : Contains answer row.row = subst (λ l. Contains l row.row) proof.same (Contains-by (λ (r : ProofRow). r.row) proof.rows row inside) in
      let frequent : IsFrequent (input_data input tree) row.row.pattern row.row.support = (is.frequent row.row).0 there in
      record {
        named = frequent-known (known_names input) (input_data input tree) known least row.row.pattern row.row.support frequent;
        output = AllByRecursion-contained (IsOutputRow input.command.threshold) answer row.row limits.outputs there;
        short = AllByRecursion-weaker (λ name. Contains limits.known name × (length name ≤ most_name_bytes)) (λ name. length name ≤ most_name_bytes) (λ name both. both.1)
            row.row.pattern (AllByRecursion-contained (IsKnownRow limits.known) answer row.row limits.names there);
        each = (AllByRecursion-contained (IsFullRow (input_data input tree)) proof.rows row proof.full inside).each;
      })))

module _ (input checking : Input) (text : List ℕ) (run : IsCheckRun input text checking) where
  same_data : (tree : Tree (List ℕ)) → input_data input tree ≡ input_data checking tree
  same_data tree = λ i. record {
    links = links_said (sym run.source i) (sym run.hierarchy i);
    sequences = sequences_said (sym run.source i) (sym run.weighted i) (sym run.sequences i);
    expression = tree;
    threshold = sym run.threshold i;
  }

  same_known : known_names input ≡ known_names checking
  same_known = λ i. names_said (sym run.source i) (sym run.hierarchy i) ++ items_of (sequences_said (sym run.source i) (sym run.weighted i) (sym run.sequences i))

  -- what is good for the one run is good for the other
  pub good-there : (tree : Tree (List ℕ)) (count : ℕ) → SaysTree input.command.source tree → IsGoodProof (input_data input tree) (known_names input) (lines_of text) count
      → IsAnswerText checking (checked_text count)
  good-there tree count says good =
      subst (λ (t : Task). IsTextOf t checking (checked_text count)) (sym run.task) (
        count,
        (
          tree,
          subst (λ source. SaysTree source tree) (sym run.source) says,
          subst (λ bytes. IsGoodProof (input_data checking tree) (known_names checking) (lines_of bytes) count) (sym run.bytes)
              (subst (λ names. IsGoodProof (input_data checking tree) names (lines_of text) count) same_known
              (subst (λ d. IsGoodProof d (known_names input) (lines_of text) count) (same_data tree) good)),
        ),
        refl,
      )

  -- what is mined is refused alike
  data-there : (fault : Fault) → IsDataRefusal checking fault → IsDataRefusal input fault
  data-there fault refused =
      subst (λ l. Refuses input.command.source input.command.weighted input.hierarchy l fault) run.sequences
      (subst (λ h. Refuses input.command.source input.command.weighted h checking.sequences fault) run.hierarchy
      (subst (λ w. Refuses input.command.source w checking.hierarchy checking.sequences fault) run.weighted
      (subst (λ source. Refuses source checking.command.weighted checking.hierarchy checking.sequences fault) run.source refused)))

  -- where nothing of the one run is refused, and its proof is good and of sound lines, nothing of the other is
  pub free-there : (tree : Tree (List ℕ)) (count : ℕ) → SaysTree input.command.source tree → IsOfFile input.command → IsAccepted input
      → length text ≤ most_file_bytes → AllByRecursion IsSoundLine (lines_of text) → IsGoodProof (input_data input tree) (known_names input) (lines_of text) count → IsAccepted checking
  free-there tree count says whole accepted size sound good fault (inl (inl refused)) = accepted fault (inl (inl (data-there fault refused)))
  free-there tree count says whole accepted size sound good fault (inl (inr (none, refused))) =
      subst (λ source. RefusesMerged source checking.command.threshold checking.merged fault) (run.source ∙ whole.source) refused
  free-there tree count says whole accepted size sound good fault (inr (none, refused)) =
      let (other, also, refusal) = subst (λ (t : Task). RefusesProof t checking fault) run.task refused in
      let one : other ≡ tree = says-unique input.command.source other tree (subst (λ source. SaysTree source other) run.source also) says in
      let here : IsProofFileRefusal (input_data input tree) (known_names input) text fault =
      subst (λ bytes. IsProofFileRefusal (input_data input tree) (known_names input) bytes fault) run.bytes
      (subst (λ names. IsProofFileRefusal (input_data input tree) names checking.proof fault) (sym same_known)
      (subst (λ d. IsProofFileRefusal d (known_names checking) checking.proof fault) (sym (same_data tree))
      (subst (λ t. IsProofFileRefusal (input_data checking t) (known_names checking) checking.proof fault) one refusal))) in
      good-unrefused (input_data input tree) (known_names input) (known-files input) text count size sound good fault here

module _ (words : List (List ℕ)) (input checking : Input) (text : List ℕ) (said : IsCommand words input.command) (task : input.command.task ≡ prove)
    (accepted : IsAccepted input) (is : IsAnswerText input text) (run : IsCheckRun input text checking) where
  whole : IsOfFile input.command
  whole = subst (λ (t : Task). SuitsTask t input.command) task (task_suits words input.command said)

  written : IsTextOf prove input text
  written = subst (λ (t : Task). IsTextOf t input text) task is

  answer : IsAnswerTo input.command.source input written.0
  answer = subst (λ share. AreRowsTo share input.command.source input written.0) whole.share written.1

  own : IsAnswer (input_data input written.2.0) written.0
  own = answer-from input.command.source input written.0 written.2.0 refl (has-ranges words input.command said) written.2.1 answer

  good : IsGoodProof (input_data input written.2.0) (known_names input) (lines_of text) (length written.0)
  good = proof-passes words input said task accepted written.2.0 written.2.1 written.0 text own written.2.2

  -- a proof that is written is good
  pub passes-check : (answer : List NamedRow) × IsAnswerTo input.command.source input answer × IsAnswerText checking (checked_text (length answer))
  passes-check = (written.0, answer, good-there input checking text run written.2.0 (length written.0) written.2.1 good)

  -- and not refused, where it is not too large
  pub not-refused : length text ≤ most_file_bytes → IsAccepted checking
  not-refused few =
      free-there input checking text run written.2.0 (length written.0) written.2.1 whole accepted few
      (proof-sound words input said task accepted written.2.0 written.2.1 written.0 text own written.2.2) good
