-- How a run ends, from what its parts answer; and what follows from how it ended.
use Rattle.std.proofs.Common.{◌≡◌, ◌⊎◌, ◌↔◌, inl, inr, ℕ, List, [], ◌∷◌, ◌++◌, Option, Some, IfSome, Result, Ok, Err, OnOk, OnErr, ◌≢◌, Contains, refl, sym, ap, ◌∙◌, subst, arith}
use Rattle.mine_model.specs.declared.item.Item.{Item}
use Rattle.mine_model.specs.declared.fault.Fault.{Fault}
use Rattle.mine_model.specs.declared.fault.Fault.TheVariants.{Usage, BadToken, BadRepeat, Unexpected, Unknown, BadByte, BadWeight, Cycle, BadRow, BadProof, ExprTooLong, RepeatLimit, TooDeep, TooManyLeaves, TooLarge, NameTooLong, TooManyItems, TooManyAncestors, TooManySequences, SequenceTooLong, Read, Write, NoMemory}
use Rattle.mine_model.specs.declared.fault.Which.{Which}
use Rattle.mine_model.specs.declared.fault.Which.TheVariants.{Hierarchy, Sequences, Merged, Proof}
use Rattle.mine_model.specs.Expression.{Tree, named_in}
use Rattle.mine_model.specs.Grammar.{Use, ReadsAs}
use Rattle.mine_model.specs.Support.{Sequence}
use Rattle.mine_model.specs.Ancestry.{Ancestry}
use Rattle.mine_model.specs.First.{FirstAmong}
use Rattle.mine_model.specs.Refusal.{IsExpressionRefusal, IsUnknown}
use Rattle.mine_model.specs.declared.mined.Work.{Work}
use Rattle.mine_model.specs.Status.{fault_status, status_of}
use Rattle.mine_model.proofs.ListLemmas.{Contains-first, Contains-other}
use Rattle.mine_model.proofs.FirstLemmas.{AtMostOne, FirstOf-unique, FirstAmong-unique}
use Rattle.patex_parser.specs.Parsing.{named_tree}
use Rattle.patex_grammar.proofs.RefusalLemmas.{ReadsAs-unique, IsExpressionRefusal-unique}
use Rattle.command_line.specs.Words.{Source, read, embed, make, merge, Task, mine, prove, check, Command, IsCommand, IsUsage, file_of, merged_in}
use Rattle.command_line.proofs.CommandLemmas.{IsCommand-unique, IsUsage-excludes}
use Rattle.desq_run.specs.Sources.{IsSourceRefusal, IsUnknownIn, SaysTree}
use Rattle.desq_run.specs.Said.{RefusesHierarchy, RefusesSequences}
use Rattle.desq_run.specs.Merged.{RefusesMerged}
use Rattle.desq_run.specs.Ends.{Input, IsInput, bytes_named, hierarchy_names, known_names, IsDataRefusal, IsRowsRefusal, RefusesProof, IsFirstRefusal, IsAccepted, HasSource, IsOfKind, IsOfFiles, AcceptsHierarchy, HoldsData, AcceptsData, ComesInTurn, RefusesNoOther, NeedsNoFile, MayEndWith, done, no_command, refused_source, refused_file, read_fault, write_fault, no_memory}
use Rattle.desq_run.specs.Inputs.{IsHierarchySaid, IsDatabaseSaid, IsRead}
use Rattle.desq_run.proofs.LinkLemmas.{Contains-both, Contains-front, Contains-back}
use Rattle.desq_run.proofs.SameRefusals.{HoldSame, sequences-alike, unknown-alike}
use Rattle.desq_run.proofs.UniqueRefusals.{hierarchy-once, sequences-once, merged-once, proof-once}

pub IfSome-at : {T : Type 0} (P : T → Type 0) (o : Option T) (t : T) → IfSome o P → o ≡ Some t → P t
IfSome-at P o t p same = let q : IfSome (Some t) P = subst (λ o. IfSome o P) same p in q

-- an expression is malformed or beyond a limit
pub expression-status : (text : List ℕ) (fault : Fault) → IsExpressionRefusal text fault → (fault_status fault ≡ 3) ⊎ (fault_status fault ≡ 4)
expression-status text fault (inl p) = inr (ap fault_status p.1)
expression-status text fault (inr (a, inl p)) = inl (ap fault_status p.2)
expression-status text fault (inr (a, inr (b, inl p))) = inl (ap fault_status p.4)
expression-status text fault (inr (a, inr (b, inr (c, inl p)))) = inr (ap fault_status p.4)
expression-status text fault (inr (a, inr (b, inr (c, inr (d, inl p))))) = inl (ap fault_status p.4)
expression-status text fault (inr (a, inr (b, inr (c, inr (d, inr (e, inl p)))))) = inr (ap fault_status p.4)
expression-status text fault (inr (a, inr (b, inr (c, inr (d, inr (e, inr (g, p))))))) = inr (ap fault_status p.5)

-- so is a source
pub source-status : (source : Source) (fault : Fault) → IsSourceRefusal source fault → (fault_status fault ≡ 3) ⊎ (fault_status fault ≡ 4)
source-status (read expression file) fault refused = expression-status expression fault refused
source-status (embed rule file) fault (many, same) = inr (ap fault_status same)
source-status (make count expression) fault refused = expression-status expression fault refused
source-status (merge files) fault refused = absurd refused

source-unique : (source : Source) → AtMostOne (IsSourceRefusal source)
source-unique (read expression file) = IsExpressionRefusal-unique expression
source-unique (embed rule file) = λ f g p q. p.1 ∙ sym q.1
source-unique (make count expression) = IsExpressionRefusal-unique expression
source-unique (merge files) = λ f g p q. absurd p

-- an unknown name is that of a use
pub unknown-use : (known : List (List ℕ)) (before uses : List Use) (fault : Fault)
    → FirstAmong (λ before u fault. (Contains known u.name → ⊥) × (fault ≡ Unknown u.column)) before uses fault
    → (u : Use) × Contains uses u × (fault ≡ Unknown u.column)
unknown-use known before [] fault none = absurd none
unknown-use known before (u ∷ uses) fault (inl p) = (u, Contains-first u uses, p.1)
unknown-use known before (u ∷ uses) fault (inr p) =
    let (v, inside, same) = unknown-use known (before ++ u ∷ []) uses fault p.1 in (v, Contains-other u uses v inside, same)

kind-status : (kind : Which) (fault : Fault) → IsOfKind kind fault → (fault_status fault ≡ 3) ⊎ (fault_status fault ≡ 4)
kind-status kind Usage none = absurd none
kind-status kind (BadToken column) none = absurd none
kind-status kind (BadRepeat column) none = absurd none
kind-status kind (Unexpected column) none = absurd none
kind-status kind (Unknown column) none = absurd none
kind-status kind (BadByte file line column) is = inl refl
kind-status kind (BadWeight line column) is = inl refl
kind-status kind (Cycle line) is = inl refl
kind-status kind (BadRow file line) is = inl refl
kind-status kind (BadProof line) is = inl refl
kind-status kind ExprTooLong none = absurd none
kind-status kind (RepeatLimit column) none = absurd none
kind-status kind (TooDeep column) none = absurd none
kind-status kind (TooManyLeaves count) none = absurd none
kind-status kind (TooLarge file) is = inr refl
kind-status kind (NameTooLong file line column) is = inr refl
kind-status kind (TooManyItems file line) is = inr refl
kind-status kind TooManyAncestors is = inr refl
kind-status kind (TooManySequences line) is = inr refl
kind-status kind (SequenceTooLong line) is = inr refl
kind-status kind (Read file) none = absurd none
kind-status kind Write none = absurd none
kind-status kind NoMemory none = absurd none

-- a fault of the files is malformed or beyond a limit
pub files-status : (c : Command) (fault : Fault) → IsOfFiles c fault → (fault_status fault ≡ 3) ⊎ (fault_status fault ≡ 4)
files-status c fault (inl (kind, named, of_kind)) = kind-status kind fault of_kind
files-status c fault (inr (u, has, same)) = inl (ap fault_status same)

unknown-name-unique : (known : List (List ℕ)) (expression : List ℕ)
    → AtMostOne (λ fault. (tree : Tree Use) × ReadsAs expression tree × IsUnknown known (named_in tree) fault)
unknown-name-unique known expression = λ f g p q.
    let same : p.0 ≡ q.0 = ReadsAs-unique expression p.0 q.0 p.1 q.1 in
    FirstAmong-unique _ (λ before u j k r s. r.1 ∙ sym s.1) [] (named_in q.0) f g
    (subst (λ t. IsUnknown known (named_in t) f) same p.2) q.2

unknown-unique : (known : List (List ℕ)) (source : Source) → AtMostOne (IsUnknownIn known source)
unknown-unique known (read expression file) = unknown-name-unique known expression
unknown-unique known (embed rule file) = λ f g p q. absurd p
unknown-unique known (make count expression) = unknown-name-unique known expression
unknown-unique known (merge files) = λ f g p q. absurd p

-- there is at most one first refusal of what is mined
data-unique : (input : Input) → AtMostOne (IsDataRefusal input)
data-unique input =
    FirstOf-unique _ _ (source-unique input.command.source)
    (FirstOf-unique _ _ (hierarchy-once input.command.source input.hierarchy)
    (FirstOf-unique _ _ (sequences-once input.command.source input.command.weighted (hierarchy_names input) input.sequences)
    (unknown-unique (known_names input) input.command.source)))

-- and one first refusal
pub first-unique : (input : Input) → AtMostOne (IsFirstRefusal input)
first-unique input =
    FirstOf-unique _ _
    (FirstOf-unique _ _ (data-unique input) (merged-once input.command.source input.command.threshold input.merged))
    (proof-once input.command.task input)

-- a fault is of one kind
pub kind-same : (kind other : Which) (fault : Fault) → IsOfKind kind fault → IsOfKind other fault → kind ≡ other
kind-same kind other Usage none also = absurd none
kind-same kind other (BadToken column) none also = absurd none
kind-same kind other (BadRepeat column) none also = absurd none
kind-same kind other (Unexpected column) none also = absurd none
kind-same kind other (Unknown column) none also = absurd none
kind-same kind other (BadByte file line column) is also = sym is ∙ also
kind-same kind other (BadWeight line column) is also = sym is ∙ also
kind-same kind other (Cycle line) is also = sym is ∙ also
kind-same kind other (BadRow file line) is also = sym is.0 ∙ also.0
kind-same kind other (BadProof line) is also = sym is ∙ also
kind-same kind other ExprTooLong none also = absurd none
kind-same kind other (RepeatLimit column) none also = absurd none
kind-same kind other (TooDeep column) none also = absurd none
kind-same kind other (TooManyLeaves count) none also = absurd none
kind-same kind other (TooLarge file) is also = sym is ∙ also
kind-same kind other (NameTooLong file line column) is also = sym is ∙ also
kind-same kind other (TooManyItems file line) is also = sym is.0 ∙ also.0
kind-same kind other TooManyAncestors is also = sym is ∙ also
kind-same kind other (TooManySequences line) is also = sym is ∙ also
kind-same kind other (SequenceTooLong line) is also = sym is ∙ also
kind-same kind other (Read file) none also = absurd none
kind-same kind other Write none also = absurd none
kind-same kind other NoMemory none also = absurd none

-- a fault of the files is of the proof or not
of-proof : (c : Command) (fault : Fault) → IsOfFiles c fault → IsOfKind Proof fault ⊎ (IsOfKind Proof fault → ⊥)
of-proof c fault (inl (Hierarchy, named, of_kind)) = inr (λ is. (let same : Hierarchy ≡ Proof = kind-same Hierarchy Proof fault of_kind is in cc))
of-proof c fault (inl (Sequences, named, of_kind)) = inr (λ is. (let same : Sequences ≡ Proof = kind-same Sequences Proof fault of_kind is in cc))
of-proof c fault (inl (Merged number, named, of_kind)) = inr (λ is. (let same : Merged number ≡ Proof = kind-same (Merged number) Proof fault of_kind is in cc))
of-proof c fault (inl (Proof, named, of_kind)) = inl of_kind
of-proof c fault (inr (u, has, same)) = inr (λ is. (let none : IsOfKind Proof (Unknown u.column) = subst (IsOfKind Proof) same is in none))

-- where no proof is checked none is refused
pub no-proof : (task : Task) (input : Input) (fault : Fault) → ((file : List ℕ) → task ≡ check file → ⊥) → RefusesProof task input fault → ⊥
no-proof mine input fault other none = none
no-proof prove input fault other none = none
no-proof (check file) input fault other refused = other file refl

-- what the rows are found in is not refused, and no proof is checked
pub rows-accepted : (input : Input) → ((fault : Fault) → IsRowsRefusal input fault → ⊥) → ((file : List ℕ) → input.command.task ≡ check file → ⊥) → IsAccepted input
rows-accepted input none other fault (inl refused) = none fault refused
rows-accepted input none other fault (inr last) = no-proof input.command.task input fault other last.1

-- of a merge nothing is mined, and so nothing of that is refused
pub no-data : (input : Input) (names : List (List ℕ)) → input.command.source ≡ merge names → (fault : Fault) → IsDataRefusal input fault → ⊥
no-data input names own fault (inl p) = subst (λ source. IsSourceRefusal source fault) own p
no-data input names own fault (inr (a, inl p)) = subst (λ source. RefusesHierarchy source input.hierarchy fault) own p
no-data input names own fault (inr (a, inr (b, inl p))) =
    subst (λ source. RefusesSequences source input.command.weighted (hierarchy_names input) input.sequences fault) own p
no-data input names own fault (inr (a, inr (b, inr (d, p)))) = subst (λ source. IsUnknownIn (known_names input) source fault) own p

-- of a source that says a tree no files are merged
pub tree-no-merge : (source : Source) (tree : Tree (List ℕ)) (threshold : ℕ) (files : List (List ℕ)) (fault : Fault) → SaysTree source tree
    → RefusesMerged source threshold files fault → ⊥
tree-no-merge (read expression file) tree threshold files fault says none = none
tree-no-merge (embed rule file) tree threshold files fault says none = none
tree-no-merge (make count expression) tree threshold files fault says none = none
tree-no-merge (merge names) tree threshold files fault says refused = says

module _ (words : List (List ℕ)) (holds : List ℕ → Option (List ℕ)) (c : Command) (has : HasSource words c) where
  pub same_command : (input : Input) → IsInput words holds input → c ≡ input.command
  same_command input is = IsCommand-unique words c input.command has.0 is.said

  -- what the files hold is what the input has
  pub held : (input : Input) → IsInput words holds input → HoldsData holds c input
  held input is = record {
    same = same_command input is;
    hierarchy = ap (λ (d : Command). bytes_named holds d.hierarchy) (same_command input is) ∙ is.hierarchy;
    sequences = ap (λ (d : Command). bytes_named holds (file_of d.source)) (same_command input is) ∙ is.sequences;
  }

  -- the source of the input is not refused
  no_source : (input : Input) → HoldsData holds c input → (fault : Fault) → IsSourceRefusal input.command.source fault → ⊥
  no_source input is = subst (λ (d : Command). (fault : Fault) → IsSourceRefusal d.source fault → ⊥) is.same has.1

  -- a refusal of what is mined ends the run so
  data-refused : (fault : Fault) → ((input : Input) → HoldsData holds c input → IsDataRefusal input fault) → RefusesNoOther holds c fault
      → IsOfFiles c fault → (IsOfKind Proof fault → ⊥) → MayEndWith words holds (Err fault)
  data-refused fault refused no_other of_files no_proof = refused_file c fault has (λ input is. inl (inl (refused input (held input is)))) no_other of_files
      (record { proof = λ of_proof. absurd (no_proof of_proof); other = λ none unmerged input is. refused input is })

  pub hierarchy-refused : (fault : Fault) → IfSome (bytes_named holds c.hierarchy) (λ bytes. RefusesHierarchy c.source bytes fault)
      → IsOfFiles c fault → (IsOfKind Proof fault → ⊥) → MayEndWith words holds (Err fault)
  hierarchy-refused fault refused of_files no_proof = data-refused fault
      (λ input is. inr (
        no_source input is,
        inl (subst (λ (d : Command). RefusesHierarchy d.source input.hierarchy fault) is.same
            (IfSome-at (λ bytes. RefusesHierarchy c.source bytes fault) (bytes_named holds c.hierarchy) input.hierarchy refused is.hierarchy)),
      ))
      (λ bytes other told also. hierarchy-once c.source bytes other fault also
      (IfSome-at (λ bytes. RefusesHierarchy c.source bytes fault) (bytes_named holds c.hierarchy) bytes refused told)) of_files no_proof

  module _ (known : List (List ℕ)) (h : Ancestry) (read : IfSome (bytes_named holds c.hierarchy) (λ bytes. IsHierarchySaid c.source bytes known h)) where
    pub read_at : (input : Input) → HoldsData holds c input → IsHierarchySaid input.command.source input.hierarchy known h
    read_at input is = subst (λ (d : Command). IsHierarchySaid d.source input.hierarchy known h) is.same
        (IfSome-at (λ bytes. IsHierarchySaid c.source bytes known h) (bytes_named holds c.hierarchy) input.hierarchy read is.hierarchy)

    -- nothing of the hierarchy is refused
    pub hierarchy-accepted : AcceptsHierarchy holds c
    hierarchy-accepted bytes fault told refused =
        (IfSome-at (λ bytes. IsHierarchySaid c.source bytes known h) (bytes_named holds c.hierarchy) bytes read told).accepted fault refused

    known_same : (input : Input) → HoldsData holds c input → HoldSame known (hierarchy_names input)
    known_same input is = (read_at input is).held

    pub sequences-refused : (fault : Fault) → IfSome (bytes_named holds (file_of c.source)) (λ bytes. RefusesSequences c.source c.weighted known bytes fault)
        → IsOfFiles c fault → (IsOfKind Proof fault → ⊥) → MayEndWith words holds (Err fault)
    sequences-refused fault refused of_files no_proof = data-refused fault
        (λ input is. inr (
          no_source input is,
          inr (
            (read_at input is).accepted,
            inl (
                let here : RefusesSequences c.source c.weighted known input.sequences fault =
                IfSome-at (λ bytes. RefusesSequences c.source c.weighted known bytes fault) (bytes_named holds (file_of c.source)) input.sequences refused is.sequences in
                let there : RefusesSequences input.command.source input.command.weighted known input.sequences fault =
                subst (λ (d : Command). RefusesSequences d.source d.weighted known input.sequences fault) is.same here in
                (sequences-alike input.command.source input.command.weighted known (hierarchy_names input) input.sequences (known_same input is) fault).0 there),
          ),
        )) (λ bytes other told also. absurd (hierarchy-accepted bytes other told also)) of_files no_proof

    module _ (names : List (List ℕ)) (db : List (Sequence Item)) (found : IfSome (bytes_named holds (file_of c.source)) (λ bytes. IsDatabaseSaid c.source c.weighted bytes known names db)) where
      pub found_at : (input : Input) → HoldsData holds c input → IsDatabaseSaid input.command.source input.command.weighted input.sequences known names db
      found_at input is = subst (λ (d : Command). IsDatabaseSaid d.source d.weighted input.sequences known names db) is.same
          (IfSome-at (λ bytes. IsDatabaseSaid c.source c.weighted bytes known names db) (bytes_named holds (file_of c.source)) input.sequences found is.sequences)

      no_sequences : (input : Input) → HoldsData holds c input → (fault : Fault)
          → RefusesSequences input.command.source input.command.weighted (hierarchy_names input) input.sequences fault → ⊥
      no_sequences input is fault refused = (found_at input is).accepted fault
          ((sequences-alike input.command.source input.command.weighted known (hierarchy_names input) input.sequences (known_same input is) fault).1 refused)

      pub names_same : (input : Input) → HoldsData holds c input → HoldSame names (known_names input)
      names_same input is name = (
        (λ inside. elim (((found_at input is).held name).0 inside) [
          | inl front ↦ Contains-front (hierarchy_names input) _ name ((known_same input is name).0 front)
          | inr back ↦ Contains-back (hierarchy_names input) _ name back
        ]),
        (λ inside. ((found_at input is).held name).1 (elim (Contains-both (hierarchy_names input) _ name inside) [
          | inl front ↦ inl ((known_same input is name).1 front)
          | inr back ↦ inr back
        ])),
      )

      module _ (uses : List Use) (tree : Tree Item) (is_read : IsRead c.source uses tree) where
        unknown_at : (input : Input) → HoldsData holds c input → (fault : Fault)
            → IsUnknownIn (known_names input) input.command.source fault ↔ IsUnknown names uses fault
        unknown_at input is fault =
            let here : IsUnknownIn (known_names input) input.command.source fault ↔ IsUnknown (known_names input) uses fault =
            subst (λ (d : Command). IsUnknownIn (known_names input) d.source fault ↔ IsUnknown (known_names input) uses fault) is.same
            (is_read.unknown (known_names input) fault) in
            let alike = unknown-alike names (known_names input) uses (names_same input is) fault in
            ((λ p. alike.1 (here.0 p)), (λ p. here.1 (alike.0 p)))

        pub unknown-refused : (fault : Fault) → IsUnknown names uses fault → MayEndWith words holds (Err fault)
        unknown-refused fault unknown =
            let (u, inside, same) = unknown-use names [] uses fault unknown in
            data-refused fault
            (λ input is. inr (
              no_source input is,
              inr (
                (read_at input is).accepted,
                inr (no_sequences input is, (unknown_at input is fault).1 unknown),
              ),
            ))
            (λ bytes other told also. absurd (hierarchy-accepted bytes other told also))
            (inr (u, is_read.used u inside, same))
            (λ of_proof. (let none : IsOfKind Proof (Unknown u.column) = subst (IsOfKind Proof) same of_proof in absurd none))

        module _ (known_all : (fault : Fault) → IsUnknown names uses fault → ⊥) where
          -- where no name is unknown nothing of what is mined is refused
          pub data-accepted : AcceptsData holds c
          data-accepted input fault is (inl p) = no_source input is fault p
          data-accepted input fault is (inr (a, inl p)) = (read_at input is).accepted fault p
          data-accepted input fault is (inr (a, inr (b, inl p))) = no_sequences input is fault p
          data-accepted input fault is (inr (a, inr (b, inr (d, unknown)))) = known_all fault ((unknown_at input is fault).0 unknown)

          -- nor of what the rows are found in
          pub nothing-refused : (input : Input) → IsInput words holds input → (fault : Fault) → IsRowsRefusal input fault → ⊥
          nothing-refused input is fault (inl p) = data-accepted input fault (held input is) p
          nothing-refused input is fault (inr (a, p)) =
              tree-no-merge input.command.source (named_tree uses tree) input.command.threshold input.merged fault
              (subst (λ (d : Command). SaysTree d.source (named_tree uses tree)) (same_command input is) is_read.says) p

-- What follows from how a run ended

other_status : (s n : ℕ) → (s ≡ 3) ⊎ (s ≡ 4) → s ≡ n → (n ≡ 3 → ⊥) → (n ≡ 4 → ⊥) → ⊥
other_status s n (inl three) same not_three not_four = not_three (sym same ∙ three)
other_status s n (inr four) same not_three not_four = not_four (sym same ∙ four)

module _ (words : List (List ℕ)) (holds : List ℕ → Option (List ℕ)) where
  pub usage-ended : (outcome : Result (Option Work) Fault) → MayEndWith words holds outcome → status_of outcome ≡ 2 → IsUsage words
  usage-ended _ (done c told has asked accepts both ends) status = absurd (omega (arith, status))
  usage-ended _ (no_command usage) status = usage
  usage-ended _ (refused_source c fault is refused) status =
      absurd (other_status (fault_status fault) 2 (source-status c.source fault refused) status (λ e. omega (arith, e)) (λ e. omega (arith, e)))
  usage-ended _ (refused_file c fault has refused no_other malformed before) status =
      absurd (other_status (fault_status fault) 2 (files-status c fault malformed) status (λ e. omega (arith, e)) (λ e. omega (arith, e)))
  usage-ended _ (read_fault c file has names accepts before) status = absurd (omega (arith, status))
  usage-ended _ (write_fault c has accepts both accepted) status = absurd (omega (arith, status))
  usage-ended _ no_memory status = absurd (omega (arith, status))

  -- words of no command end so, unless memory ran out
  pub ended-usage : (outcome : Result (Option Work) Fault) → MayEndWith words holds outcome → IsUsage words → (status_of outcome ≡ 2) ⊎ (status_of outcome ≡ 7)
  ended-usage _ (done c told has asked accepts both ends) usage = absurd (IsUsage-excludes words c usage has.0)
  ended-usage _ (no_command is) usage = inl refl
  ended-usage _ (refused_source c fault is refused) usage = absurd (IsUsage-excludes words c usage is)
  ended-usage _ (refused_file c fault has refused no_other malformed before) usage = absurd (IsUsage-excludes words c usage has.0)
  ended-usage _ (read_fault c file has names accepts before) usage = absurd (IsUsage-excludes words c usage has.0)
  ended-usage _ (write_fault c has accepts both accepted) usage = absurd (IsUsage-excludes words c usage has.0)
  ended-usage _ no_memory usage = inr refl

  -- a command whose source is refused ends so, unless memory ran out
  pub ended-source : (outcome : Result (Option Work) Fault) → MayEndWith words holds outcome → (c : Command) (fault : Fault) → IsCommand words c
      → IsSourceRefusal c.source fault → (status_of outcome ≡ fault_status fault) ⊎ (status_of outcome ≡ 7)
  ended-source _ ended c fault is refused = by _ ended
    where
      contradicts : (d : Command) → HasSource words d → ⊥
      contradicts d has = has.1 fault (subst (λ (e : Command). IsSourceRefusal e.source fault) (IsCommand-unique words c d is has.0) refused)

      by : (outcome : Result (Option Work) Fault) → MayEndWith words holds outcome → (status_of outcome ≡ fault_status fault) ⊎ (status_of outcome ≡ 7)
      by _ (done d told has asked accepts both ends) = absurd (contradicts d has)
      by _ (no_command usage) = absurd (IsUsage-excludes words c usage is)
      by _ (refused_source d other is_d refused_d) =
          let here : IsSourceRefusal d.source fault = subst (λ (e : Command). IsSourceRefusal e.source fault) (IsCommand-unique words c d is is_d) refused in
          inl (ap fault_status (source-unique d.source other fault refused_d here))
      by _ (refused_file d other has refused_d no_other malformed before) = absurd (contradicts d has)
      by _ (read_fault d file has names accepts before) = absurd (contradicts d has)
      by _ (write_fault d has accepts both accepted) = absurd (contradicts d has)
      by _ no_memory = inr refl

  -- a hierarchy that is refused ends the run so, unless memory ran out or a fault of reading came
  pub ended-hierarchy : (outcome : Result (Option Work) Fault) → MayEndWith words holds outcome → (c : Command) (bytes : List ℕ) (fault : Fault) → HasSource words c
      → bytes_named holds c.hierarchy ≡ Some bytes → RefusesHierarchy c.source bytes fault
      → (status_of outcome ≡ fault_status fault) ⊎ (status_of outcome ≡ 7) ⊎ (status_of outcome ≡ 5)
  ended-hierarchy _ ended c bytes fault has told refused = by _ ended
    where
      accepted : (d : Command) → HasSource words d → AcceptsHierarchy holds d → ⊥
      accepted d has_d accepts =
          subst (AcceptsHierarchy holds) (IsCommand-unique words d c has_d.0 has.0) accepts bytes fault told refused

      by : (outcome : Result (Option Work) Fault) → MayEndWith words holds outcome
          → (status_of outcome ≡ fault_status fault) ⊎ (status_of outcome ≡ 7) ⊎ (status_of outcome ≡ 5)
      by _ (done d work has_d asked accepts both ends) = absurd (accepted d has_d accepts)
      by _ (no_command usage) = absurd (IsUsage-excludes words c usage has.0)
      by _ (refused_source d other is_d refused_d) =
          absurd (has.1 other (subst (λ (e : Command). IsSourceRefusal e.source other) (IsCommand-unique words d c is_d has.0) refused_d))
      by _ (refused_file d other has_d first no_other malformed before) =
          inl (ap fault_status (sym (subst (λ (e : Command). RefusesNoOther holds e other) (IsCommand-unique words d c has_d.0 has.0) no_other bytes fault told refused)))
      by _ (read_fault d file has_d names accepts before) = inr (inr refl)
      by _ (write_fault d has_d accepts both all) = absurd (accepted d has_d accepts)
      by _ no_memory = inr (inl refl)

  -- data that are refused end the run so, unless memory ran out or a fault of reading came
  pub ended-data : (outcome : Result (Option Work) Fault) → MayEndWith words holds outcome → (c : Command) (input : Input) (fault : Fault) → HasSource words c
      → merged_in c.source ≡ [] → HoldsData holds c input → IsDataRefusal input fault
      → (status_of outcome ≡ fault_status fault) ⊎ (status_of outcome ≡ 7) ⊎ (status_of outcome ≡ 5)
  ended-data _ ended c input fault has unmerged is refused = by _ ended
    where
      one : (d : Command) → IsCommand words d → d ≡ c
      one d said = IsCommand-unique words d c said has.0

      accepted : (d : Command) → HasSource words d → AcceptsData holds d → ⊥
      accepted d has_d accepts = subst (AcceptsData holds) (one d has_d.0) accepts input fault is refused

      by : (outcome : Result (Option Work) Fault) → MayEndWith words holds outcome
          → (status_of outcome ≡ fault_status fault) ⊎ (status_of outcome ≡ 7) ⊎ (status_of outcome ≡ 5)
      by _ (done d work has_d asked accepts both ends) = absurd (accepted d has_d both)
      by _ (no_command usage) = absurd (IsUsage-excludes words c usage has.0)
      by _ (refused_source d other is_d refused_d) =
          absurd (has.1 other (subst (λ (e : Command). IsSourceRefusal e.source other) (one d is_d) refused_d))
      by _ (refused_file d other has_d first no_other of_files before) = elim (of-proof d other of_files) [
        | inl of_proof ↦ absurd (accepted d has_d (before.proof of_proof))
        | inr none ↦
            let turn : ComesInTurn holds c other = subst (λ (e : Command). ComesInTurn holds e other) (one d has_d.0) before in
            inl (ap fault_status (data-unique input other fault (turn.other none unmerged input is) refused))
      ]
      by _ (read_fault d file has_d names accepts before) = inr (inr refl)
      by _ (write_fault d has_d accepts both all) = absurd (accepted d has_d both)
      by _ no_memory = inr (inl refl)

  module _ (input : Input) (is : IsInput words holds input) where
    -- what is malformed or beyond a limit is the first refusal
    pub refusal-ended : (outcome : Result (Option Work) Fault) → MayEndWith words holds outcome → (status_of outcome ≡ 3) ⊎ (status_of outcome ≡ 4)
        → (fault : Fault) × IsFirstRefusal input fault × (fault_status fault ≡ status_of outcome)
    refusal-ended _ (done c told has asked accepts both ends) (inl e) = absurd (omega (arith, e))
    refusal-ended _ (done c told has asked accepts both ends) (inr e) = absurd (omega (arith, e))
    refusal-ended _ (no_command usage) (inl e) = absurd (omega (arith, e))
    refusal-ended _ (no_command usage) (inr e) = absurd (omega (arith, e))
    refusal-ended _ (refused_source c fault is_c refused) status =
        (fault, inl (inl (inl (subst (λ (d : Command). IsSourceRefusal d.source fault) (IsCommand-unique words c input.command is_c is.said) refused))), refl)
    refusal-ended _ (refused_file c fault has refused no_other malformed before) status = (fault, refused input is, refl)
    refusal-ended _ (read_fault c file has names accepts before) (inl e) = absurd (omega (arith, e))
    refusal-ended _ (read_fault c file has names accepts before) (inr e) = absurd (omega (arith, e))
    refusal-ended _ (write_fault c has accepts both accepted) (inl e) = absurd (omega (arith, e))
    refusal-ended _ (write_fault c has accepts both accepted) (inr e) = absurd (omega (arith, e))
    refusal-ended _ no_memory (inl e) = absurd (omega (arith, e))
    refusal-ended _ no_memory (inr e) = absurd (omega (arith, e))

    -- the first refusal ends the run, unless memory ran out or a fault of reading came
    pub ended-refusal : (outcome : Result (Option Work) Fault) → MayEndWith words holds outcome → (fault : Fault) → IsFirstRefusal input fault
        → (status_of outcome ≡ fault_status fault) ⊎ (status_of outcome ≡ 7) ⊎ (status_of outcome ≡ 5)
    ended-refusal _ (done c told has asked accepts both ends) fault refused = absurd ((ends input is).0 fault refused)
    ended-refusal _ (no_command usage) fault refused = absurd (IsUsage-excludes words input.command usage is.said)
    ended-refusal _ (refused_source c other is_c refused_c) fault refused =
        let here : IsFirstRefusal input other =
        inl (inl (inl (subst (λ (d : Command). IsSourceRefusal d.source other) (IsCommand-unique words c input.command is_c is.said) refused_c))) in
        inl (ap fault_status (first-unique input other fault here refused))
    ended-refusal _ (refused_file c other has refused_c no_other malformed before) fault refused =
        inl (ap fault_status (first-unique input other fault (refused_c input is) refused))
    ended-refusal _ (read_fault c file has names accepts before) fault refused = inr (inr refl)
    ended-refusal _ (write_fault c has accepts both accepted) fault refused = absurd (accepted input is fault refused)
    ended-refusal _ no_memory fault refused = inr (inl refl)

    -- where nothing is refused the run is done, or a fault of reading or writing came, or memory ran out
    pub ended-accepted : (outcome : Result (Option Work) Fault) → MayEndWith words holds outcome → IsAccepted input
        → (status_of outcome ≡ 0) ⊎ (status_of outcome ≡ 5) ⊎ (status_of outcome ≡ 6) ⊎ (status_of outcome ≡ 7)
    ended-accepted _ (done c told has asked accepts both ends) all = inl refl
    ended-accepted _ (no_command usage) all = absurd (IsUsage-excludes words input.command usage is.said)
    ended-accepted _ (refused_source c fault is_c refused) all =
        absurd (all fault (inl (inl (inl (subst (λ (d : Command). IsSourceRefusal d.source fault) (IsCommand-unique words c input.command is_c is.said) refused)))))
    ended-accepted _ (refused_file c fault has refused no_other malformed before) all = absurd (all fault (refused input is))
    ended-accepted _ (read_fault c file has names accepts before) all = inr (inl refl)
    ended-accepted _ (write_fault c has accepts both accepted) all = inr (inr (inl refl))
    ended-accepted _ no_memory all = inr (inr (inr refl))

-- what holds where a run is done
pub if-done : (outcome : Result (Option Work) Fault) (P : Type 0) → OnOk outcome P → status_of outcome ≡ 0 → P
if-done (Ok x) P p status = p
if-done (Err Usage) P p status = absurd (omega (arith, status))
if-done (Err (BadToken column)) P p status = absurd (omega (arith, status))
if-done (Err (BadRepeat column)) P p status = absurd (omega (arith, status))
if-done (Err (Unexpected column)) P p status = absurd (omega (arith, status))
if-done (Err (Unknown column)) P p status = absurd (omega (arith, status))
if-done (Err (BadByte file line column)) P p status = absurd (omega (arith, status))
if-done (Err (BadWeight line column)) P p status = absurd (omega (arith, status))
if-done (Err (Cycle line)) P p status = absurd (omega (arith, status))
if-done (Err (BadRow file line)) P p status = absurd (omega (arith, status))
if-done (Err (BadProof line)) P p status = absurd (omega (arith, status))
if-done (Err ExprTooLong) P p status = absurd (omega (arith, status))
if-done (Err (RepeatLimit column)) P p status = absurd (omega (arith, status))
if-done (Err (TooDeep column)) P p status = absurd (omega (arith, status))
if-done (Err (TooManyLeaves count)) P p status = absurd (omega (arith, status))
if-done (Err (TooLarge file)) P p status = absurd (omega (arith, status))
if-done (Err (NameTooLong file line column)) P p status = absurd (omega (arith, status))
if-done (Err (TooManyItems file line)) P p status = absurd (omega (arith, status))
if-done (Err TooManyAncestors) P p status = absurd (omega (arith, status))
if-done (Err (TooManySequences line)) P p status = absurd (omega (arith, status))
if-done (Err (SequenceTooLong line)) P p status = absurd (omega (arith, status))
if-done (Err (Read file)) P p status = absurd (omega (arith, status))
if-done (Err Write) P p status = absurd (omega (arith, status))
if-done (Err NoMemory) P p status = absurd (omega (arith, status))

-- what holds where a file was not read
pub if-unread : (outcome : Result (Option Work) Fault) (P : Type 0) → ((file : Which) → outcome ≡ Err (Read file) → P) → status_of outcome ≡ 5 → P
if-unread (Ok x) P p status = absurd (omega (arith, status))
if-unread (Err Usage) P p status = absurd (omega (arith, status))
if-unread (Err (BadToken column)) P p status = absurd (omega (arith, status))
if-unread (Err (BadRepeat column)) P p status = absurd (omega (arith, status))
if-unread (Err (Unexpected column)) P p status = absurd (omega (arith, status))
if-unread (Err (Unknown column)) P p status = absurd (omega (arith, status))
if-unread (Err (BadByte file line column)) P p status = absurd (omega (arith, status))
if-unread (Err (BadWeight line column)) P p status = absurd (omega (arith, status))
if-unread (Err (Cycle line)) P p status = absurd (omega (arith, status))
if-unread (Err (BadRow file line)) P p status = absurd (omega (arith, status))
if-unread (Err (BadProof line)) P p status = absurd (omega (arith, status))
if-unread (Err ExprTooLong) P p status = absurd (omega (arith, status))
if-unread (Err (RepeatLimit column)) P p status = absurd (omega (arith, status))
if-unread (Err (TooDeep column)) P p status = absurd (omega (arith, status))
if-unread (Err (TooManyLeaves count)) P p status = absurd (omega (arith, status))
if-unread (Err (TooLarge file)) P p status = absurd (omega (arith, status))
if-unread (Err (NameTooLong file line column)) P p status = absurd (omega (arith, status))
if-unread (Err (TooManyItems file line)) P p status = absurd (omega (arith, status))
if-unread (Err TooManyAncestors) P p status = absurd (omega (arith, status))
if-unread (Err (TooManySequences line)) P p status = absurd (omega (arith, status))
if-unread (Err (SequenceTooLong line)) P p status = absurd (omega (arith, status))
if-unread (Err (Read file)) P p status = p file refl
if-unread (Err Write) P p status = absurd (omega (arith, status))
if-unread (Err NoMemory) P p status = absurd (omega (arith, status))

-- what holds where the answer was not written
pub if-unwritten : (outcome : Result (Option Work) Fault) (P : Type 0) → (outcome ≡ Err Write → P) → status_of outcome ≡ 6 → P
if-unwritten (Ok x) P p status = absurd (omega (arith, status))
if-unwritten (Err Usage) P p status = absurd (omega (arith, status))
if-unwritten (Err (BadToken column)) P p status = absurd (omega (arith, status))
if-unwritten (Err (BadRepeat column)) P p status = absurd (omega (arith, status))
if-unwritten (Err (Unexpected column)) P p status = absurd (omega (arith, status))
if-unwritten (Err (Unknown column)) P p status = absurd (omega (arith, status))
if-unwritten (Err (BadByte file line column)) P p status = absurd (omega (arith, status))
if-unwritten (Err (BadWeight line column)) P p status = absurd (omega (arith, status))
if-unwritten (Err (Cycle line)) P p status = absurd (omega (arith, status))
if-unwritten (Err (BadRow file line)) P p status = absurd (omega (arith, status))
if-unwritten (Err (BadProof line)) P p status = absurd (omega (arith, status))
if-unwritten (Err ExprTooLong) P p status = absurd (omega (arith, status))
if-unwritten (Err (RepeatLimit column)) P p status = absurd (omega (arith, status))
if-unwritten (Err (TooDeep column)) P p status = absurd (omega (arith, status))
if-unwritten (Err (TooManyLeaves count)) P p status = absurd (omega (arith, status))
if-unwritten (Err (TooLarge file)) P p status = absurd (omega (arith, status))
if-unwritten (Err (NameTooLong file line column)) P p status = absurd (omega (arith, status))
if-unwritten (Err (TooManyItems file line)) P p status = absurd (omega (arith, status))
if-unwritten (Err TooManyAncestors) P p status = absurd (omega (arith, status))
if-unwritten (Err (TooManySequences line)) P p status = absurd (omega (arith, status))
if-unwritten (Err (SequenceTooLong line)) P p status = absurd (omega (arith, status))
if-unwritten (Err (Read file)) P p status = absurd (omega (arith, status))
if-unwritten (Err Write) P p status = p refl
if-unwritten (Err NoMemory) P p status = absurd (omega (arith, status))

-- what holds where a run is not done and the answer was not begun
pub if-failed : (outcome : Result (Option Work) Fault) (P : Type 0) → OnErr outcome (outcome ≢ Err Write → P) → status_of outcome ≢ 0 → status_of outcome ≢ 6 → P
if-failed (Ok x) P p not_zero not_six = absurd (not_zero refl)
if-failed (Err fault) P p not_zero not_six = p (λ same. not_six (ap status_of same))

-- of words that need no file the command needs none
pub needs-none : (words : List (List ℕ)) (c : Command) → IsCommand words c
    → IsUsage words ⊎ ((d : Command) × IsCommand words d × NeedsNoFile d.source) → NeedsNoFile c.source
needs-none words c is (inl usage) = absurd (IsUsage-excludes words c usage is)
needs-none words c is (inr (d, is_d, needs)) = subst (λ (e : Command). NeedsNoFile e.source) (IsCommand-unique words d c is_d is) needs

-- where a run is done, or the answer was not written, nothing is refused
pub accepted-ended : (words : List (List ℕ)) (holds : List ℕ → Option (List ℕ)) (input : Input) → IsInput words holds input
    → (outcome : Result (Option Work) Fault) → MayEndWith words holds outcome → (status_of outcome ≡ 0) ⊎ (status_of outcome ≡ 6) → IsAccepted input
accepted-ended words holds input is _ (done c told has asked accepts both ends) status = (ends input is).0
accepted-ended words holds input is _ (no_command usage) (inl e) = absurd (omega (arith, e))
accepted-ended words holds input is _ (no_command usage) (inr e) = absurd (omega (arith, e))
accepted-ended words holds input is _ (refused_source c fault is_c refused) (inl e) =
    absurd (other_status (fault_status fault) 0 (source-status c.source fault refused) e (λ p. omega (arith, p)) (λ p. omega (arith, p)))
accepted-ended words holds input is _ (refused_source c fault is_c refused) (inr e) =
    absurd (other_status (fault_status fault) 6 (source-status c.source fault refused) e (λ p. omega (arith, p)) (λ p. omega (arith, p)))
accepted-ended words holds input is _ (refused_file c fault has refused no_other of_files before) (inl e) =
    absurd (other_status (fault_status fault) 0 (files-status c fault of_files) e (λ p. omega (arith, p)) (λ p. omega (arith, p)))
accepted-ended words holds input is _ (refused_file c fault has refused no_other of_files before) (inr e) =
    absurd (other_status (fault_status fault) 6 (files-status c fault of_files) e (λ p. omega (arith, p)) (λ p. omega (arith, p)))
accepted-ended words holds input is _ (read_fault c file has names accepts before) (inl e) = absurd (omega (arith, e))
accepted-ended words holds input is _ (read_fault c file has names accepts before) (inr e) = absurd (omega (arith, e))
accepted-ended words holds input is _ (write_fault c has accepts both accepted) status = accepted input is
accepted-ended words holds input is _ no_memory (inl e) = absurd (omega (arith, e))
accepted-ended words holds input is _ no_memory (inr e) = absurd (omega (arith, e))
