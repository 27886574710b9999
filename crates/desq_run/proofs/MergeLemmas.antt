-- How a run that merges ends.
use Rattle.std.proofs.Common.{◌≡◌, ◌≢◌, ◌⊎◌, ◌∙◌, inl, inr, ℕ, ◌+◌, ◌-◌, true, Option, Some, None, Err, List, [], ◌∷◌, ◌++◌, map, length, refl, sym, ap, subst, arith}
use Rattle.std.specs.List.{slice_get}
use Rattle.std.proofs.lemmas.Option.{none-some}
use Rattle.mine_model.specs.declared.row.Row.{Row}
use Rattle.mine_model.specs.declared.fault.Fault.{Fault}
use Rattle.mine_model.specs.declared.fault.Fault.TheVariants.{BadByte, BadRow, TooLarge, NameTooLong, TooManyItems, Read, NoMemory}
use Rattle.mine_model.specs.declared.fault.Which.{Which}
use Rattle.mine_model.specs.declared.fault.Which.TheVariants.{Merged, Proof}
use Rattle.mine_model.specs.declared.mined.Work.{Work}
use Rattle.mine_model.specs.Names.{named_row}
use Rattle.split_merge.specs.declared.faults.MergeFault.{MergeFault}
use Rattle.split_merge.specs.declared.faults.MergeFault.TheVariants as merges
use Rattle.split_merge.specs.Merging.{IsMerge}
use Rattle.command_line.specs.Options.{rows}
use Rattle.command_line.specs.declared.share.Share.{Share}
use Rattle.command_line.specs.Words.{Source, merge, Command, IsCommand, GivesSource, GivesShare, GivesMerge, merged_in}
use Rattle.desq_run.specs.Sources.{IsSourceRefusal}
use Rattle.desq_run.specs.Said.{RefusesHierarchy}
use Rattle.desq_run.specs.Merged.{fault_in, RefusesMerged}
use Rattle.desq_run.specs.Merging.{WereMerged, IsCutShort}
use Rattle.desq_run.specs.Ends.{Input, IsInput, AreRowsTo, HasSource, NamesKind, IsOfKind, AcceptsHierarchy, NeedsNoFile, MayEndWith}
use Rattle.desq_run.specs.Ends as ends
use Rattle.desq_run.specs.Inputs.{IsMined, HasRanges}
use Rattle.desq_run.proofs.EndLemmas.{kind-same, same_command, no-data}
use Rattle.desq_run.proofs.MergedLemmas.{merged-accepted, merged-rows, cut-refused, told-length}

-- the name behind the first ones
name-behind : (first : List (List ℕ)) (name : List ℕ) (later : List (List ℕ)) → slice_get (first ++ name ∷ later) (length first) ≡ Some name
name-behind [] name later = refl
name-behind (n ∷ first) name later = name-behind first name later

no_names : (first : List (List ℕ)) (name : List ℕ) (later : List (List ℕ)) → first ++ name ∷ later ≡ [] → ⊥
no_names [] name later none = cc
no_names (n ∷ first) name later none = cc

-- The end of a merge

module _ (words : List (List ℕ)) (holds : List ℕ → Option (List ℕ)) (c : Command) (said : IsCommand words c) (names : List (List ℕ))
    (own : c.source ≡ merge names) where
  has : HasSource words c
  has = (said, (λ fault refused. subst (λ source. IsSourceRefusal source fault) own refused))

  accepts : AcceptsHierarchy holds c
  accepts bytes fault told refused = subst (λ source. RefusesHierarchy source bytes fault) own refused

  module _ (input : Input) (is : IsInput words holds input) where
    source_is : input.command.source ≡ merge names
    source_is = sym (ap (λ (d : Command). d.source) (same_command words holds c has input is)) ∙ own

    files_told : map holds names ≡ map (λ bytes. Some bytes) input.merged
    files_told = subst (λ source. map holds (merged_in source) ≡ map (λ bytes. Some bytes) input.merged) source_is is.merged

    merged_here : (fault : Fault) → RefusesMerged input.command.source input.command.threshold input.merged fault → RefusesMerged (merge names) c.threshold input.merged fault
    merged_here fault refused =
        subst (λ (d : Command). RefusesMerged (merge names) d.threshold input.merged fault) (sym (same_command words holds c has input is))
        (subst (λ source. RefusesMerged source input.command.threshold input.merged fault) source_is refused)

    merged_there : (fault : Fault) → RefusesMerged (merge names) c.threshold input.merged fault → RefusesMerged input.command.source input.command.threshold input.merged fault
    merged_there fault refused =
        subst (λ source. RefusesMerged source input.command.threshold input.merged fault) (sym source_is)
        (subst (λ (d : Command). RefusesMerged (merge names) d.threshold input.merged fault) (same_command words holds c has input is) refused)

  gives : GivesMerge (rows words) names
  gives = subst (GivesSource (rows words)) own said.says.source

  no_share : c.share ≡ None
  no_share = by c.share said.says.mode.shared
    where
      by : (share : Option Share) → GivesShare (rows words) share → share ≡ None
      by None given = refl
      by (Some share) (text, given, is_text) = absurd (none-some text (sym gives.alone.split ∙ given))

  no_stats : c.stats ≡ true → ⊥
  no_stats asked = gives.alone.stats (said.says.stats.0 asked)

  -- what was merged is found
  pub merge-mined : (mined_names : List (List ℕ)) (found : List Row) (work : Work) → WereMerged c.threshold holds names (map (named_row mined_names) found)
      → IsMined words holds c mined_names found work
  merge-mined mined_names found work were = record {
    source = has;
    hierarchy = accepts;
    mined = λ input fault is refused. no-data input names (sym (ap (λ (d : Command). d.source) is.same) ∙ own) fault refused;
    accepted = λ input is fault refused. elim refused [
      | inl mined ↦ no-data input names (source_is input is) fault mined
      | inr last ↦
          merged-accepted c.threshold holds names input.merged (files_told input is) names (map (named_row mined_names) found) fault were
          (merged_here input is fault last.1)
    ];
    answer = λ input is.
        let same : c ≡ input.command = same_command words holds c has input is in
        let rows_here : IsMerge c.threshold input.merged (map (named_row mined_names) found) =
        merged-rows c.threshold holds names input.merged (files_told input is) (map (named_row mined_names) found) were in
        subst (λ (d : Command). AreRowsTo d.share d.source input (map (named_row mined_names) found)) same
        (subst (λ share. AreRowsTo share c.source input (map (named_row mined_names) found)) (sym no_share)
        (subst (λ source. AreRowsTo None source input (map (named_row mined_names) found)) (sym own)
        (subst (λ (d : Command). IsMerge d.threshold input.merged (map (named_row mined_names) found)) same rows_here)));
    work = λ asked input is. absurd (no_stats asked);
  }

  module _ (fault : Fault) (cut : IsCutShort c.threshold holds names fault) where
    abbrev number : ℕ
    number = length cut.before + 1

    file_named : NamesKind c (Merged number)
    file_named = (
      omega arith,
      (
        cut.name,
        (let behind : slice_get names (length cut.before) ≡ Some cut.name =
            subst (λ n. slice_get names n ≡ Some cut.name) (sym (told-length c.threshold holds cut.first cut.before cut.told))
            (subst (λ l. slice_get l (length cut.first) ≡ Some cut.name) (sym cut.cut) (name-behind cut.first cut.name cut.later)) in
            let at : length cut.before + 1 - 1 ≡ length cut.before = omega arith in
            subst (λ source. slice_get (merged_in source) (length cut.before + 1 - 1) ≡ Some cut.name) (sym own)
            (subst (λ n. slice_get names n ≡ Some cut.name) (sym at) behind)),
      ),
    )

    refused-end : ((file : Which) → fault ≢ Read file) → fault ≢ NoMemory → IsOfKind (Merged number) fault → MayEndWith words holds (Err fault)
    refused-end read memory of_kind = ends.refused_file c fault has
        (λ input is. inl (inr (
          no-data input names (source_is input is),
          merged_there input is fault (cut-refused c.threshold holds names input.merged (files_told input is) names fault cut read memory),
        )))
        (λ bytes other told also. absurd (accepts bytes other told also)) (inl (Merged number, file_named, of_kind))
        (record {
          proof = λ of_proof. (let same : Merged number ≡ Proof = kind-same (Merged number) Proof fault of_kind of_proof in absurd cc);
          other = λ none unmerged. absurd (no_names cut.first cut.name cut.later (sym cut.cut ∙ ap merged_in (sym own) ∙ unmerged));
        })

    -- a fault of the file's text or rows
    of_text : (why : Fault) → fault ≡ why → ((file : Which) → why ≢ Read file) → why ≢ NoMemory → IsOfKind (Merged number) why → MayEndWith words holds (Err fault)
    of_text why same read memory of_kind =
        refused-end (λ file e. read file (sym same ∙ e)) (λ e. memory (sym same ∙ e)) (subst (IsOfKind (Merged number)) (sym same) of_kind)

    by_cause : (why : MergeFault) → fault ≡ fault_in (Merged number) why → MayEndWith words holds (Err fault)
    by_cause merges.ReadFault same =
        subst (λ fault. MayEndWith words holds (Err fault)) (sym same) (ends.read_fault c (Merged number) has file_named (λ other. accepts) (λ same. cc))
    by_cause merges.NoMemory same = subst (λ fault. MayEndWith words holds (Err fault)) (sym same) ends.no_memory
    by_cause merges.TooLarge same = of_text (TooLarge (Merged number)) same (λ file e. cc) (λ e. cc) refl
    by_cause (merges.BadByte line column) same = of_text (BadByte (Merged number) line column) same (λ file e. cc) (λ e. cc) refl
    by_cause (merges.NameTooLong line column) same = of_text (NameTooLong (Merged number) line column) same (λ file e. cc) (λ e. cc) refl
    by_cause (merges.BadRow line) same = of_text (BadRow (Merged number) line) same (λ file e. cc) (λ e. cc) (refl, (number, refl))
    by_cause (merges.TooManyItems line) same = of_text (TooManyItems (Merged number) line) same (λ file e. cc) (λ e. cc) (refl, (λ e. cc))

    pub cut-ends : MayEndWith words holds (Err fault)
    cut-ends = by_cause cut.why cut.is

  -- want of memory, or a file that was refused or not read
  pub merge-ends : (fault : Fault) → (fault ≡ NoMemory) ⊎ IsCutShort c.threshold holds names fault → MayEndWith words holds (Err fault)
  merge-ends fault (inl memory) = subst (λ fault. MayEndWith words holds (Err fault)) (sym memory) ends.no_memory
  merge-ends fault (inr cut) = cut-ends fault cut

-- a merge names files
pub merge-needs : (source : Source) (names : List (List ℕ)) → source ≡ merge names → HasRanges source → NeedsNoFile source → ⊥
merge-needs source names own ranges needs =
    let range : HasRanges (merge names) = subst HasRanges own ranges in
    elim (subst NeedsNoFile own needs) [
      | inl refused ↦ refused.1
      | inr none ↦ (let empty : length names ≡ 0 = ap length none.1 in omega (arith, range.0, empty))
    ]
