-- How reading a file fails.
use Rattle.std.proofs.Common.{◌≡◌, ◌≢◌, inl, inr, ℕ, ◌≤◌, Bool, List, [], Option, Some, None, IfSome, IsSome, IfErr, Result, Ok, Err, true≢false, refl, sym, ap, ◌∙◌, subst, arith}
use Rattle.std.proofs.lemmas.Option.{none-some}
use Rattle.text_ports.specs.Faults.{Rose}
use Rattle.mine_model.specs.declared.item.Item.{Item}
use Rattle.mine_model.specs.Support.{Sequence}
use Rattle.mine_model.specs.declared.fault.Fault.{Fault}
use Rattle.mine_model.specs.declared.fault.Fault.TheVariants.{Read, Write, NoMemory}
use Rattle.mine_model.specs.declared.fault.Which.{Which}
use Rattle.mine_model.specs.declared.fault.Which.TheVariants.{Hierarchy, Sequences, Proof}
use Rattle.sequence_reader.specs.declared.sequence_fault.SequenceFault.{SequenceFault}
use Rattle.sequence_reader.specs.declared.sequence_fault.SequenceFault.TheVariants as sequences
use Rattle.item_hierarchy.specs.declared.hierarchy_fault.HierarchyFault.{HierarchyFault}
use Rattle.item_hierarchy.specs.declared.hierarchy_fault.HierarchyFault.TheVariants as hierarchy
use Rattle.item_hierarchy.specs.declared.hierarchy_fault.CloseFault.{CloseFault}
use Rattle.item_hierarchy.specs.declared.hierarchy_fault.CloseFault.TheVariants as close
use Rattle.sequence_reader.specs.Faults.{fault_of_sequences}
use Rattle.item_hierarchy.specs.Faults.{fault_of_hierarchy, fault_of_close}
use Rattle.item_hierarchy.specs.Edges.{OrderedRows}
use Rattle.item_hierarchy.specs.Refusing.{IsReadRefusal}
use Rattle.mine_model.specs.Refusal.{IsHierarchyRefusal, IsSequencesRefusal}
use Rattle.mine_model.specs.Status.{fault_status}
use Rattle.mine_model.specs.Ancestry.{Ancestry}
use Rattle.command_line.specs.Words.{Command, Source, read, embed, make, merge, file_of}
use Rattle.desq_run.specs.Said.{RefusesHierarchy, RefusesSequences}
use Rattle.desq_run.specs.Ends.{bytes_named, HasSource, NamesKind, IsOfKind, MayEndWith}
use Rattle.desq_run.specs.Ends as ends
use Rattle.desq_run.specs.Inputs.{FailsBy, refused, failed, no_memory, FailsInTurn, IsClosureOf, RefusesRows, AreRowsOf, IsHierarchyOf, IsHierarchySaid, IsDatabaseOf, IsDatabaseSaid}
use Rattle.desq_run.proofs.ReadLemmas.{no-refusal}
use Rattle.desq_run.proofs.EndLemmas.{kind-same, hierarchy-refused, sequences-refused, hierarchy-accepted}

-- a refusal of the text and names of a hierarchy file is its first refusal
whole : (told : Option (List ℕ)) (fault : Fault) → IfSome told (λ bytes. IsReadRefusal [] bytes fault) → IfSome told (λ bytes. IsHierarchyRefusal bytes fault)
whole None fault is = tt
whole (Some bytes) fault (inl large) = inl large
whole (Some bytes) fault (inr (a, among)) = inr (a, inl among)

-- a count that rose later rose
pub Rose-later : (a b c : ℕ) → a ≤ b → Rose b c → Rose a c
Rose-later a b c before (inl less) = inl (omega (arith, before, less))
Rose-later a b c before (inr full) = inr full

module _ (told : Option (List ℕ)) (weighted : Bool) (known : List (List ℕ)) (Faulty : Type 0) where
  abbrev Fails : Fault → Type 0
  Fails = FailsBy told (IsSequencesRefusal weighted known) Sequences (Unit {0}) Faulty

  -- how reading the sequences fails
  pub sequences-fail : (fault : SequenceFault)
      → (fault ≢ sequences.ReadFault → fault ≢ sequences.NoMemory
      → IfSome told (λ bytes. IsSequencesRefusal weighted known bytes (fault_of_sequences fault)))
      → (fault ≡ sequences.ReadFault → Faulty) → Fails (fault_of_sequences fault)
  sequences-fail sequences.ReadFault refused_by fails = failed tt (fails refl)
  sequences-fail sequences.TooLarge refused_by fails = refused _ tt (refused_by (λ e. cc) (λ e. cc)) refl
  sequences-fail (sequences.BadByte line column) refused_by fails = refused _ tt (refused_by (λ e. cc) (λ e. cc)) refl
  sequences-fail (sequences.NameTooLong line column) refused_by fails = refused _ tt (refused_by (λ e. cc) (λ e. cc)) refl
  sequences-fail (sequences.TooManySequences line) refused_by fails = refused _ tt (refused_by (λ e. cc) (λ e. cc)) refl
  sequences-fail (sequences.BadWeight line column) refused_by fails = refused _ tt (refused_by (λ e. cc) (λ e. cc)) refl
  sequences-fail (sequences.TooLong line) refused_by fails = refused _ tt (refused_by (λ e. cc) (λ e. cc)) refl
  sequences-fail (sequences.TooManyItems line) refused_by fails = refused _ tt (refused_by (λ e. cc) (λ e. cc)) (refl, (λ e. cc))
  sequences-fail sequences.NoMemory refused_by fails = no_memory

-- no refusal is a fault of reading
no_read : (kind : Which) (fault : Fault) (file : Which) → IsOfKind kind fault → fault ≡ Read file → ⊥
no_read kind fault file of_kind same = let none : IsOfKind kind (Read file) = subst (IsOfKind kind) same of_kind in none

pub memory≢read : (file : Which) → NoMemory ≡ Read file → ⊥
memory≢read file same = let e : fault_status NoMemory ≡ fault_status (Read file) = ap fault_status same in omega (arith, e)

pub memory≢write : NoMemory ≡ Write → ⊥
memory≢write same = let e : fault_status NoMemory ≡ fault_status Write = ap fault_status same in omega (arith, e)

-- a fault of reading was counted
pub read-faulty : (told : Option (List ℕ)) (Refused : List ℕ → Fault → Type 0) (kind : Which) (Named Faulty : Type 0) (fault : Fault)
    → FailsBy told Refused kind Named Faulty fault → (file : Which) → fault ≡ Read file → Faulty
read-faulty told Refused kind Named Faulty _ (refused fault named is of_kind) file same = absurd (no_read kind fault file of_kind same)
read-faulty told Refused kind Named Faulty _ (failed named faulty) file same = faulty
read-faulty told Refused kind Named Faulty _ no_memory file same = absurd (memory≢read file same)

-- no failure of reading is one of writing
pub no-write : (told : Option (List ℕ)) (Refused : List ℕ → Fault → Type 0) (kind : Which) (Named Faulty : Type 0) (fault : Fault)
    → FailsBy told Refused kind Named Faulty fault → fault ≡ Write → ⊥
no-write told Refused kind Named Faulty _ (refused fault named is of_kind) same =
    let none : IsOfKind kind Write = subst (IsOfKind kind) same of_kind in none
no-write told Refused kind Named Faulty _ (failed named faulty) same = let e : fault_status (Read kind) ≡ fault_status Write = ap fault_status same in omega (arith, e)
no-write told Refused kind Named Faulty _ no_memory same = let e : fault_status NoMemory ≡ fault_status Write = ap fault_status same in omega (arith, e)

named-kind : (c : Command) → IsSome c.hierarchy → NamesKind c Hierarchy
named-kind c some = by c.hierarchy some refl
  where
    by : (o : Option (List ℕ)) → IsSome o → c.hierarchy ≡ o → NamesKind c Hierarchy
    by None none same = absurd (true≢false (sym none))
    by (Some name) is same = (name, same)

-- what is read of files is what a source with a file says
module _ (told : Option (List ℕ)) (kind : Which) (Named Faulty : Type 0) (fault : Fault) where
  pub hierarchy-fails : (source : Source) (file : List ℕ) → file_of source ≡ Some file
      → FailsBy told IsHierarchyRefusal kind Named Faulty fault → FailsBy told (RefusesHierarchy source) kind Named Faulty fault
  hierarchy-fails (read expression name) file has fails = fails
  hierarchy-fails (embed rule name) file has fails = fails
  hierarchy-fails (make count expression) file has fails = absurd (none-some file has)
  hierarchy-fails (merge files) file has fails = absurd (none-some file has)

  pub sequences-fails : (weighted : Bool) (known : List (List ℕ)) (source : Source) (file : List ℕ) → file_of source ≡ Some file
      → FailsBy told (IsSequencesRefusal weighted known) kind Named Faulty fault → FailsBy told (RefusesSequences source weighted known) kind Named Faulty fault
  sequences-fails weighted known (read expression name) file has fails = fails
  sequences-fails weighted known (embed rule name) file has fails = fails
  sequences-fails weighted known (make count expression) file has fails = absurd (none-some file has)
  sequences-fails weighted known (merge files) file has fails = absurd (none-some file has)

pub hierarchy-said : (told : Option (List ℕ)) (names : List (List ℕ)) (h : Ancestry) (source : Source) (file : List ℕ) → file_of source ≡ Some file
    → IfSome told (λ bytes. IsHierarchyOf bytes names h) → IfSome told (λ bytes. IsHierarchySaid source bytes names h)
hierarchy-said told names h (read expression name) file has is = is
hierarchy-said told names h (embed rule name) file has is = is
hierarchy-said told names h (make count expression) file has is = absurd (none-some file has)
hierarchy-said told names h (merge files) file has is = absurd (none-some file has)

pub sequences-said : (told : Option (List ℕ)) (weighted : Bool) (known names : List (List ℕ)) (db : List (Sequence Item)) (source : Source) (file : List ℕ) → file_of source ≡ Some file
    → IfSome told (λ bytes. IsDatabaseOf weighted bytes known names db) → IfSome told (λ bytes. IsDatabaseSaid source weighted bytes known names db)
sequences-said told weighted known names db (read expression name) file has is = is
sequences-said told weighted known names db (embed rule name) file has is = is
sequences-said told weighted known names db (make count expression) file has is = absurd (none-some file has)
sequences-said told weighted known names db (merge files) file has is = absurd (none-some file has)

module _ (words : List (List ℕ)) (holds : List ℕ → Option (List ℕ)) (c : Command) (has : HasSource words c) (Faulty : Type 0) where
  -- how a run ends where reading the hierarchy fails
  pub hierarchy-ends : (fault : Fault) → FailsBy (bytes_named holds c.hierarchy) (RefusesHierarchy c.source) Hierarchy (IsSome c.hierarchy) Faulty fault
      → MayEndWith words holds (Err fault)
  hierarchy-ends _ (refused fault named is of_kind) =
      hierarchy-refused words holds c has fault is (inl (Hierarchy, named-kind c named, of_kind))
      (λ of_proof. (let same : Hierarchy ≡ Proof = kind-same Hierarchy Proof fault of_kind of_proof in cc))
  hierarchy-ends _ (failed named faulty) = ends.read_fault c Hierarchy has (named-kind c named) (λ same. cc) (λ same. cc)
  hierarchy-ends _ no_memory = ends.no_memory

  -- how a run ends where reading the sequences fails
  pub sequences-ends : (known : List (List ℕ)) (h : Ancestry) → IfSome (bytes_named holds c.hierarchy) (λ bytes. IsHierarchySaid c.source bytes known h)
      → (file : List ℕ) → file_of c.source ≡ Some file
      → (fault : Fault) → FailsBy (bytes_named holds (file_of c.source)) (RefusesSequences c.source c.weighted known) Sequences (Unit {0}) Faulty fault → MayEndWith words holds (Err fault)
  sequences-ends known h found file here _ (refused fault named is of_kind) =
      sequences-refused words holds c has known h found fault is (inl (Sequences, (file, here), of_kind))
      (λ of_proof. (let same : Sequences ≡ Proof = kind-same Sequences Proof fault of_kind of_proof in cc))
  sequences-ends known h found file here _ (failed named faulty) =
      ends.read_fault c Sequences has (file, here) (λ same. hierarchy-accepted words holds c has known h found) (λ same. cc)
  sequences-ends known h found file here _ no_memory = ends.no_memory

module _ (told : Option (List ℕ)) (Faulty : Type 0) where
  abbrev FailsHierarchy : Fault → Type 0
  FailsHierarchy = FailsBy told IsHierarchyRefusal Hierarchy (Unit {0}) Faulty

  -- how reading the rows of the hierarchy fails
  pub rows-fail : (fault : HierarchyFault)
      → (fault ≢ hierarchy.ReadFault → fault ≢ hierarchy.NoMemory → IfSome told (λ bytes. IsReadRefusal [] bytes (fault_of_hierarchy fault)))
      → (fault ≡ hierarchy.ReadFault → Faulty) → FailsHierarchy (fault_of_hierarchy fault)
  rows-fail hierarchy.ReadFault refused_by fails = failed tt (fails refl)
  rows-fail hierarchy.TooLarge refused_by fails = refused _ tt (whole told _ (refused_by (λ e. cc) (λ e. cc))) refl
  rows-fail (hierarchy.BadByte line column) refused_by fails = refused _ tt (whole told _ (refused_by (λ e. cc) (λ e. cc))) refl
  rows-fail (hierarchy.NameTooLong line column) refused_by fails = refused _ tt (whole told _ (refused_by (λ e. cc) (λ e. cc))) refl
  rows-fail (hierarchy.TooManyItems line) refused_by fails = refused _ tt (whole told _ (refused_by (λ e. cc) (λ e. cc))) (refl, (λ e. cc))
  rows-fail hierarchy.NoMemory refused_by fails = no_memory

  -- how closing the rows of the hierarchy fails
  pub close-fail : (fault : CloseFault) → (fault ≢ close.NoMemory → IfSome told (λ bytes. IsHierarchyRefusal bytes (fault_of_close fault)))
      → FailsHierarchy (fault_of_close fault)
  close-fail (close.Cycle line) refused_by = refused _ tt (refused_by (λ e. cc)) refl
  close-fail close.TooManyAncestors refused_by = refused _ tt (refused_by (λ e. cc)) refl
  close-fail close.NoMemory refused_by = no_memory

  -- where a file is named
  pub named-fail : (fault : Fault) → FailsHierarchy fault → (Named : Type 0) → Named → FailsBy told IsHierarchyRefusal Hierarchy Named Faulty fault
  named-fail _ (refused fault named is of_kind) Named now = refused fault now is of_kind
  named-fail _ (failed named faulty) Named now = failed now faulty
  named-fail _ no_memory Named now = no_memory

  pub all-named : {T : Type 0} (r : Result T Fault) → IfErr r FailsHierarchy → (Named : Type 0) → Named
      → IfErr r (FailsBy told IsHierarchyRefusal Hierarchy Named Faulty)
  all-named (Ok x) fails Named now = tt
  all-named (Err fault) fails Named now = named-fail fault fails Named now

-- the hierarchy of the rows of the file is that of the file
pub closes-told : (told : Option (List ℕ)) (known : List (List ℕ)) (rows : Option OrderedRows) → IfSome told (λ bytes. AreRowsOf bytes known rows)
    → (h : Ancestry) → IsClosureOf rows h → IfSome told (λ bytes. IsHierarchyOf bytes known h)
closes-told None known rows are h closes = tt
closes-told (Some bytes) known rows are h closes = are.closes h closes

refuses_told : (told : Option (List ℕ)) (known : List (List ℕ)) (rows : Option OrderedRows) → IfSome told (λ bytes. AreRowsOf bytes known rows)
    → (fault : CloseFault) → RefusesRows rows fault → fault ≢ close.NoMemory → IfSome told (λ bytes. IsHierarchyRefusal bytes (fault_of_close fault))
refuses_told None known rows are fault is other = tt
refuses_told (Some bytes) known rows are fault is other = are.refuses fault is other

-- how closing the rows of the file fails, where one is named
rows_refused : (holds : List ℕ → Option (List ℕ)) (name : Option (List ℕ)) (known : List (List ℕ)) (rows : Option OrderedRows) (Faulty : Type 0)
    → IfSome (bytes_named holds name) (λ bytes. AreRowsOf bytes known rows)
    → (fault : CloseFault) → RefusesRows rows fault → FailsBy (bytes_named holds name) IsHierarchyRefusal Hierarchy (IsSome name) Faulty (fault_of_close fault)
rows_refused holds None known rows Faulty are (close.Cycle line) is = absurd (no-refusal _ (are.refuses (close.Cycle line) is (λ e. cc)))
rows_refused holds None known rows Faulty are close.TooManyAncestors is = absurd (no-refusal _ (are.refuses close.TooManyAncestors is (λ e. cc)))
rows_refused holds None known rows Faulty are close.NoMemory is = no_memory
rows_refused holds (Some name) known rows Faulty are fault is =
    named-fail (holds name) Faulty (fault_of_close fault) (close-fail (holds name) Faulty fault (refuses_told (holds name) known rows are fault is)) (IsSome (Some name)) refl

-- no refusal of rows is a fault of reading or of writing
close_alone : (fault : CloseFault) → FailsBy None IsHierarchyRefusal Hierarchy (Unit {0}) ⊥ (fault_of_close fault)
close_alone fault = close-fail None ⊥ fault (λ other. tt)

module _ (rows : Option OrderedRows) (told : Option (List ℕ)) (Refused : List ℕ → Fault → Type 0) (kind : Which) (Named Faulty : Type 0) (fault : Fault) where
  pub turn-faulty : FailsInTurn rows (FailsBy told Refused kind Named Faulty) fault → (file : Which) → fault ≡ Read file → Faulty
  turn-faulty (inl (e, is, same)) file turned = absurd (read-faulty None IsHierarchyRefusal Hierarchy (Unit {0}) ⊥ (fault_of_close e) (close_alone e) file (sym same ∙ turned))
  turn-faulty (inr (h, closes, fails)) file turned = read-faulty told Refused kind Named Faulty fault fails file turned

  pub turn-no-write : FailsInTurn rows (FailsBy told Refused kind Named Faulty) fault → fault ≡ Write → ⊥
  turn-no-write (inl (e, is, same)) turned = no-write None IsHierarchyRefusal Hierarchy (Unit {0}) ⊥ (fault_of_close e) (close_alone e) (sym same ∙ turned)
  turn-no-write (inr (h, closes, fails)) turned = no-write told Refused kind Named Faulty fault fails turned

-- how a run ends where the rows of the hierarchy are refused, or reading the sequences behind them fails
module _ (words : List (List ℕ)) (holds : List ℕ → Option (List ℕ)) (c : Command) (has : HasSource words c) (Faulty : Type 0)
    (known : List (List ℕ)) (rows : Option OrderedRows) (are : IfSome (bytes_named holds c.hierarchy) (λ bytes. AreRowsOf bytes known rows))
    (file : List ℕ) (here : file_of c.source ≡ Some file) where
  pub turn-ends : (fault : Fault) → FailsInTurn rows (FailsBy (holds file) (IsSequencesRefusal c.weighted known) Sequences (Unit {0}) Faulty) fault
      → MayEndWith words holds (Err fault)
  turn-ends fault (inl (e, is, same)) =
      subst (λ f. MayEndWith words holds (Err f)) (sym same)
      (hierarchy-ends words holds c has Faulty (fault_of_close e)
      (hierarchy-fails (bytes_named holds c.hierarchy) Hierarchy (IsSome c.hierarchy) Faulty (fault_of_close e) c.source file here
      (rows_refused holds c.hierarchy known rows Faulty are e is)))
  turn-ends fault (inr (h, closes, fails)) =
      let found = hierarchy-said (bytes_named holds c.hierarchy) known h c.source file here (closes-told (bytes_named holds c.hierarchy) known rows are h closes) in
      let told : FailsBy (bytes_named holds (file_of c.source)) (IsSequencesRefusal c.weighted known) Sequences (Unit {0}) Faulty fault =
      subst (λ name. FailsBy (bytes_named holds name) (IsSequencesRefusal c.weighted known) Sequences (Unit {0}) Faulty fault) (sym here) fails in
      sequences-ends words holds c has Faulty known h found file here fault
      (sequences-fails (bytes_named holds (file_of c.source)) Sequences (Unit {0}) Faulty fault c.weighted known c.source file here told)
