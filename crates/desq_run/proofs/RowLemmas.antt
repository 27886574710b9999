-- The rows that were found, in order, and what they say of the input.
use Rattle.std.proofs.Common.{◌≡◌, ℕ, ◌<◌, ◌≤◌, List, ◌++◌, map, length, All, Bool, true, Option, Some, None, IfSome, is_some, IsPermutation, Contains, refl, sym, ap, ◌∙◌, subst, Result, Ok, Err, IfOk}
use Rattle.std.specs.List.{AllByRecursion}
use Rattle.std.proofs.lemmas.List.Elements.{All-from_recursion}
use Rattle.std.proofs.lemmas.List.Sorted.{Contains-permutation, IsPermutation-sym}
use Rattle.mine_model.specs.declared.item.Item.{Item}
use Rattle.mine_model.specs.declared.row.Row.{Row}
use Rattle.mine_model.specs.declared.fault.Fault.{Fault}
use Rattle.mine_model.specs.Expression.{Tree}
use Rattle.mine_model.specs.Grammar.{Use}
use Rattle.mine_model.specs.Support.{Sequence}
use Rattle.mine_model.specs.Answer.{Data, Rises}
use Rattle.mine_model.specs.Names.{HasName, AreDistinct, named_row}
use Rattle.mine_model.specs.Ancestry.{Ancestry}
use Rattle.mine_model.specs.Refusal.{IsUnknown}
use Rattle.patex_parser.specs.Parsing.{named_tree}
use Rattle.mining_job.specs.Problems.{Problem, data_of}
use Rattle.command_line.specs.Words.{Command, IsCommand, file_of}
use Rattle.mine_model.specs.declared.mined.Work.{Work}
use Rattle.command_line.specs.declared.share.Share.{Share}
use Rattle.mine_model.specs.PartitionWork.{IsBytewiseBefore, IsNamedBefore}
use Rattle.desq_run.specs.Sources.{SaysTree}
use Rattle.desq_run.specs.Ends.{bytes_named, input_data, HasSource, AreRowsTo, IsWorkOf}
use Rattle.desq_run.specs.Inputs.{IsHierarchySaid, IsDatabaseSaid, AreLinksWithin, AreInputs, HasRanges, IsRead, AreFound, AreRows, AreOrdered, IsJobFor, IsMined}
use Rattle.desq_run.proofs.HierarchyLemmas.{all-of}
use Rattle.desq_run.proofs.EndLemmas.{same_command, held, read_at, found_at, nothing-refused, hierarchy-accepted, data-accepted}
use Rattle.desq_run.proofs.SourceLemmas.{rows-to}
use Rattle.desq_run.proofs.InputLemmas.{found-answer, work-answer}

-- the items of rows have names, where those of a hierarchy have
pub rows-named : (names : List (List ℕ)) (items : ℕ) (rows : List Row) → items ≡ length names
    → ((row : Row) → Contains rows row → AllByRecursion (λ (t : Item). t.0 < items) row.pattern)
    → All (λ (row : Row). All (HasName names) row.pattern) rows
rows-named names items rows same each =
    all-of (λ (row : Row). All (HasName names) row.pattern) rows (λ row inside.
    All-from_recursion (HasName names) row.pattern (subst (λ n. AllByRecursion (λ (t : Item). t.0 < n) row.pattern) same (each row inside)))

-- rows that were found are found in any order
found-ordered : (Ties : Item → Item → Type 0) (share : Option Share) (d : Data Item) (rows ordered : List Row)
    → AreFound Ties share d rows → IsPermutation rows ordered → AreFound Ties share d ordered
found-ordered Ties None d rows ordered found same = λ row. (
  (λ inside. (found row).0 (Contains-permutation ordered rows row (IsPermutation-sym rows ordered same) inside)),
  (λ is. Contains-permutation rows ordered row same ((found row).1 is)),
)
found-ordered Ties (Some share) d rows ordered (order, list, found) same = (
  order,
  list,
  (λ row. (
    (λ inside. (found row).0 (Contains-permutation ordered rows row (IsPermutation-sym rows ordered same) inside)),
    (λ is. Contains-permutation rows ordered row same ((found row).1 is)),
  )),
)

-- the rows brought into order
pub rows-ordered : (names : List (List ℕ)) (share : Option Share) (d : Data Item) (rows ordered : List Row) → AreFound (IsNamedBefore names) share d rows
    → IsPermutation rows ordered → Rises (map (named_row names) ordered) → AreOrdered names share d ordered
rows-ordered names share d rows ordered found same rises =
    record { found = found-ordered (IsNamedBefore names) share d rows ordered found same; rises = rises }

module _ (words : List (List ℕ)) (holds : List ℕ → Option (List ℕ)) (c : Command) (has : HasSource words c)
    (known : List (List ℕ)) (before : Ancestry) (db : List (Sequence Item)) (uses : List Use) (tree : Tree Item) (rows : List Row) (work : Work) where
  -- what was read and found, by these names, is mined
  Mines : List (List ℕ) → Type 0
  Mines names =
      AreDistinct names
      → IfSome (bytes_named holds (file_of c.source)) (λ bytes. IsDatabaseSaid c.source c.weighted bytes known names db)
      → AllByRecursion (λ (s : Sequence Item). AllByRecursion (HasName names) s.items) db
      → ((fault : Fault) → IsUnknown names uses fault → ⊥)
      → AreRows names before db (named_tree uses tree) c.threshold c.share c.engine c.stats rows work
      → IsMined words holds c names rows work

  mined-at : (added : List (List ℕ)) → AreLinksWithin before → IfSome (bytes_named holds c.hierarchy) (λ bytes. IsHierarchySaid c.source bytes known before)
      → IsRead c.source uses tree → HasRanges c.source → 1 ≤ c.threshold → Mines (known ++ added)
  unfolding Mines
  mined-at added within read is_read ranges some distinct found numbered known_all are = record {
    source = has;
    hierarchy = hierarchy-accepted words holds c has known before read;
    mined = data-accepted words holds c has known before read (known ++ added) db found uses tree is_read known_all;
    accepted = nothing-refused words holds c has known before read (known ++ added) db found uses tree is_read known_all;
    answer = λ input is.
        let same : c ≡ input.command = same_command words holds c has input is in
        subst (λ (d : Command). AreRowsTo d.share d.source input (map (named_row (known ++ added)) rows)) same
        (rows-to c.share c.source input (named_tree uses tree) (map (named_row (known ++ added)) rows) (ap (λ (d : Command). d.source) same) ranges is_read.says
        (found-answer input (named_tree uses tree) known added before db are.expression c.share rows distinct
        (read_at words holds c has known before read input (held words holds c has input is)) within
        (found_at words holds c has known before read (known ++ added) db found input (held words holds c has input is)) numbered are.same are.named
        (subst (λ (d : Command). 1 ≤ d.threshold) same some)
        (subst (λ (d : Command). AreFound (IsNamedBefore (known ++ added)) c.share (record { links = before.links; sequences = db; expression = are.expression; threshold = d.threshold }) rows) same are.found)
        are.rises));
    work = λ asked input is.
        let same : c ≡ input.command = same_command words holds c has input is in (
          named_tree uses tree,
          subst (λ (d : Command). SaysTree d.source (named_tree uses tree)) same is_read.says,
          subst (λ (d : Command). IsWorkOf IsBytewiseBefore d.share d.engine (input_data input (named_tree uses tree)) work) same
              (work-answer input (named_tree uses tree) known added before db are.expression c.share c.engine work distinct
              (read_at words holds c has known before read input (held words holds c has input is)) within
              (found_at words holds c has known before read (known ++ added) db found input (held words holds c has input is)) numbered are.same are.named
              (subst (λ (d : Command). 1 ≤ d.threshold) same some)
              (subst (λ (d : Command). IsWorkOf (IsNamedBefore (known ++ added)) c.share c.engine (record { links = before.links; sequences = db; expression = are.expression; threshold = d.threshold }) work) same (are.work asked))),
        );
  }

  pub mined : (names : List (List ℕ)) (h : Ancestry) → (inputs : AreInputs holds c names h db) → inputs.known ≡ known → inputs.before ≡ before
      → IsRead c.source uses tree → HasRanges c.source → 1 ≤ c.threshold
      → AreDistinct names
      → AllByRecursion (λ (s : Sequence Item). AllByRecursion (HasName names) s.items) db
      → ((fault : Fault) → IsUnknown names uses fault → ⊥)
      → AreRows names h db (named_tree uses tree) c.threshold c.share c.engine c.stats rows work
      → IsMined words holds c names rows work
  unfolding Mines
  mined names h inputs known_is before_is is_read ranges some distinct numbered known_all are =
      let behind : names ≡ known ++ inputs.added = inputs.behind ∙ ap (λ k. k ++ inputs.added) known_is in
      let read : IfSome (bytes_named holds c.hierarchy) (λ bytes. IsHierarchySaid c.source bytes known before) =
      subst (λ k. IfSome (bytes_named holds c.hierarchy) (λ bytes. IsHierarchySaid c.source bytes k before)) known_is
      (subst (λ b. IfSome (bytes_named holds c.hierarchy) (λ bytes. IsHierarchySaid c.source bytes inputs.known b)) before_is inputs.hierarchy) in
      let found : IfSome (bytes_named holds (file_of c.source)) (λ bytes. IsDatabaseSaid c.source c.weighted bytes known names db) =
      subst (λ k. IfSome (bytes_named holds (file_of c.source)) (λ bytes. IsDatabaseSaid c.source c.weighted bytes k names db)) known_is inputs.sequences in
      let links : h.links ≡ before.links = inputs.links ∙ ap (λ (b : Ancestry). b.links) before_is in
      let are_before : AreRows names before db (named_tree uses tree) c.threshold c.share c.engine c.stats rows work = record {
        expression = are.expression;
        same = are.same;
        named = are.named;
        found = subst (λ l. AreFound (IsNamedBefore names) c.share (record { links = l; sequences = db; expression = are.expression; threshold = c.threshold }) rows) links are.found;
        rises = are.rises;
        work = λ asked. subst (λ l. IsWorkOf (IsNamedBefore names) c.share c.engine (record { links = l; sequences = db; expression = are.expression; threshold = c.threshold }) work) links (are.work asked);
      } in
      subst Mines (sym behind) (mined-at inputs.added (subst AreLinksWithin before_is inputs.within) read is_read ranges some) distinct found numbered known_all are_before

-- what was found by the job of a command, in order, is mined
pub job-mined : (words : List (List ℕ)) (holds : List ℕ → Option (List ℕ)) (c : Command) → IsCommand words c → (names : List (List ℕ)) (problem : Problem)
    → IsJobFor holds c names problem → HasRanges c.source → 1 ≤ c.threshold → (rows : List Row) (work : Work) → AreOrdered names c.share (data_of problem) rows
    → (c.stats ≡ true → IsWorkOf (IsNamedBefore names) c.share c.engine (data_of problem) work) → IsMined words holds c names rows work
job-mined words holds c said names problem job ranges some rows work ordered counted =
    mined words holds c (said, job.source) job.inputs.known job.inputs.before job.db job.uses job.tree rows work names job.h job.inputs refl refl job.read ranges some
    job.distinct job.numbered job.known (record {
      expression = job.job.expression;
      same = job.job.same;
      named = job.job.named;
      found = subst (λ d. AreFound (IsNamedBefore names) c.share d rows) job.job.sets ordered.found;
      rises = ordered.rises;
      work = λ asked. subst (λ d. IsWorkOf (IsNamedBefore names) c.share c.engine d work) job.job.sets (counted asked);
    })

-- what is told is the work
pub is-work : (P : Work → Type 0) (asked : Bool) (told : Option Work) (work : Work) → asked ≡ is_some told → IfSome told (λ t. t ≡ work) → (asked ≡ true → P work) → IfSome told P
is-work P asked None work is same p = tt
is-work P asked (Some t) work is same p = subst P (sym same) (p is)

-- what follows from a property holds of a result that has it
pub if_ok : {T E : Type 0} (P Q : T → Type 0) (r : Result T E) → ((v : T) → P v → Q v) → IfOk r P → IfOk r Q
if_ok P Q (Ok v) follows is = follows v is
if_ok P Q (Err e) follows is = tt
