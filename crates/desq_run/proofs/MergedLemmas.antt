-- Files of outputs that were read one after another.
use Rattle.std.proofs.Common.{◌≡◌, ◌≢◌, inl, inr, ℕ, suc, ◌+◌, ◌<◌, Option, Some, IfSome, List, [], ◌∷◌, ◌++◌, length, map, take, drop, get_or, All, IsPermutation, refl, sym, ap, ◌∙◌, subst, arith}
use Rattle.std.proofs.lemmas.List.{append_assoc, append-nil, map-append, length-map, length-take-le, take-append-drop, take_more}
use Rattle.std.specs.List.{AllByRecursion}
use Rattle.std.proofs.lemmas.Grind.{flat_map-append}
use Rattle.std.proofs.lemmas.List.Elements.{All-from_recursion}
use Rattle.std.proofs.lemmas.List.Sorted.{All-permutation}
use Rattle.mine_model.specs.declared.fault.Fault.{Fault}
use Rattle.mine_model.specs.declared.fault.Fault.TheVariants.{Read, NoMemory}
use Rattle.mine_model.specs.declared.fault.Which.{Which}
use Rattle.mine_model.specs.declared.fault.Which.TheVariants.{Merged}
use Rattle.mine_model.specs.declared.row.Row.{Row}
use Rattle.mine_model.specs.Text.{lines_of}
use Rattle.mine_model.specs.First.{FirstAmong}
use Rattle.mine_model.specs.Answer.{NamedRow}
use Rattle.mine_model.specs.Names.{HasName}
use Rattle.mine_model.proofs.ListLemmas.{AllByRecursion-weaker}
use Rattle.text_ports.specs.Lines.{OfBytes}
use Rattle.command_line.specs.Words.{merge}
use Rattle.split_merge.specs.declared.faults.MergeFault.{MergeFault}
use Rattle.split_merge.specs.declared.faults.MergeFault.TheVariants.{ReadFault, NoMemory as OutOfMemory}
use Rattle.split_merge.specs.Merging.{FileFault, IsMerge, IsMergeRefusal, IsMergedFileRefusal, lines_of_files}
use Rattle.split_merge.specs.Rows.{AreRowsOfLines}
use Rattle.desq_run.specs.Merged.{fault_in, RefusesMerged}
use Rattle.desq_run.specs.Merging.{AreAsTold, WereMerged, IsCutShort, WereTaken}

module _ {X F : Type 0} (Refused : List X → X → F → Type 0) where
  -- nothing of them is refused
  abbrev NoneAmong : List X → List X → Type 0
  NoneAmong before xs = (fault : F) → FirstAmong Refused before xs fault → ⊥

  none-rest : (before : List X) (x : X) (xs : List X) → NoneAmong before (x ∷ xs) → NoneAmong (before ++ x ∷ []) xs
  none-rest before x xs none fault later = none fault (inr ((λ other here. none other (inl here)), later))

  none-more : (before xs : List X) (x : X) → NoneAmong before xs → ((fault : F) → Refused (before ++ xs) x fault → ⊥) → NoneAmong before (xs ++ x ∷ [])
  none-more before [] x none own fault (inl here) = own fault (subst (λ b. Refused b x fault) (sym (append-nil before)) here)
  none-more before [] x none own fault (inr (first, later)) = later
  none-more before (y ∷ xs) x none own fault (inl here) = none fault (inl here)
  none-more before (y ∷ xs) x none own fault (inr (first, later)) =
      none-more (before ++ y ∷ []) xs x (none-rest before y xs none)
      (λ other here. own other (subst (λ b. Refused b x other) (append_assoc before (y ∷ []) xs) here)) fault later

  first-at : (before xs : List X) (x : X) (later : List X) (fault : F) → NoneAmong before xs → Refused (before ++ xs) x fault
      → FirstAmong Refused before (xs ++ x ∷ later) fault
  first-at before [] x later fault none own = inl (subst (λ b. Refused b x fault) (append-nil before) own)
  first-at before (y ∷ xs) x later fault none own = inr (
    (λ other here. none other (inl here)),
    first-at (before ++ y ∷ []) xs x later fault (none-rest before y xs none)
        (subst (λ b. Refused b x fault) (sym (append_assoc before (y ∷ []) xs)) own),
  )

module _ (holds : List ℕ → Option (List ℕ)) where
  told-more : (names files : List (List ℕ)) (name bytes : List ℕ) → AreAsTold holds names files → IfSome (holds name) (λ held. bytes ≡ held)
      → AreAsTold holds (names ++ name ∷ []) (files ++ bytes ∷ [])
  told-more [] [] name bytes all one = (one, tt)
  told-more [] (file ∷ files) name bytes all one = absurd all
  told-more (n ∷ names) [] name bytes all one = absurd all
  told-more (n ∷ names) (file ∷ files) name bytes all one = (all.0, told-more names files name bytes all.1 one)

  told-one : (name bytes file : List ℕ) → holds name ≡ Some file → IfSome (holds name) (λ held. bytes ≡ held) → bytes ≡ file
  told-one name bytes file is one = subst (λ told. IfSome told (λ held. bytes ≡ held)) is one

  -- where each of the files is told, those that were read are these
  told-same : (names files given : List (List ℕ)) → AreAsTold holds names files → map holds names ≡ map Some given → files ≡ given
  told-same [] [] [] all same = refl
  told-same [] [] (file ∷ given) all same = absurd (cc)
  told-same [] (file ∷ files) given all same = absurd all
  told-same (name ∷ names) [] given all same = absurd all
  told-same (name ∷ names) (bytes ∷ files) [] all same = absurd (cc)
  told-same (name ∷ names) (bytes ∷ files) (file ∷ given) all same =
      let first : holds name ≡ Some file = cc in
      let rest : map holds names ≡ map Some given = cc in
      let here : bytes ≡ file = told-one name bytes file first all.0 in
      let later : files ≡ given = told-same names files given all.1 rest in
      cc

  -- the files before a name, its own, and those behind it
  told-cut : (first : List (List ℕ)) (name : List ℕ) (later given : List (List ℕ)) → map holds (first ++ name ∷ later) ≡ map Some given
      → (before : List (List ℕ)) × (bytes : List ℕ) × (behind : List (List ℕ))
      × (given ≡ before ++ bytes ∷ behind) × (map holds first ≡ map Some before) × (holds name ≡ Some bytes)
  told-cut [] name later [] same = absurd (cc)
  told-cut [] name later (file ∷ given) same = ([], file, given, refl, refl, (cc))
  told-cut (n ∷ first) name later [] same = absurd (cc)
  told-cut (n ∷ first) name later (file ∷ given) same =
      let one : holds n ≡ Some file = cc in
      let rest : map holds (first ++ name ∷ later) ≡ map Some given = cc in
      let (before, bytes, behind, cut, told, own) = told-cut first name later given rest in
      let more : map holds (n ∷ first) ≡ map Some (file ∷ before) = cc in
      (file ∷ before, bytes, behind, ap (λ (l : List (List ℕ)). file ∷ l) {y = before ++ bytes ∷ behind} cut, more, own)

-- the refusal of one file behind others
abbrev OfFile : ℕ → List (List ℕ) → List ℕ → FileFault → Type 0
OfFile threshold before bytes refused = (refused.file ≡ length before + 1) × IsMergedFileRefusal threshold (lines_of_files before) bytes refused.fault

module _ (threshold : ℕ) (holds : List ℕ → Option (List ℕ)) where
  -- no file was read yet
  pub taken-none : (names : List (List ℕ)) (rows : List Row) → AreRowsOfLines threshold [] names rows → WereTaken threshold holds [] names rows
  taken-none names rows said = record { files = []; told = tt; accepted = λ refused none. none; said = said }

  -- one more file was read
  taken-more : (file_names names known : List (List ℕ)) (rows more : List Row) (name : List ℕ)
      → WereTaken threshold holds file_names names rows
      → ((lines : List (List ℕ)) → AreRowsOfLines threshold lines names rows → OfBytes (holds name) (λ bytes.
      AreRowsOfLines threshold (lines ++ lines_of bytes) known more × ((fault : MergeFault) → IsMergedFileRefusal threshold lines bytes fault → ⊥)))
      → WereTaken threshold holds (file_names ++ name ∷ []) known more
  taken-more file_names names known rows more name taken read =
      let (bytes, were, both) = read (lines_of_files taken.files) taken.said in
      let lines : lines_of_files (taken.files ++ bytes ∷ []) ≡ lines_of_files taken.files ++ lines_of bytes =
      flat_map-append lines_of taken.files (bytes ∷ []) ∙ ap (λ l. lines_of_files taken.files ++ l) (append-nil (lines_of bytes)) in
      record {
        files = taken.files ++ bytes ∷ [];
        told = told-more holds file_names taken.files name bytes taken.told were.same;
        accepted = none-more (OfFile threshold) [] taken.files bytes taken.accepted (λ refused here. both.1 refused.fault here.1);
        said = subst (λ l. AreRowsOfLines threshold l known more) (sym lines) both.0;
      }

  pub told-length : (names files : List (List ℕ)) → AreAsTold holds names files → length files ≡ length names
  told-length [] [] all = refl
  told-length [] (file ∷ files) all = absurd all
  told-length (name ∷ names) [] all = absurd all
  told-length (name ∷ names) (file ∷ files) all = ap suc (told-length names files all.1)

  -- the next file was not read
  cut-short : (file_names first names : List (List ℕ)) (rows : List Row) (name : List ℕ) (later : List (List ℕ)) (why : MergeFault) (number : ℕ)
      → file_names ≡ first ++ name ∷ later → number ≡ length first + 1
      → WereTaken threshold holds first names rows
      → ((lines : List (List ℕ)) → AreRowsOfLines threshold lines names rows → why ≢ ReadFault → why ≢ OutOfMemory
      → IfSome (holds name) (λ bytes. IsMergedFileRefusal threshold lines bytes why))
      → IsCutShort threshold holds file_names (fault_in (Merged number) why)
  cut-short file_names first names rows name later why number cut is taken refuses = record {
    before = taken.files;
    first = first;
    name = name;
    later = later;
    cut = cut;
    told = taken.told;
    accepted = taken.accepted;
    why = why;
    is = ap (λ n. fault_in (Merged n) why) (is ∙ ap (λ n. n + 1) (sym (told-length first taken.files taken.told)));
    refused = refuses (lines_of_files taken.files) taken.said;
  }

  -- the files of a list of names, so many of them read
  module _ {X : Type 0} (f : X → List ℕ) (xs : List X) (k : ℕ) (x : X) (inside : k < length xs) (at : x ≡ get_or xs k x) where
    names-more : map f (take (k + 1) xs) ≡ map f (take k xs) ++ f x ∷ []
    names-more = ap (map f) (take_more xs k x inside) ∙ map-append f (take k xs) (get_or xs k x ∷ []) ∙ ap (λ y. map f (take k xs) ++ f y ∷ []) (sym at)

    names-cut : map f xs ≡ map f (take k xs) ++ f x ∷ map f (drop (k + 1) xs)
    names-cut = ap (map f) (sym (take-append-drop (k + 1) xs)) ∙ map-append f (take (k + 1) xs) (drop (k + 1) xs)
        ∙ ap (λ l. l ++ map f (drop (k + 1) xs)) names-more ∙ append_assoc (map f (take k xs)) (f x ∷ []) (map f (drop (k + 1) xs))

    names-before : length (map f (take k xs)) ≡ k
    names-before = length-map (take k xs) f ∙ length-take-le k xs (omega (arith, inside))

    module _ (now : List ℕ → Option (List ℕ)) (same : now ≡ holds) (text : List ℕ) (named : text ≡ f x) (names : List (List ℕ)) (rows : List Row)
        (taken : WereTaken threshold holds (map f (take k xs)) names rows) where
      told-here : now text ≡ holds (f x)
      told-here = ap (λ (h : List ℕ → Option (List ℕ)). h text) same ∙ ap holds named

      pub taken-next : (known : List (List ℕ)) (more : List Row)
          → ((lines : List (List ℕ)) → AreRowsOfLines threshold lines names rows → OfBytes (now text) (λ bytes.
          AreRowsOfLines threshold (lines ++ lines_of bytes) known more × ((fault : MergeFault) → IsMergedFileRefusal threshold lines bytes fault → ⊥)))
          → WereTaken threshold holds (map f (take (k + 1) xs)) known more
      taken-next known more read =
          subst (λ l. WereTaken threshold holds l known more) (sym names-more)
          (taken-more (map f (take k xs)) names known rows more (f x) taken (λ lines are. subst (λ told. OfBytes told (λ bytes.
          AreRowsOfLines threshold (lines ++ lines_of bytes) known more × ((fault : MergeFault) → IsMergedFileRefusal threshold lines bytes fault → ⊥)))
          told-here (read lines are)))

      pub cut-next : (why : MergeFault)
          → ((lines : List (List ℕ)) → AreRowsOfLines threshold lines names rows → why ≢ ReadFault → why ≢ OutOfMemory
          → IfSome (now text) (λ bytes. IsMergedFileRefusal threshold lines bytes why))
          → IsCutShort threshold holds (map f xs) (fault_in (Merged (k + 1)) why)
      cut-next why refuses =
          cut-short (map f xs) (map f (take k xs)) names rows (f x) (map f (drop (k + 1) xs)) why (k + 1) names-cut (ap (λ n. n + 1) (sym names-before)) taken
          (λ lines are no_read no_memory. subst (λ told. IfSome told (λ bytes. IsMergedFileRefusal threshold lines bytes why)) told-here (refuses lines are no_read no_memory))

  module _ (names files : List (List ℕ)) (told : map holds names ≡ map Some files) where
    -- what was merged is not refused
    pub merged-accepted : (own : List (List ℕ)) (rows : List NamedRow) (fault : Fault) → WereMerged threshold holds names rows
        → RefusesMerged (merge own) threshold files fault → ⊥
    merged-accepted own rows fault were (refused, refusal, is) =
        were.accepted refused (subst (λ l. IsMergeRefusal threshold l refused) (sym (told-same holds names were.files files were.told told)) refusal)

    -- what was merged is the merge
    pub merged-rows : (rows : List NamedRow) → WereMerged threshold holds names rows → IsMerge threshold files rows
    merged-rows rows were = subst (λ l. IsMerge threshold l rows) (told-same holds names were.files files were.told told) were.merge

    -- what cut the reading short, but for a fault of reading and want of memory, is the first refusal
    pub cut-refused : (own : List (List ℕ)) (fault : Fault) → IsCutShort threshold holds names fault
        → ((file : Which) → fault ≢ Read file) → fault ≢ NoMemory → RefusesMerged (merge own) threshold files fault
    cut-refused own fault short no_read no_memory =
        let (before, bytes, behind, whole, first, one) = told-cut holds short.first short.name short.later files (ap (map holds) (sym short.cut) ∙ told) in
        let same : short.before ≡ before = told-same holds short.first short.before before short.told first in
        let number = length short.before + 1 in
        let not_read : short.why ≢ ReadFault = λ is. no_read (Merged number) (short.is ∙ ap (fault_in (Merged number)) is) in
        let not_memory : short.why ≢ OutOfMemory = λ is. no_memory (short.is ∙ ap (fault_in (Merged number)) is) in
        let refused : IsMergedFileRefusal threshold (lines_of_files short.before) bytes short.why =
        subst (λ held. IfSome held (λ b. IsMergedFileRefusal threshold (lines_of_files short.before) b short.why)) one (short.refused not_read not_memory) in
        let here : FileFault = record { file = number; fault = short.why } in
        let all : files ≡ short.before ++ bytes ∷ behind = whole ∙ ap (λ l. l ++ bytes ∷ behind) (sym same) in (
          here,
          subst (λ l. IsMergeRefusal threshold l here) (sym all) (first-at (OfFile threshold) [] short.before bytes behind here short.accepted (refl, refused)),
          short.is,
        )

-- the rows that were read, in the order of an answer
module _ (threshold : ℕ) (holds : List ℕ → Option (List ℕ)) (file_names names : List (List ℕ)) (rows ordered : List Row) (taken : WereTaken threshold holds file_names names rows) where
  -- the items of each row have names
  all-named : All (λ row. All (HasName names) row.pattern) rows
  all-named = All-from_recursion (λ row. All (HasName names) row.pattern) rows
      (AllByRecursion-weaker (λ row. AllByRecursion (HasName names) row.pattern) (λ row. All (HasName names) row.pattern)
      (λ row named. All-from_recursion (HasName names) row.pattern named) rows taken.said.named)

  pub ordered-named : IsPermutation rows ordered → All (λ row. All (HasName names) row.pattern) ordered
  ordered-named same = All-permutation (λ row. All (HasName names) row.pattern) rows ordered same all-named
