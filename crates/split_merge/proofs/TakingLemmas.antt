-- Lemmas on the lines that were read, and on the first refusal.
use Rattle.std.proofs.Common.{◌≡◌, ◌≢◌, ℕ, ◌+◌, ◌≤◌, ◌<◌, ◌⊎◌, inl, inr, Option, Some, None, true, List, [], ◌∷◌, ◌++◌, map, length, refl, sym, ap, ◌∙◌, subst, arith, Contains, AllPairs}
use Rattle.std.specs.List.{AllByRecursion, slice_index_or}
use Rattle.std.proofs.lemmas.List.{append-nil, append_assoc, map-append}
use Rattle.std.proofs.lemmas.List.Concat.{flat_map-append}
use Rattle.std.proofs.lemmas.List.Elements.{Contains-append_left, Contains-append_right, Contains-append_cases}
use Rattle.mine_model.specs.declared.item.Item.{Item}
use Rattle.mine_model.specs.declared.row.Row.{Row}
use Rattle.mine_model.specs.Answer.{NamedRow, ComesBefore}
use Rattle.mine_model.specs.First.{FirstAmong}
use Rattle.mine_model.specs.Limits.{most_file_bytes, most_items}
use Rattle.mine_model.specs.Names.{name_of, HasName, named_row, AreDistinct, GrowBy, IsFileName}
use Rattle.mine_model.specs.Numbered.{PatternsDiffer}
use Rattle.mine_model.specs.Refusal.{HasMoreNames, sequence_of, sequences_of_lines, items_of}
use Rattle.mine_model.specs.Support.{Sequence}
use Rattle.mine_model.specs.Text.{lines_of, fields_of, bad_byte, long_name, IsSoundLine}
use Rattle.mine_model.proofs.AncestryLemmas.{Item-same}
use Rattle.mine_model.proofs.AnswerLemmas.{ComesBefore-chain}
use Rattle.mine_model.proofs.ListLemmas.{Contains-cases, Contains-first, Contains-other, Contains-none, Contains-by, Contains-from, of_both, AllByRecursion-contained}
use Rattle.mine_model.proofs.NameLemmas.{GrowBy-more, no_more_names, distinct_fit}
use Rattle.item_names.proofs.Growing.{HasMoreNames-grown}
use Rattle.item_names.proofs.FieldLemmas.{map-name_of-grown, AllNamed-grown}
use Rattle.text_ports.specs.Lines.{WasGiven, TookAll, StoppedAt, Refused}
use Rattle.split_merge.specs.declared.faults.MergeFault.{MergeFault}
use Rattle.split_merge.specs.declared.faults.MergeFault.TheVariants.{ReadFault, TooLarge, BadByte, NameTooLong, BadRow, TooManyItems, NoMemory}
use Rattle.split_merge.specs.declared.reading.Merging.{Merging}
use Rattle.split_merge.specs.Merging.{IsRowLine, IsSaid, IsRightLine, IsBadRow, names_of_lines, IsMergedLineRefusal, IsMergedFileRefusal}
use Rattle.split_merge.specs.Rows.{HasPattern, AreSaid, AreRowsOfLines}
use Rattle.split_merge.specs.Taking.{joined_of, IsBehind, ComesNext, TookLine, IsWrong, IsLineFault, RefusedLine, IsLastRow, IsTaken}
use Rattle.split_merge.proofs.LineLemmas.{one-row}
use Rattle.split_merge.proofs.JoinLemmas.{behind-after, after-behind}
use Rattle.split_merge.proofs.FormLemmas.{row-fields}

-- Items and their names

-- items of the same names are the same
same-items : (names : List (List ℕ)) → AreDistinct names → (xs ys : List Item) → AllByRecursion (HasName names) xs → AllByRecursion (HasName names) ys
    → map (name_of names) xs ≡ map (name_of names) ys → xs ≡ ys
same-items names distinct [] [] p q same = refl
same-items names distinct [] (y ∷ ys) p q same = cc
same-items names distinct (x ∷ xs) [] p q same = cc
same-items names distinct (x ∷ xs) (y ∷ ys) p q same =
    let first : slice_index_or names x.0 [] ≡ slice_index_or names y.0 [] = cc in
    let rest : map (name_of names) xs ≡ map (name_of names) ys = cc in
    let number : x.0 ≡ y.0 = distinct x.0 y.0 p.0 q.0 first in
    let others = same-items names distinct xs ys p.1 q.1 rest in
    let one : x ≡ y = Item-same x y number in
    λ i. one i ∷ others i

module _ (old names new : List (List ℕ)) (grown : GrowBy old names new) where
  row-grown : (row : Row) → AllByRecursion (HasName old) row.pattern → named_row new row ≡ named_row old row
  row-grown row named = ap (λ (p : List (List ℕ)). record { pattern = p; support = row.support }) (map-name_of-grown old names new row.pattern grown named)

  rows-grown : (rows : List Row) → AllByRecursion (λ (row : Row). AllByRecursion (HasName old) row.pattern) rows → map (named_row new) rows ≡ map (named_row old) rows
  rows-grown [] named = refl
  rows-grown (row ∷ rows) named =
      let first = row-grown row named.0 in
      let others = rows-grown rows named.1 in
      λ i. first i ∷ others i

  named-grown : (rows : List Row) → AllByRecursion (λ (row : Row). AllByRecursion (HasName old) row.pattern) rows → AllByRecursion (λ (row : Row). AllByRecursion (HasName new) row.pattern) rows
  named-grown [] named = tt
  named-grown (row ∷ rows) named = (AllNamed-grown old names new row.pattern grown named.0, named-grown rows named.1)

module _ (threshold : ℕ) where
  -- What lines say

  said-more : (lines : List (List ℕ)) (rows : List NamedRow) (line : List ℕ) (row : NamedRow) → AreSaid threshold lines rows → IsRowLine threshold line row
      → AreSaid threshold (lines ++ line ∷ []) (rows ++ row ∷ [])
  said-more [] [] line row said is = (is, tt)
  said-more [] (r ∷ rows) line row said is = absurd said
  said-more (l ∷ lines) [] line row said is = absurd said
  said-more (l ∷ lines) (r ∷ rows) line row said is = (said.0, said-more lines rows line row said.1 is)

  pub said-row : (lines : List (List ℕ)) (rows : List NamedRow) → AreSaid threshold lines rows → (row : NamedRow) → IsSaid threshold lines row → Contains rows row
  said-row [] rows said row (line, held, is) = absurd (Contains-none line held)
  said-row (l ∷ lines) [] said row one = absurd said
  said-row (l ∷ lines) (r ∷ rows) said row (line, held, is) = elim (Contains-cases l lines line held) [
    | inl same ↦ subst (Contains (r ∷ rows)) (one-row threshold l r row said.0 (subst (λ x. IsRowLine threshold x row) same is)) (Contains-first r rows)
    | inr later ↦ Contains-other r rows row (said-row lines rows said.1 row (line, later, is))
  ]

  pub row-said : (lines : List (List ℕ)) (rows : List NamedRow) → AreSaid threshold lines rows → (row : NamedRow) → Contains rows row → IsSaid threshold lines row
  row-said lines [] said row held = absurd (Contains-none row held)
  row-said [] (r ∷ rows) said row held = absurd said
  row-said (l ∷ lines) (r ∷ rows) said row held = elim (Contains-cases r rows row held) [
    | inl same ↦ (l, Contains-first l lines, subst (IsRowLine threshold l) (sym same) said.0)
    | inr later ↦ (let (line, inside, is) = row-said lines rows said.1 row later in (line, Contains-other l lines line inside, is))
  ]

  -- a row that one more line says
  said-cases : (lines : List (List ℕ)) (line : List ℕ) (row other : NamedRow) → IsRowLine threshold line row → IsSaid threshold (lines ++ line ∷ []) other
      → IsSaid threshold lines other ⊎ (other ≡ row)
  said-cases lines line row other is (l, held, says) = elim (Contains-append_cases lines (line ∷ []) l held) [
    | inl old ↦ inl (l, old, says)
    | inr new ↦ elim (Contains-cases line [] l new) [
      | inl same ↦ inr (one-row threshold line other row (subst (λ x. IsRowLine threshold x other) same says) is)
      | inr none ↦ absurd (Contains-none l none)
    ]
  ]

  said-names : (lines : List (List ℕ)) (row : NamedRow) → IsSaid threshold lines row → AllByRecursion IsFileName row.pattern
  said-names lines row (line, held, is) = is.names

  -- the names of one line more
  names-more : (lines : List (List ℕ)) (line : List ℕ) (row : NamedRow) → IsRowLine threshold line row → names_of_lines (lines ++ line ∷ []) ≡ names_of_lines lines ++ row.pattern
  names-more lines line row is =
      ap items_of (map-append (λ l. sequence_of true (fields_of l)) lines (line ∷ []))
      ∙ flat_map-append (λ (sequence : Sequence (List ℕ)). sequence.items) (sequences_of_lines true lines) (sequence_of true (fields_of line) ∷ [])
      ∙ ap (λ w. names_of_lines lines ++ w) (append-nil (sequence_of true (fields_of line)).items ∙ ap (λ f. (sequence_of true f).items) (row-fields threshold line row is))

  module _ (earlier : List (List ℕ)) where
    -- the rows that come next are behind all of the file
    next-later : (lines : List (List ℕ)) (v : Merging) (row : NamedRow) → IsTaken threshold earlier lines v → AllByRecursion IsFileName row.pattern → ComesNext v row
        → (other : NamedRow) → IsSaid threshold lines other → ComesBefore other row
    next-later lines v row taken named next other said = elim taken.last [
      | inl none ↦ (let (line, held, is) = said in absurd (Contains-none line (subst (λ l. Contains l line) none.0 held)))
      | inr found ↦
          let (last, is) = found in
          let behind : IsBehind (Some last.support) (joined_of last) row.support (joined_of row) =
          subst (λ s. IsBehind s (joined_of last) row.support (joined_of row)) is.support_is (subst (λ n. IsBehind v.last.support n row.support (joined_of row)) is.names_are next) in
          let after = behind-after last row (said-names lines last is.said) named behind in
          elim (is.others other said) [
            | inl same ↦ subst (λ r. ComesBefore r row) (sym same) after
            | inr before ↦ ComesBefore-chain other last row before after
          ]
    ]

    -- and a row behind all of the file comes next
    later-next : (lines : List (List ℕ)) (v : Merging) (row : NamedRow) → IsTaken threshold earlier lines v → AllByRecursion IsFileName row.pattern
        → ((other : NamedRow) → IsSaid threshold lines other → ComesBefore other row) → ComesNext v row
    later-next lines v row taken named later = elim taken.last [
      | inl none ↦ subst (λ s. IsBehind s v.last.names.items row.support (joined_of row)) (sym none.1) tt
      | inr found ↦
          let (last, is) = found in
          subst (λ n. IsBehind v.last.support n row.support (joined_of row)) (sym is.names_are)
          (subst (λ s. IsBehind s (joined_of last) row.support (joined_of row)) (sym is.support_is)
          (after-behind last row (said-names lines last is.said) named (later last is.said)))
    ]

    last-more : (lines : List (List ℕ)) (v : Merging) (line : List ℕ) (row : NamedRow) (support : Option ℕ) (names : List ℕ) → IsTaken threshold earlier lines v → IsRowLine threshold line row → ComesNext v row
        → support ≡ Some row.support → names ≡ joined_of row → IsLastRow threshold (lines ++ line ∷ []) support names row
    last-more lines v line row support names taken is next support_is names_are = record {
      said = (line, Contains-append_right lines (line ∷ []) line (Contains-first line []), is);
      others = λ other said. elim (said-cases lines line row other is said) [
        | inl old ↦ inr (next-later lines v row taken is.names next other old)
        | inr same ↦ inl same
      ];
      support_is = support_is;
      names_are = names_are;
    }

    -- The step

    module _ (lines : List (List ℕ)) (v w : Merging) (n : ℕ) (text : List ℕ) (taken : IsTaken threshold earlier lines v) (took : TookLine v n text w) where
      row : NamedRow
      row = named_row w.names took.row

      says : IsRowLine threshold text row
      unfolding row
      says = subst (λ t. IsRowLine t text (named_row w.names took.row)) taken.same took.says

      old-rows : map (named_row w.names) v.rows ≡ map (named_row v.names) v.rows
      old-rows = rows-grown v.names _ w.names took.grown v.rows taken.rows.named

      whole : (earlier ++ lines) ++ text ∷ [] ≡ earlier ++ (lines ++ text ∷ [])
      whole = append_assoc earlier lines (text ∷ [])

      rows-more : AreRowsOfLines threshold ((earlier ++ lines) ++ text ∷ []) w.names w.rows
      unfolding row
      rows-more = record {
        named = subst (AllByRecursion (λ (r : Row). AllByRecursion (HasName w.names) r.pattern)) (sym took.pushed)
            (of_both (λ (r : Row). AllByRecursion (HasName w.names) r.pattern) v.rows (took.row ∷ []) (named-grown v.names _ w.names took.grown v.rows taken.rows.named) (took.named, tt));
        said = subst (λ r. AreSaid threshold ((earlier ++ lines) ++ text ∷ []) (map (named_row w.names) r)) (sym took.pushed)
            (subst (AreSaid threshold ((earlier ++ lines) ++ text ∷ [])) (sym (map-append (named_row w.names) v.rows (took.row ∷ [])))
            (said-more (earlier ++ lines) (map (named_row w.names) v.rows) text (named_row w.names took.row)
            (subst (AreSaid threshold (earlier ++ lines)) (sym old-rows) taken.rows.said) says));
        differ = subst PatternsDiffer (sym took.pushed) (differ-more v.rows took.row taken.rows.differ took.fresh);
        grown = subst (λ names. GrowBy [] names w.names) (sym (names-more (earlier ++ lines) text (named_row w.names took.row) says))
            (GrowBy-more [] (names_of_lines (earlier ++ lines)) v.names _ w.names taken.rows.grown took.grown);
      }
        where
          differ-more : (rows : List Row) (new : Row) → PatternsDiffer rows → (HasPattern rows new.pattern → ⊥) → PatternsDiffer (rows ++ new ∷ [])
          differ-more rows new differ fresh =
              Rattle.std.proofs.lemmas.List.Quantifiers.all_pairs_push (λ (first second : Row). first.pattern ≢ second.pattern) rows new differ
              (λ k d lt same. fresh (subst (Contains (map (λ (r : Row). r.pattern) rows)) same
              (Contains-by (λ (r : Row). r.pattern) rows (Rattle.std.proofs.Common.get_or rows k d) (Rattle.std.proofs.lemmas.List.Elements.Contains-get_or rows k d lt))))

      pub IsTaken-more : IsTaken threshold earlier (lines ++ text ∷ []) w
      unfolding row
      IsTaken-more = record {
        same = took.same ∙ taken.same;
        rows = subst (λ l. AreRowsOfLines threshold l w.names w.rows) whole rows-more;
        distinct = took.distinct;
        room = took.room;
        last = inr (named_row w.names took.row, last-more lines v text (named_row w.names took.row) w.last.support w.last.names.items taken says took.next took.support took.last);
      }

      -- no earlier line has the pattern
      new-pattern : (other : NamedRow) → IsSaid threshold (earlier ++ lines) other → other.pattern ≢ row.pattern
      unfolding row
      new-pattern other said same =
          let held : Contains (map (named_row w.names) v.rows) other =
          subst (λ l. Contains l other) (sym old-rows) (said-row (earlier ++ lines) (map (named_row v.names) v.rows) taken.rows.said other said) in
          let (r, inside, is) = Contains-from (named_row w.names) v.rows other held in
          let named = AllByRecursion-contained (λ (r : Row). AllByRecursion (HasName w.names) r.pattern) v.rows r (named-grown v.names _ w.names took.grown v.rows taken.rows.named) inside in
          let one : r.pattern ≡ took.row.pattern = same-items w.names took.distinct r.pattern took.row.pattern named took.named (sym (ap (λ (x : NamedRow). x.pattern) is) ∙ same) in
          took.fresh (subst (Contains (map (λ (x : Row). x.pattern) v.rows)) one (Contains-by (λ (x : Row). x.pattern) v.rows r inside))

      right : IsRightLine threshold earlier lines text row
      unfolding row
      right = record {
        says = says;
        later = next-later lines v (named_row w.names took.row) taken says.names took.next;
        fresh = new-pattern;
      }

      -- a line that was taken is not refused
      pub accepted : (fault : MergeFault) → IsMergedLineRefusal threshold earlier lines text fault → ⊥
      accepted fault (inl (column, inl first)) = took.sound bad_byte column first.0.0
      accepted fault (inl (column, inr first)) = took.sound long_name column first.0.0
      accepted fault (inr (none, inl bad)) = bad.0 row right
      accepted fault (inr (none, inr (none', more))) = no_more_names most_items [] (names_of_lines ((earlier ++ lines) ++ text ∷ [])) w.names rows-more.grown took.room more.0

    -- Lines that were taken, one after another

    pub IsTaken-all : (lines texts : List (List ℕ)) (n : ℕ) (v w : Merging) → IsTaken threshold earlier lines v → WasGiven TookLine n texts v w → IsTaken threshold earlier (lines ++ texts) w
    IsTaken-all lines [] n v w taken given =
        subst (λ m. IsTaken threshold earlier (lines ++ []) m) given (subst (λ l. IsTaken threshold earlier l v) (sym (append-nil lines)) taken)
    IsTaken-all lines (text ∷ texts) n v w taken (between, took, given) =
        subst (λ l. IsTaken threshold earlier l w) (append_assoc lines (text ∷ []) texts)
        (IsTaken-all (lines ++ text ∷ []) texts (n + 1) between w (IsTaken-more lines v between n text taken took) given)

    -- none of them is refused
    none_refused : (lines texts : List (List ℕ)) (n : ℕ) (v w : Merging) → IsTaken threshold earlier lines v → WasGiven TookLine n texts v w
        → (fault : MergeFault) → FirstAmong (IsMergedLineRefusal threshold earlier) lines texts fault → ⊥
    none_refused lines [] n v w taken given fault refusal = refusal
    none_refused lines (text ∷ texts) n v w taken (between, took, given) fault (inl here) = accepted lines v between n text taken took fault here
    none_refused lines (text ∷ texts) n v w taken (between, took, given) fault (inr later) =
        none_refused (lines ++ text ∷ []) texts (n + 1) between w (IsTaken-more lines v between n text taken took) given fault later.1

    -- the first refusal behind them is the first of all
    first_behind : (lines texts later : List (List ℕ)) (n : ℕ) (v w : Merging) → IsTaken threshold earlier lines v → WasGiven TookLine n texts v w
        → (fault : MergeFault) → FirstAmong (IsMergedLineRefusal threshold earlier) (lines ++ texts) later fault → FirstAmong (IsMergedLineRefusal threshold earlier) lines (texts ++ later) fault
    first_behind lines [] later n v w taken given fault refusal = subst (λ l. FirstAmong (IsMergedLineRefusal threshold earlier) l later fault) (append-nil lines) refusal
    first_behind lines (text ∷ texts) later n v w taken (between, took, given) fault refusal =
        inr (
          accepted lines v between n text taken took,
          first_behind (lines ++ text ∷ []) texts later (n + 1) between w (IsTaken-more lines v between n text taken took) given fault
              (subst (λ l. FirstAmong (IsMergedLineRefusal threshold earlier) l later fault) (sym (append_assoc lines (text ∷ []) texts)) refusal),
        )

    -- Why a line is refused

    module _ (lines : List (List ℕ)) (v : Merging) (text : List ℕ) (taken : IsTaken threshold earlier lines v) where
      wrong-bad : (names : List (List ℕ)) → IsWrong v text names → IsBadRow threshold earlier lines text
      wrong-bad names (inl none) row right = none row (subst (λ t. IsRowLine t text row) (sym taken.same) right.says)
      wrong-bad names (inr (inl (own, is, not_next))) row right =
          let one : own ≡ row = one-row threshold text own row (subst (λ t. IsRowLine t text own) taken.same is) right.says in
          not_next (subst (ComesNext v) (sym one) (later-next lines v row taken right.says.names right.later))
      wrong-bad names (inr (inr (own, is, held, grown))) row right =
          let one : named_row names own ≡ row = one-row threshold text (named_row names own) row (subst (λ t. IsRowLine t text (named_row names own)) taken.same is) right.says in
          let (r, inside, same) = Contains-from (λ (x : Row). x.pattern) v.rows own.pattern held in
          let said = row-said (earlier ++ lines) (map (named_row v.names) v.rows) taken.rows.said (named_row v.names r) (Contains-by (named_row v.names) v.rows r inside) in
          let named = AllByRecursion-contained (λ (x : Row). AllByRecursion (HasName v.names) x.pattern) v.rows r taken.rows.named inside in
          right.fresh (named_row v.names r) said
          (sym (map-name_of-grown v.names _ names r.pattern grown named) ∙ ap (map (name_of names)) (sym same) ∙ ap (λ (x : NamedRow). x.pattern) one)

      -- a row whose names are too many has a name of its own
      too-many-right : (row : NamedRow) → IsRowLine threshold text row → ComesNext v row → HasMoreNames most_items (v.names ++ row.pattern) → IsRightLine threshold earlier lines text row
      too-many-right row is next (some, apart, inside, more) = record {
        says = is;
        later = next-later lines v row taken is.names next;
        fresh = λ other said same.
            let held = said-row (earlier ++ lines) (map (named_row v.names) v.rows) taken.rows.said other said in
            let (r, in_rows, is_r) = Contains-from (named_row v.names) v.rows other held in
            let named = AllByRecursion-contained (λ (x : Row). AllByRecursion (HasName v.names) x.pattern) v.rows r taken.rows.named in_rows in
            let pattern : map (name_of v.names) r.pattern ≡ row.pattern = sym (ap (λ (x : NamedRow). x.pattern) is_r) ∙ same in
            let fit = distinct_fit some v.names apart (λ k d lt. elim (Contains-append_cases v.names row.pattern (slice_index_or some k d) (inside k d lt)) [
              | inl old ↦ old
              | inr new ↦ known r.pattern named (slice_index_or some k d) (subst (λ p. Contains p (slice_index_or some k d)) (sym pattern) new)
            ]) in
            let room = taken.room in omega (arith, fit, room, more);
      }
        where
          known : (items : List Item) → AllByRecursion (HasName v.names) items → (name : List ℕ) → Contains (map (name_of v.names) items) name → Contains v.names name
          known items named name held =
              let (item, inside, same) = Contains-from (name_of v.names) items name held in
              subst (Contains v.names) (sym same) (Rattle.std.proofs.lemmas.List.Elements.Contains-get_or v.names item.0 [] (AllByRecursion-contained (HasName v.names) items item named inside))

      no-text : IsSoundLine text → (fault : MergeFault) → ((column : ℕ) × ((Rattle.mine_model.specs.Text.IsFirstTextFault text bad_byte column × (fault ≡ BadByte (length lines + 1) column))
          ⊎ (Rattle.mine_model.specs.Text.IsFirstTextFault text long_name column × (fault ≡ NameTooLong (length lines + 1) column)))) → ⊥
      no-text sound fault (column, inl first) = sound bad_byte column first.0.0
      no-text sound fault (column, inr first) = sound long_name column first.0.0

      line_refused : (names : List (List ℕ)) (fault : MergeFault) → IsSoundLine text → IsLineFault v (length lines + 1) text names fault → fault ≢ NoMemory
          → IsMergedLineRefusal threshold earlier lines text fault
      line_refused names ReadFault sound why apart = absurd why
      line_refused names TooLarge sound why apart = absurd why
      line_refused names (BadByte line column) sound why apart = absurd why
      line_refused names (NameTooLong line column) sound why apart = absurd why
      line_refused names (BadRow line) sound why apart = inr (no-text sound, inl (wrong-bad names why.1, ap BadRow why.0))
      line_refused names (TooManyItems line) sound (number, row, says, next, more) apart =
          let is : IsRowLine threshold text row = subst (λ t. IsRowLine t text row) taken.same says in
          inr (
            no-text sound,
            inr (
              (λ other bad. bad.0 row (too-many-right row is next more)),
              (
                subst (HasMoreNames most_items) (sym (names-more (earlier ++ lines) text row is))
                    (HasMoreNames-grown most_items [] (names_of_lines (earlier ++ lines)) v.names row.pattern taken.rows.grown more),
                ap TooManyItems number,
              ),
            ),
          )
      line_refused names NoMemory sound why apart = absurd (apart refl)

-- The whole file

module _ (merging after : Merging) (room : length merging.names ≤ most_items) (distinct : AreDistinct merging.names) (first : merging.last.support ≡ None)
    (earlier : List (List ℕ)) (rows : AreRowsOfLines merging.least earlier merging.names merging.rows) where
  start : IsTaken merging.least earlier [] merging
  start = record {
    same = refl;
    rows = subst (λ l. AreRowsOfLines merging.least l merging.names merging.rows) (sym (append-nil earlier)) rows;
    distinct = distinct;
    room = room;
    last = inl (refl, first);
  }

  pub whole_taken : (lines : List (List ℕ)) → TookAll TookLine lines merging after → AreRowsOfLines merging.least (earlier ++ lines) after.names after.rows
  whole_taken lines took = (IsTaken-all merging.least earlier [] lines 1 merging after start took.given).rows

  pub whole_accepted : (bytes : List ℕ) → length bytes ≤ most_file_bytes → TookAll TookLine (lines_of bytes) merging after
      → (fault : MergeFault) → IsMergedFileRefusal merging.least earlier bytes fault → ⊥
  whole_accepted bytes few took fault (inl large) = let over = large.0 in omega (arith, few, over)
  whole_accepted bytes few took fault (inr later) = none_refused merging.least earlier [] (lines_of bytes) 1 merging after start took.given fault later.1

  -- the first line that is refused
  whole_refused : (bytes : List ℕ) (before later : List (List ℕ)) (text : List ℕ) (between : Merging) (fault : MergeFault) → length bytes ≤ most_file_bytes
      → lines_of bytes ≡ before ++ text ∷ later → TookAll TookLine before merging between
      → IsMergedLineRefusal merging.least earlier before text fault → IsMergedFileRefusal merging.least earlier bytes fault
  whole_refused bytes before later text between fault few cut took refusal =
      inr (
        (λ other large. let over = large.0 in omega (arith, few, over)),
        subst (λ l. FirstAmong (IsMergedLineRefusal merging.least earlier) [] l fault) (sym cut)
            (first_behind merging.least earlier [] before (text ∷ later) 1 merging between start took.given fault (inl refusal)),
      )

  pub stopped_bad : (bytes : List ℕ) (line column : ℕ) → length bytes ≤ most_file_bytes → StoppedAt TookLine (lines_of bytes) merging after bad_byte line column
      → IsMergedFileRefusal merging.least earlier bytes (BadByte line column)
  stopped_bad bytes line column few stop =
      whole_refused bytes stop.earlier stop.later stop.text after _ few stop.cut stop.taken (inl (column, inl (stop.stands, ap (λ n. BadByte n column) stop.number)))

  pub stopped_long : (bytes : List ℕ) (line column : ℕ) → length bytes ≤ most_file_bytes → StoppedAt TookLine (lines_of bytes) merging after long_name line column
      → IsMergedFileRefusal merging.least earlier bytes (NameTooLong line column)
  stopped_long bytes line column few stop =
      whole_refused bytes stop.earlier stop.later stop.text after _ few stop.cut stop.taken (inl (column, inr (stop.stands, ap (λ n. NameTooLong n column) stop.number)))

  pub refused_line : (bytes : List ℕ) (why : MergeFault) → length bytes ≤ most_file_bytes → Refused TookLine RefusedLine (lines_of bytes) merging after why → why ≢ NoMemory
      → IsMergedFileRefusal merging.least earlier bytes why
  refused_line bytes why few refusal apart =
      whole_refused bytes refusal.earlier refusal.later refusal.text refusal.between _ few refusal.cut refusal.taken
      (line_refused merging.least earlier refusal.earlier refusal.between refusal.text
      (IsTaken-all merging.least earlier [] refusal.earlier 1 merging refusal.between start refusal.taken.given) after.names why refusal.sound refusal.answer.why apart)

-- What stays: the old names and the old rows are in front

abbrev pub Keeps : Merging → Merging → Type 0
Keeps before after = ((added : List (List ℕ)) × (after.names ≡ before.names ++ added)) × ((added : List Row) × (after.rows ≡ before.rows ++ added))

keeps-given : (texts : List (List ℕ)) (n : ℕ) (v w : Merging) → WasGiven TookLine n texts v w → Keeps v w
keeps-given [] n v w given = (([], ap (λ (m : Merging). m.names) (sym given) ∙ sym (append-nil v.names)), ([], ap (λ (m : Merging). m.rows) (sym given) ∙ sym (append-nil v.rows)))
keeps-given (text ∷ texts) n v w (between, took, given) =
    let ((names, names_are), (rows, rows_are)) = keeps-given texts (n + 1) between w given in (
      (took.grown.added ++ names, names_are ∙ ap (λ l. l ++ names) took.grown.behind ∙ append_assoc v.names took.grown.added names),
      (took.row ∷ [] ++ rows, rows_are ∙ ap (λ l. l ++ rows) took.pushed ∙ append_assoc v.rows (took.row ∷ []) rows),
    )

pub keeps-all : (lines : List (List ℕ)) (v w : Merging) → TookAll TookLine lines v w → Keeps v w
keeps-all lines v w took = keeps-given lines 1 v w took.given

pub keeps-refused : (lines : List (List ℕ)) (v w : Merging) (why : MergeFault) → Refused TookLine RefusedLine lines v w why → Keeps v w
keeps-refused lines v w why refusal =
    let ((names, names_are), (rows, rows_are)) = keeps-all refusal.earlier v refusal.between refusal.taken in (
      (names ++ refusal.answer.added, refusal.answer.kept ∙ ap (λ l. l ++ refusal.answer.added) names_are ∙ append_assoc v.names names refusal.answer.added),
      (rows, refusal.answer.rows ∙ rows_are),
    )
