-- The form of a line that says a row.
use Rattle.std.proofs.Common.{◌≡◌, ◌≢◌, ℕ, zero, suc, ◌+◌, ◌≤◌, ◌<◌, get_or, true, false, List, [], ◌∷◌, ◌++◌, map, length, take, drop, ◌↔◌, nat_eq, refl, sym, ap, ◌∙◌, subst, true≢false, All, arith}
use Rattle.std.specs.Cmp.Lexicographic.{pointwise}
use Rattle.std.proofs.Math.Seq.{take-append_seam, drop-append_seam}
use Rattle.std.proofs.lemmas.List.{append_assoc, take-append-drop, length-map}
use Rattle.std.proofs.lemmas.Slice.Eq.{bytes_eq-Decides}
use Rattle.std.specs.List.{AllByRecursion, join_with_byte}
use Rattle.std.specs.Char.{is_ascii_digit}
use Rattle.mine_model.specs.Answer.{NamedRow}
use Rattle.mine_model.specs.Bytes.{tab, space}
use Rattle.mine_model.specs.Grammar.{IsDecimal}
use Rattle.mine_model.specs.Limits.{most_support}
use Rattle.mine_model.specs.Text.{is_name_byte, Field, fields_from, fields_of}
use Rattle.mine_model.specs.Tokens.{Each}
use Rattle.mine_model.proofs.ListLemmas.{AllByRecursion-weaker}
use Rattle.mine_model.specs.Names.{IsFileName}
use Rattle.mine_model.proofs.FieldLemmas.{fields-named}
use Rattle.text_ports.specs.declared.lines.Span.{Span}
use Rattle.text_ports.specs.Lines.{AreFields, IsWithin}
use Rattle.text_ports.proofs.DecimalLemmas.{digit-name}
use Rattle.item_names.specs.Fields.{texts_at}
use Rattle.item_names.proofs.FieldLemmas.{fields_are_texts, texts_at-more}
use Rattle.split_merge.specs.Merging.{IsRowLine}
use Rattle.split_merge.specs.Taking.{IsSaidBy}
use Rattle.split_merge.proofs.JoinLemmas.{join-push}
use Rattle.split_merge.proofs.SoundLemmas.{blank-cut, join-pieces, fields-texts}

-- the fields of a line that says a row are its digits and its names
pub row-fields : (least : ℕ) (line : List ℕ) (row : NamedRow) (is : IsRowLine least line row) → fields_of line ≡ is.digits ∷ row.pattern
row-fields least line row is =
    let digits : Each is_name_byte true is.digits = AllByRecursion-weaker (λ b. is_ascii_digit b ≡ true) (λ b. is_name_byte b ≡ true) digit-name is.digits is.number.0 in
    ap fields_of is.spelled
    ∙ ap (λ l. map (λ (f : Field). f.text) (fields_from 1 l)) (blank-cut is.digits (join_with_byte space row.pattern) tab refl digits
    ∙ ap (λ l. is.digits ∷ l) (join-pieces row.pattern is.some is.names))
    ∙ fields-texts 1 (is.digits ∷ row.pattern) (is.number.1, AllByRecursion-weaker IsFileName (λ p. p ≢ []) (λ n t. t.0) row.pattern is.names)

module _ (least : ℕ) (line : List ℕ) (spans : List Span) (are : AreFields line spans) where
  -- a line that says a row has its digits and its names at the spans
  pub row-texts : (row : NamedRow) (is : IsRowLine least line row) → texts_at line spans ≡ is.digits ∷ row.pattern
  row-texts row is = sym (fields_are_texts line spans are) ∙ row-fields least line row is

  -- no row is said where no span is
  pub none-said : length spans ≡ 0 → (row : NamedRow) → IsRowLine least line row → ⊥
  none-said none row is =
      let texts = ap length (row-texts row is) in
      let whole = length-map spans (λ (span : Span). Rattle.std.specs.List.slice_range line span.from span.to) in
      omega (arith, texts, whole, none)

  module _ (first : Span) (others : List Span) (cut : spans ≡ first ∷ others) where
    abbrev digits : List ℕ
    digits = Rattle.std.specs.List.slice_range line first.from first.to

    both : (row : NamedRow) (is : IsRowLine least line row) → (digits ≡ is.digits) × (texts_at line others ≡ row.pattern)
    both row is =
        let whole : digits ∷ texts_at line others ≡ is.digits ∷ row.pattern = sym (ap (texts_at line) cut) ∙ row-texts row is in
        (cc, cc)

    pub no-names : length others ≡ 0 → (row : NamedRow) → IsRowLine least line row → ⊥
    no-names none row is = is.some (sym (both row is).1 ∙ ap (texts_at line) (empty others none))
      where
        empty : (spans : List Span) → length spans ≡ 0 → spans ≡ []
        empty [] none = refl
        empty (span ∷ spans) none = absurd (omega (arith, none))

    pub no-support : ((n : ℕ) → IsDecimal digits n → least ≤ n → n ≤ most_support → ⊥) → (row : NamedRow) → IsRowLine least line row → ⊥
    no-support none row is = none row.support (subst (λ d. IsDecimal d row.support) (sym (both row is).0) is.number) is.least is.most

    pub not-spelled : (joined : List ℕ) → joined ≡ join_with_byte space (texts_at line others) → (line ≡ digits ++ tab ∷ joined → ⊥)
        → (row : NamedRow) → IsRowLine least line row → ⊥
    not-spelled joined joins other row is =
        let same : digits ++ tab ∷ joined ≡ is.digits ++ tab ∷ join_with_byte space row.pattern =
        (λ j. (both row is).0 j ++ tab ∷ (joins ∙ ap (join_with_byte space) (both row is).1) j) in
        other (is.spelled ∙ sym same)

    pub said-by : (joined : List ℕ) (support : ℕ) → joined ≡ join_with_byte space (texts_at line others) → line ≡ digits ++ tab ∷ joined
        → IsDecimal digits support → least ≤ support → support ≤ most_support → (others ≡ [] → ⊥) → All (IsWithin (length line)) others → IsSaidBy least line support others joined
    said-by joined support joins spelled number at_least at_most some within = record {
      says = record {
        digits = digits;
        spelled = spelled ∙ ap (λ j. digits ++ tab ∷ j) joins;
        number = number;
        least = at_least;
        most = at_most;
        some = λ none. some (no-texts others none);
        names = (subst (AllByRecursion IsFileName) (fields_are_texts line spans are ∙ ap (texts_at line) cut) (fields-named line)).1;
      };
      within = within;
      joined_is = joins;
    }
      where
        no-texts : (spans : List Span) → texts_at line spans ≡ [] → spans ≡ []
        no-texts [] none = refl
        no-texts (span ∷ spans) none = cc

-- Texts that begin with digits

module _ (text digits : List ℕ) where
  -- what is left behind the digits is a tab and the names where the text is spelled so
  pub spelled-is : (names rest : List ℕ) → pointwise nat_eq (take (length digits) text) digits ≡ true → rest ≡ drop (length digits) text
      → (rest ≡ tab ∷ names) ↔ (text ≡ digits ++ tab ∷ names)
  spelled-is names rest same is =
      let front : take (length digits) text ≡ digits = (bytes_eq-Decides (take (length digits) text) digits).0 same in
      let whole : digits ++ rest ≡ text = ap (λ w. w ++ rest) (sym front) ∙ ap (λ w. take (length digits) text ++ w) is ∙ take-append-drop (length digits) text in (
        (λ behind. sym whole ∙ ap (λ w. digits ++ w) behind),
        (λ spelled. is ∙ ap (drop (length digits)) spelled ∙ drop-append_seam digits (tab ∷ names)),
      )

  pub not-stripped : (names : List ℕ) → pointwise nat_eq (take (length digits) text) digits ≡ false → text ≡ digits ++ tab ∷ names → ⊥
  not-stripped names other spelled =
      let front : take (length digits) text ≡ digits = ap (take (length digits)) spelled ∙ take-append_seam digits (tab ∷ names) in
      true≢false (sym ((bytes_eq-Decides (take (length digits) text) digits).1 front) ∙ other)

-- Names that are joined one after another

module _ (line : List ℕ) where
  abbrev pub text_at : Span → List ℕ
  text_at span = Rattle.std.specs.List.slice_range line span.from span.to

  pub joined-first : (spans : List Span) (i : ℕ) (d : Span) (joined after : List ℕ) → i < length spans → i ≤ 0
      → joined ≡ join_with_byte space (texts_at line (take i spans)) → after ≡ joined ++ text_at (get_or spans i d)
      → after ≡ join_with_byte space (texts_at line (take (i + 1) spans))
  joined-first [] i d joined after within low joins is = absurd (omega (arith, within))
  joined-first (span ∷ spans) zero d joined after within low joins is = is ∙ ap (λ w. w ++ text_at span) joins
  joined-first (span ∷ spans) (suc i) d joined after within low joins is = absurd (omega (arith, low))

  some-texts : (spans : List Span) (i : ℕ) → i < length spans → 0 < i → texts_at line (take i spans) ≢ []
  some-texts [] i within later = absurd (omega (arith, within))
  some-texts (span ∷ spans) zero within later = absurd (omega (arith, later))
  some-texts (span ∷ spans) (suc i) within later = λ none. cc

  pub joined-next : (spans : List Span) (i : ℕ) (d : Span) (joined after : List ℕ) → i < length spans → 0 < i
      → joined ≡ join_with_byte space (texts_at line (take i spans)) → after ≡ (joined ++ space ∷ []) ++ text_at (get_or spans i d)
      → after ≡ join_with_byte space (texts_at line (take (i + 1) spans))
  joined-next spans i d joined after within later joins is =
      is ∙ append_assoc joined (space ∷ []) (text_at (get_or spans i d)) ∙ ap (λ w. w ++ space ∷ text_at (get_or spans i d)) joins
      ∙ sym (join-push (texts_at line (take i spans)) (text_at (get_or spans i d)) (some-texts spans i within later))
      ∙ ap (join_with_byte space) (sym (texts_at-more line spans i d within))
