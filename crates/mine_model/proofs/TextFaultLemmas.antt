-- The first fault of a text is one.
use Rattle.std.proofs.Common.{◌≡◌, inl, inr, ℕ, ◌+◌, ◌-◌, ◌<◌, ◌≤◌, Bool, true, false, cond, List, [], ◌∷◌, ◌++◌, length, Contains, refl, sym, ap, ◌∙◌, subst, arith, suc, zero}
use Rattle.std.specs.List.{slice_index_or}
use Rattle.mine_model.specs.Text.{is_name_byte, is_bad_byte, pieces_by_blank, onto_first, Field, fields_from, TextFault, bad_byte, long_name, HasTextFault, IsFirstTextFault}
use Rattle.mine_model.proofs.ListLemmas.{Contains-cases, Contains-other, Contains-none}

-- the bytes of the first piece are bytes of a name
names_first : (line piece : List ℕ) (pieces : List (List ℕ)) → pieces_by_blank line ≡ piece ∷ pieces
    → (j : ℕ) → j < length piece → is_name_byte (slice_index_or line j 0) ≡ true
names_first [] piece pieces cut j less =
    let none : [] ≡ piece = cc in
    let short : j < 0 = subst (λ p. j < length p) (sym none) less in
    absurd (omega (arith, short))
names_first (b ∷ bytes) piece pieces cut j less = by (names_first bytes) (is_name_byte b) refl (pieces_by_blank bytes) refl
  where
    by : ((piece : List ℕ) (pieces : List (List ℕ)) → pieces_by_blank bytes ≡ piece ∷ pieces → (j : ℕ) → j < length piece → is_name_byte (slice_index_or bytes j 0) ≡ true)
        → (name : Bool) → is_name_byte b ≡ name → (rest : List (List ℕ)) → pieces_by_blank bytes ≡ rest
        → is_name_byte (slice_index_or (b ∷ bytes) j 0) ≡ true
    by before false is rest e =
        let same : [] ∷ rest ≡ piece ∷ pieces = sym (ap (λ r. [] ∷ r) e) ∙ sym (ap (λ x. cond x (onto_first b (pieces_by_blank bytes)) ([] ∷ pieces_by_blank bytes)) is) ∙ cut in
        let none : [] ≡ piece = cc in
        let short : j < 0 = subst (λ p. j < length p) (sym none) less in
        absurd (omega (arith, short))
    by before true is [] e =
        let same : (b ∷ []) ∷ [] ≡ piece ∷ pieces = sym (ap (onto_first b) e) ∙ sym (ap (λ x. cond x (onto_first b (pieces_by_blank bytes)) ([] ∷ pieces_by_blank bytes)) is) ∙ cut in
        let one : b ∷ [] ≡ piece = cc in
        let short : j < 1 = subst (λ p. j < length p) (sym one) less in
        let first : j ≡ 0 = omega (arith, short) in
        subst (λ n. is_name_byte (slice_index_or (b ∷ bytes) n 0) ≡ true) (sym first) is
    by before true is (q ∷ qs) e =
        let same : (b ∷ q) ∷ qs ≡ piece ∷ pieces = sym (ap (onto_first b) e) ∙ sym (ap (λ x. cond x (onto_first b (pieces_by_blank bytes)) ([] ∷ pieces_by_blank bytes)) is) ∙ cut in
        let one : b ∷ q ≡ piece = cc in
        at j (subst (λ p. j < length p) (sym one) less)
      where
        at : (j : ℕ) → j < length (b ∷ q) → is_name_byte (slice_index_or (b ∷ bytes) j 0) ≡ true
        at zero less = is
        at (suc i) less = before q qs e i (omega (arith, less))

-- the byte of a field stands in the line where the field says, where the line's first byte has the column k
abbrev IsAt : List ℕ → ℕ → Field → ℕ → Type 0
IsAt line k field j = (k ≤ field.column) × (is_name_byte (slice_index_or line (field.column - k + j) 0) ≡ true)

one_more : (b : ℕ) (bytes : List ℕ) (k : ℕ) (field : Field) (j : ℕ) → IsAt bytes (k + 1) field j → IsAt (b ∷ bytes) k field j
one_more b bytes k field j (less, is) =
    let before : k ≤ field.column = omega (arith, less) in
    let next : field.column - k + j ≡ suc (field.column - (k + 1) + j) = omega (arith, less) in
    (before, subst (λ n. is_name_byte (slice_index_or (b ∷ bytes) n 0) ≡ true) (sym next) is)

names_in_fields : (line : List ℕ) (k : ℕ) (field : Field) → Contains (fields_from k (pieces_by_blank line)) field
    → (j : ℕ) → j < length field.text → IsAt line k field j
names_in_fields [] k field inside j less = absurd (Contains-none field inside)
names_in_fields (b ∷ bytes) k field inside j less = by (λ held. names_in_fields bytes (k + 1) field held j less) (is_name_byte b) refl (pieces_by_blank bytes) refl
  where
    opened : (name : Bool) → is_name_byte b ≡ name → pieces_by_blank (b ∷ bytes) ≡ cond name (onto_first b (pieces_by_blank bytes)) ([] ∷ pieces_by_blank bytes)
    opened name is = ap (λ x. cond x (onto_first b (pieces_by_blank bytes)) ([] ∷ pieces_by_blank bytes)) is

    later : (q : List ℕ) (qs : List (List ℕ)) → Contains (fields_from (k + length (b ∷ q) + 1) qs) field → Contains (fields_from (k + 1) (q ∷ qs)) field
    later [] qs held = held
    later (c ∷ q) qs held =
        let number : k + length (b ∷ c ∷ q) + 1 ≡ k + 1 + length (c ∷ q) + 1 = omega arith in
        Contains-other (record { column = k + 1; text = c ∷ q }) (fields_from (k + 1 + length (c ∷ q) + 1) qs) field
        (subst (λ n. Contains (fields_from n qs) field) number held)

    by : (Contains (fields_from (k + 1) (pieces_by_blank bytes)) field → IsAt bytes (k + 1) field j)
        → (name : Bool) → is_name_byte b ≡ name → (rest : List (List ℕ)) → pieces_by_blank bytes ≡ rest → IsAt (b ∷ bytes) k field j
    by before false is rest e =
        one_more b bytes k field j (before (subst (λ p. Contains (fields_from k p) field) (opened false is) inside))
    by before true is [] e =
        let held : Contains (fields_from k ((b ∷ []) ∷ [])) field =
        subst (λ p. Contains (fields_from k p) field) (opened true is ∙ ap (onto_first b) e) inside in
        elim (Contains-cases (record { column = k; text = b ∷ [] }) [] field held) [
          | inl same ↦
              let column : field.column ≡ k = ap (λ (f : Field). f.column) same in
              let text : field.text ≡ b ∷ [] = ap (λ (f : Field). f.text) same in
              let short : j < 1 = subst (λ t. j < length t) text less in
              let at : field.column - k + j ≡ 0 = omega (arith, column, short) in
              (omega (arith, column), subst (λ n. is_name_byte (slice_index_or (b ∷ bytes) n 0) ≡ true) (sym at) is)
          | inr none ↦ absurd (Contains-none field none)
        ]
    by before true is (q ∷ qs) e =
        let held : Contains (fields_from k ((b ∷ q) ∷ qs)) field =
        subst (λ p. Contains (fields_from k p) field) (opened true is ∙ ap (onto_first b) e) inside in
        elim (Contains-cases (record { column = k; text = b ∷ q }) (fields_from (k + length (b ∷ q) + 1) qs) field held) [
          | inl same ↦
              let column : field.column ≡ k = ap (λ (f : Field). f.column) same in
              let text : field.text ≡ b ∷ q = ap (λ (f : Field). f.text) same in
              let at : field.column - k + j ≡ j = omega (arith, column) in (
                omega (arith, column),
                subst (λ n. is_name_byte (slice_index_or (b ∷ bytes) n 0) ≡ true) (sym at)
                    (names_first (b ∷ bytes) (b ∷ q) qs (opened true is ∙ ap (onto_first b) e) j (subst (λ t. j < length t) text less)),
              )
          | inr other ↦ one_more b bytes k field j
              (before (subst (λ p. Contains (fields_from (k + 1) p) field) (sym e) (later q qs other)))
        ]

byte_at : (before : List ℕ) (b : ℕ) (after : List ℕ) → slice_index_or (before ++ b ∷ after) (length before) 0 ≡ b
byte_at [] b after = refl
byte_at (c ∷ before) b after = byte_at before b after

bad_is_no_name : (b : ℕ) → is_bad_byte b ≡ true → is_name_byte b ≡ true → ⊥
bad_is_no_name b bad is = grind (arith, bad, is)

-- no bad byte is the byte of a name that is too many
one_kind : (line : List ℕ) (column : ℕ) → HasTextFault line bad_byte column → HasTextFault line long_name column → ⊥
one_kind line column (before, b, after, whole, at, bad) (field, inside, long, also) =
    let less : 255 < length field.text = long in
    let named = names_in_fields line 1 field inside 255 less in
    let first : 1 ≤ field.column = named.0 in
    let number : field.column - 1 + 255 ≡ length before = omega (arith, first, at, also) in
    let byte : slice_index_or line (field.column - 1 + 255) 0 ≡ b =
    ap (λ n. slice_index_or line n 0) number ∙ ap (λ l. slice_index_or l (length before) 0) whole ∙ byte_at before b after in
    bad_is_no_name b bad (subst (λ x. is_name_byte x ≡ true) byte named.1)

pub text-unique : (line : List ℕ) (f g : TextFault) (c d : ℕ) → IsFirstTextFault line f c → IsFirstTextFault line g d → (f ≡ g) × (c ≡ d)
text-unique line f g c d p q =
    let least : c ≤ d = p.1 g d q.0 in
    let also : d ≤ c = q.1 f c p.0 in
    let same : c ≡ d = omega (arith, least, also) in
    (kinds f g p.0 (subst (HasTextFault line g) (sym same) q.0), same)
  where
    kinds : (f g : TextFault) → HasTextFault line f c → HasTextFault line g c → f ≡ g
    kinds bad_byte bad_byte p q = refl
    kinds bad_byte long_name p q = absurd (one_kind line c p q)
    kinds long_name bad_byte p q = absurd (one_kind line c q p)
    kinds long_name long_name p q = refl

pub bad≢long : bad_byte ≡ long_name → ⊥
bad≢long same = cc
