-- A line says one thing.
use Rattle.std.proofs.Common.{◌≡◌, ◌≢◌, ℕ, zero, suc, ◌+◌, ◌<◌, ◌==◌, inl, inr, true, false, List, [], ◌∷◌, ◌++◌, map, length, refl, sym, ap, ◌∙◌, subst, arith, true≢false}
use Rattle.std.proofs.lemmas.Bool.{cases_eq, ne_eqb}
use Rattle.std.proofs.lemmas.List.{append-nil}
use Rattle.std.specs.List.{slice_index_or}
use Rattle.mine_model.specs.Grammar.{value_of_digits}
use Rattle.std.specs.List.{AllByRecursion, join_with_byte}
use Rattle.mine_model.specs.declared.item.Item.{Item}
use Rattle.mine_model.specs.declared.row.Row.{Row}
use Rattle.mine_model.specs.Tokens.{Each}
use Rattle.std.specs.Char.{is_ascii_digit}
use Rattle.mine_model.specs.Text.{is_name_byte}
use Rattle.mine_model.specs.Grammar.{IsDecimal}
use Rattle.mine_model.specs.Names.{name_of, HasName}
use Rattle.pattern_proof.specs.Pieces.{IsWithout, BeginsWith}
use Rattle.pattern_proof.specs.ProofLines.{Cited, spaced, AreDecimals, is_path_line, SaysRow, SaysPath, AreFileNames}

pub cut-unique : (c : ℕ) (xs ys rest others : List ℕ) → IsWithout c xs → IsWithout c ys → BeginsWith c rest → BeginsWith c others
    → xs ++ rest ≡ ys ++ others → (xs ≡ ys) × (rest ≡ others)
cut-unique c [] [] rest others clean none begin also same = (refl, same)
cut-unique c [] (y ∷ ys) [] others clean none begin also same = absurd (cc)
cut-unique c [] (y ∷ ys) (r ∷ rest) others clean none begin also same = absurd (none.0 (let e : r ≡ y = cc in sym e ∙ begin))
cut-unique c (x ∷ xs) [] rest [] clean none begin also same = absurd (cc)
cut-unique c (x ∷ xs) [] rest (r ∷ others) clean none begin also same = absurd (clean.0 (let e : x ≡ r = cc in e ∙ also))
cut-unique c (x ∷ xs) (y ∷ ys) rest others clean none begin also same =
    let first : x ≡ y = cc in
    let later : xs ++ rest ≡ ys ++ others = cc in
    let more = cut-unique c xs ys rest others clean.1 none.1 begin also later in
    let behind : xs ≡ ys = more.0 in
    ((cc), more.1)

pub begins-spaced : (words : List (List ℕ)) → BeginsWith 32 (spaced words)
begins-spaced [] = tt
begins-spaced (word ∷ words) = refl

pub spaced-unique : (words others : List (List ℕ)) → AllByRecursion (IsWithout 32) words → AllByRecursion (IsWithout 32) others
    → spaced words ≡ spaced others → words ≡ others
spaced-unique [] [] clean none same = refl
spaced-unique [] (other ∷ others) clean none same = absurd (cc)
spaced-unique (word ∷ words) [] clean none same = absurd (cc)
spaced-unique (word ∷ words) (other ∷ others) clean none same =
    let later : word ++ spaced words ≡ other ++ spaced others = cc in
    let cut = cut-unique 32 word other (spaced words) (spaced others) clean.0 none.0 (begins-spaced words) (begins-spaced others) later in
    let first : word ≡ other = cut.0 in
    let rest : words ≡ others = spaced-unique words others clean.1 none.1 cut.1 in
    (cc)

pub join-spaced : (word : List ℕ) (words : List (List ℕ)) → join_with_byte 32 (word ∷ words) ≡ word ++ spaced words
join-spaced word [] = sym (append-nil word)
join-spaced word (next ∷ words) = ap (λ w. word ++ 32 ∷ w) (join-spaced next words)

pub join-unique : (words others : List (List ℕ)) → words ≢ [] → others ≢ [] → AllByRecursion (IsWithout 32) words → AllByRecursion (IsWithout 32) others
    → join_with_byte 32 words ≡ join_with_byte 32 others → words ≡ others
join-unique [] others some more clean none same = absurd (some refl)
join-unique (word ∷ words) [] some more clean none same = absurd (more refl)
join-unique (word ∷ words) (other ∷ others) some more clean none same =
    let e : word ++ spaced words ≡ other ++ spaced others = sym (join-spaced word words) ∙ same ∙ join-spaced other others in
    let cut = cut-unique 32 word other (spaced words) (spaced others) clean.0 none.0 (begins-spaced words) (begins-spaced others) e in
    let first : word ≡ other = cut.0 in
    let rest : words ≡ others = spaced-unique words others clean.1 none.1 cut.1 in
    (cc)

-- Bytes of words

not-digit : (c : ℕ) → is_ascii_digit c ≡ false → (bytes : List ℕ) → Each is_ascii_digit true bytes → IsWithout c bytes
not-digit c none [] each = tt
not-digit c none (b ∷ bytes) each = ((λ same. true≢false (sym each.0 ∙ ap is_ascii_digit same ∙ none)), not-digit c none bytes each.1)

not-name : (c : ℕ) → is_name_byte c ≡ false → (bytes : List ℕ) → Each is_name_byte true bytes → IsWithout c bytes
not-name c none [] each = tt
not-name c none (b ∷ bytes) each = ((λ same. true≢false (sym each.0 ∙ ap is_name_byte same ∙ none)), not-name c none bytes each.1)

pub digits-no-space : (digits : List ℕ) (n : ℕ) → IsDecimal digits n → IsWithout 32 digits
digits-no-space digits n is = not-digit 32 refl digits is.0

pub digits-no-tab : (digits : List ℕ) (n : ℕ) → IsDecimal digits n → IsWithout 9 digits
digits-no-tab digits n is = not-digit 9 refl digits is.0

pub decimals-no-space : (words : List (List ℕ)) (numbers : List ℕ) → AreDecimals words numbers → AllByRecursion (IsWithout 32) words
decimals-no-space [] numbers are = tt
decimals-no-space (word ∷ words) [] are = absurd are
decimals-no-space (word ∷ words) (n ∷ numbers) are = (digits-no-space word n are.0, decimals-no-space words numbers are.1)

pub decimals-unique : (words : List (List ℕ)) (ms ns : List ℕ) → AreDecimals words ms → AreDecimals words ns → ms ≡ ns
decimals-unique [] [] [] are also = refl
decimals-unique [] [] (n ∷ ns) are also = absurd also
decimals-unique [] (m ∷ ms) ns are also = absurd are
decimals-unique (word ∷ words) [] ns are also = absurd are
decimals-unique (word ∷ words) (m ∷ ms) [] are also = absurd also
decimals-unique (word ∷ words) (m ∷ ms) (n ∷ ns) are also =
    let first : m ≡ n = sym are.0.2 ∙ also.0.2 in
    let rest : ms ≡ ns = decimals-unique words ms ns are.1 also.1 in
    (cc)

-- What a line says

pub path-unique : (text : List ℕ) (p q : Cited) → SaysPath text p → SaysPath text q → p ≡ q
path-unique text p q (digits, words, is, number, states) (others, more, also, same_number, same_states) =
    let e : digits ++ spaced words ≡ others ++ spaced more = (let whole : 9 ∷ digits ++ spaced words ≡ 9 ∷ others ++ spaced more = sym is ∙ also in cc) in
    let cut = cut-unique 32 digits others (spaced words) (spaced more) (digits-no-space digits (p.place + 1) number) (digits-no-space others (q.place + 1) same_number) (begins-spaced words) (begins-spaced more) e in
    let d : digits ≡ others = cut.0 in
    let w : words ≡ more = spaced-unique words more (decimals-no-space words p.states states) (decimals-no-space more q.states same_states) cut.1 in
    let place : p.place ≡ q.place = (let a : p.place + 1 ≡ q.place + 1 = sym number.2 ∙ ap value_of_digits d ∙ same_number.2 in omega (arith, a)) in
    let run : p.states ≡ q.states = decimals-unique more p.states q.states (subst (λ l. AreDecimals l p.states) w states) same_states in
    λ i. record { place = place i; states = run i }

pub path-line : (text : List ℕ) (p : Cited) → SaysPath text p → is_path_line text ≡ true
path-line text p says = ap is_path_line says.2

not-tab : (d : ℕ) → is_ascii_digit d ≡ true → (d == 9) ≡ false
not-tab d is = elim (cases_eq d 9) [ inl same ↦ absurd (true≢false (sym is ∙ ap is_ascii_digit same)) | inr apart ↦ ne_eqb d 9 apart ]

pub row-line : (names : List (List ℕ)) (text : List ℕ) (row : Row) → SaysRow names text row → is_path_line text ≡ false
row-line names text row ([], is, number, some, known) = absurd (number.1 refl)
row-line names text row (d ∷ digits, is, number, some, known) = ap is_path_line is ∙ not-tab d number.0.0

pub all-at : (P : List ℕ → Type 0) (names : List (List ℕ)) (i : ℕ) → AllByRecursion P names → i < length names → P (slice_index_or names i [])
all-at P [] i all less = absurd (omega (arith, less))
all-at P (name ∷ names) zero all less = all.0
all-at P (name ∷ names) (suc i) all less = all-at P names i all.1 (omega (arith, less))

module _ (names : List (List ℕ)) (sound : AreFileNames names) where
  pub names-no-space : (items : List Item) → AllByRecursion (HasName names) items → AllByRecursion (IsWithout 32) (map (name_of names) items)
  names-no-space [] all = tt
  names-no-space (item ∷ items) all =
      (not-name 32 refl (name_of names item) (all-at (Each is_name_byte true) names item.0 sound.bytes all.0), names-no-space items all.1)

  pub items-unique : (items others : List Item) → AllByRecursion (HasName names) items → AllByRecursion (HasName names) others
      → map (name_of names) items ≡ map (name_of names) others → items ≡ others
  items-unique [] [] all also same = refl
  items-unique [] (w ∷ others) all also same = absurd (cc)
  items-unique (v ∷ items) [] all also same = absurd (cc)
  items-unique (v ∷ items) (w ∷ others) all also same =
      let name : name_of names v ≡ name_of names w = cc in
      let rest : map (name_of names) items ≡ map (name_of names) others = cc in
      let number : v.0 ≡ w.0 = sound.distinct v.0 w.0 all.0 also.0 name in
      let later : items ≡ others = items-unique items others all.1 also.1 rest in
      λ i. (let made : Item = record { 0 = number i } in made) ∷ later i

  some-names : (items : List Item) → items ≢ [] → map (name_of names) items ≢ []
  some-names [] some = absurd (some refl)
  some-names (v ∷ items) some = λ same. (cc)

  pub row-unique : (text : List ℕ) (r s : Row) → SaysRow names text r → SaysRow names text s → r ≡ s
  row-unique text r s (digits, is, number, some, known) (others, also, same_number, more, all) =
      let e : digits ++ 9 ∷ join_with_byte 32 (map (name_of names) r.pattern) ≡ others ++ 9 ∷ join_with_byte 32 (map (name_of names) s.pattern) = sym is ∙ also in
      let cut = cut-unique 9 digits others (9 ∷ join_with_byte 32 (map (name_of names) r.pattern)) (9 ∷ join_with_byte 32 (map (name_of names) s.pattern))
      (digits-no-tab digits r.support number) (digits-no-tab others s.support same_number) refl refl e in
      let joined : join_with_byte 32 (map (name_of names) r.pattern) ≡ join_with_byte 32 (map (name_of names) s.pattern) = (let t = cut.1 in cc) in
      let pattern : r.pattern ≡ s.pattern = items-unique r.pattern s.pattern known all
      (join-unique (map (name_of names) r.pattern) (map (name_of names) s.pattern) (some-names r.pattern some) (some-names s.pattern more)
      (names-no-space r.pattern known) (names-no-space s.pattern all) joined) in
      let support : r.support ≡ s.support = sym number.2 ∙ ap value_of_digits cut.0 ∙ same_number.2 in
      λ i. record { pattern = pattern i; support = support i }
