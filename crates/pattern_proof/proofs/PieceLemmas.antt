-- Words that stand behind spaces, read one after another.
use Rattle.std.proofs.Common.{◌≡◌, ℕ, ◌+◌, ◌-◌, ◌<◌, ◌≤◌, ◌^◌, suc, zero, inl, inr, List, [], ◌∷◌, ◌++◌, map, length, take, drop, refl, sym, ap, ◌∙◌, subst, arith, Contains, append_assoc, Some, true, true≢false}
use Rattle.std.proofs.lemmas.List.{append-nil, take-append-drop, drop-drop, map-append, get_or_default}
use Rattle.std.proofs.lemmas.Bool.{eqb-true}
use Rattle.std.proofs.lemmas.Option.{slice_get_within, get_or_from_slice_get}
use Rattle.std.specs.List.{AllByRecursion, join_with_byte, slice_get}
use Rattle.mine_model.specs.declared.item.Item.{Item}
use Rattle.mine_model.specs.declared.row.Row.{Row}
use Rattle.mine_model.specs.Grammar.{IsDecimal}
use Rattle.mine_model.specs.Names.{name_of, HasName}
use Rattle.mine_model.proofs.ListLemmas.{Contains-first, Contains-other, Contains-cases, Contains-none, Contains-from, AllByRecursion-contained}
use Rattle.pattern_proof.specs.Pieces.{IsWithout, BeginsWith}
use Rattle.pattern_proof.specs.ProofLines.{Cited, spaced, AreDecimals, is_path_line, SaysRow, SaysPath, AreFileNames}
use Rattle.pattern_proof.specs.Reading.{SaysNames, SaysStates, AreSmall}
use Rattle.pattern_proof.proofs.TextLemmas.{cut-unique, begins-spaced, join-spaced, digits-no-space, digits-no-tab, names-no-space, decimals-no-space}

drop-next : (b n : ℕ) (text : List ℕ) → drop (suc n) (b ∷ text) ≡ drop n text
drop-next b n text = refl

drop-behind : (b n : ℕ) (text : List ℕ) → drop (n + 1) (b ∷ text) ≡ drop n text
drop-behind b n text = ap (λ k. drop k (b ∷ text)) (let e : n + 1 ≡ suc n = omega arith in e) ∙ drop-next b n text

pub spaced-push : (words : List (List ℕ)) (word rest : List ℕ) → spaced (words ++ word ∷ []) ++ rest ≡ spaced words ++ (32 ∷ (word ++ rest))
spaced-push [] word rest = ap (λ l. (32 ∷ l) ++ rest) (append-nil word)
spaced-push (w ∷ words) word rest =
    append_assoc (32 ∷ w) (spaced (words ++ word ∷ [])) rest ∙ ap (λ l. (32 ∷ w) ++ l) (spaced-push words word rest)
    ∙ sym (append_assoc (32 ∷ w) (spaced words) (32 ∷ (word ++ rest)))

pub begins-cut : (c : ℕ) (text : List ℕ) (at : ℕ) → at < length text → BeginsWith c (drop at text) → drop at text ≡ c ∷ drop (at + 1) text
begins-cut c [] at less begins = absurd (omega (arith, less))
begins-cut c (b ∷ text) zero less begins = ap (λ d. d ∷ text) begins
begins-cut c (b ∷ text) (suc at) less begins =
    drop-next b at text ∙ begins-cut c text at (omega (arith, less)) (subst (BeginsWith c) (drop-next b at text) begins)
    ∙ ap (λ l. c ∷ l) (sym (drop-next b (at + 1) text) ∙ ap (λ n. drop n (b ∷ text)) (let e : suc (at + 1) ≡ suc at + 1 = omega arith in e))

-- one more word was read
pub said-more : (text : List ℕ) (at d end : ℕ) (words : List (List ℕ)) → at < length text → BeginsWith 32 (drop at text) → end ≡ at + 1 + d
    → text ≡ spaced words ++ drop at text → text ≡ spaced (words ++ take d (drop (at + 1) text) ∷ []) ++ drop end text
said-more text at d end words less begins is said =
    let behind : drop d (drop (at + 1) text) ≡ drop end text = drop-drop d (at + 1) text ∙ ap (λ n. drop n text) (let e : at + 1 + d ≡ end = sym is in e) in
    let rest : drop (at + 1) text ≡ take d (drop (at + 1) text) ++ drop end text =
    sym (take-append-drop d (drop (at + 1) text)) ∙ ap (λ l. take d (drop (at + 1) text) ++ l) behind in
    let cut : drop at text ≡ 32 ∷ (take d (drop (at + 1) text) ++ drop end text) = begins-cut 32 text at less begins ∙ ap (λ l. 32 ∷ l) rest in
    said ∙ ap (λ l. spaced words ++ l) cut ∙ sym (spaced-push words (take d (drop (at + 1) text)) (drop end text))

-- where other words have the same text, the next piece is one of them
pub piece-held : (words others : List (List ℕ)) (piece tail : List ℕ) → AllByRecursion (IsWithout 32) words → AllByRecursion (IsWithout 32) others → IsWithout 32 piece → BeginsWith 32 tail
    → spaced others ≡ spaced words ++ (32 ∷ (piece ++ tail)) → Contains others piece
piece-held [] [] piece tail clean none bare begins same = absurd (cc)
piece-held [] (o ∷ others) piece tail clean none bare begins same =
    let e : o ++ spaced others ≡ piece ++ tail = cc in
    let cut = cut-unique 32 o piece (spaced others) tail none.0 bare (begins-spaced others) begins e in
    subst (λ p. Contains (o ∷ others) p) cut.0 (Contains-first o others)
piece-held (w ∷ words) [] piece tail clean none bare begins same = absurd (cc)
piece-held (w ∷ words) (o ∷ others) piece tail clean none bare begins same =
    let e : o ++ spaced others ≡ (w ++ spaced words) ++ (32 ∷ (piece ++ tail)) = behind same in
    let cut = cut-unique 32 o w (spaced others) (spaced words ++ (32 ∷ (piece ++ tail))) none.0 clean.0 (begins-spaced others) (begins-more words (piece ++ tail))
    (e ∙ append_assoc w (spaced words) (32 ∷ (piece ++ tail))) in
    Contains-other o others piece (piece-held words others piece tail clean.1 none.1 bare begins cut.1)
  where
    behind : {x y : ℕ} {xs ys : List ℕ} → x ∷ xs ≡ y ∷ ys → xs ≡ ys
    behind e = cc

    begins-more : (words : List (List ℕ)) (rest : List ℕ) → BeginsWith 32 (spaced words ++ (32 ∷ rest))
    begins-more [] rest = refl
    begins-more (word ∷ words) rest = refl

-- the piece behind the words that were read
pub next-piece : (text : List ℕ) (at d : ℕ) (words others : List (List ℕ)) → at < length text → BeginsWith 32 (drop at text) → text ≡ spaced words ++ drop at text
    → IsWithout 32 (take d (drop (at + 1) text)) → BeginsWith 32 (drop d (drop (at + 1) text)) → AllByRecursion (IsWithout 32) words → AllByRecursion (IsWithout 32) others
    → spaced others ≡ text → Contains others (take d (drop (at + 1) text))
next-piece text at d words others less begins said bare behind clean none same =
    let cut : drop at text ≡ 32 ∷ (take d (drop (at + 1) text) ++ drop d (drop (at + 1) text)) =
    begins-cut 32 text at less begins ∙ ap (λ l. 32 ∷ l) (sym (take-append-drop d (drop (at + 1) text))) in
    piece-held words others (take d (drop (at + 1) text)) (drop d (drop (at + 1) text)) clean none bare behind (same ∙ said ∙ ap (λ l. spaced words ++ l) cut)

-- States

pub decimal-held : (words : List (List ℕ)) (numbers : List ℕ) (piece : List ℕ) → AreDecimals words numbers → AreSmall numbers → Contains words piece → (n : ℕ) × IsDecimal piece n × (n < 2 ^ 32)
decimal-held [] numbers piece are small held = absurd (Contains-none piece held)
decimal-held (word ∷ words) [] piece are small held = absurd are
decimal-held (word ∷ words) (n ∷ numbers) piece are small held = elim (Contains-cases word words piece held) [
  | inl same ↦ (n, subst (λ w. IsDecimal w n) (sym same) are.0, small.0)
  | inr later ↦ decimal-held words numbers piece are.1 small.1 later
]

pub decimals-push : (words : List (List ℕ)) (numbers : List ℕ) (word : List ℕ) (n : ℕ) → AreDecimals words numbers → IsDecimal word n → AreDecimals (words ++ word ∷ []) (numbers ++ n ∷ [])
decimals-push [] [] word n are is = (is, tt)
decimals-push [] (m ∷ numbers) word n are is = absurd are
decimals-push (w ∷ words) [] word n are is = absurd are
decimals-push (w ∷ words) (m ∷ numbers) word n are is = (are.0, decimals-push words numbers word n are.1 is)

-- Names

module _ (names : List (List ℕ)) where
  -- all of the text was read
  pub names-said : (text : List ℕ) (items : List Item) → 32 ∷ text ≡ spaced (map (name_of names) items) → AllByRecursion (HasName names) items → SaysNames names text items
  names-said text [] said named = absurd (cc)
  names-said text (item ∷ items) said named =
      let e : text ≡ name_of names item ++ spaced (map (name_of names) items) = cc in
      (e ∙ sym (join-spaced (name_of names item) (map (name_of names) items)), (λ none. cc), named)

  pub said-spaced : (text : List ℕ) (items : List Item) → SaysNames names text items → spaced (map (name_of names) items) ≡ 32 ∷ text
  said-spaced text [] (said, some, named) = absurd (some refl)
  said-spaced text (item ∷ items) (said, some, named) = ap (λ l. 32 ∷ l) (sym (said ∙ join-spaced (name_of names item) (map (name_of names) items)))

-- Lines that are cut at a byte

module _ (names : List (List ℕ)) (text : List ℕ) (end : ℕ) (bare : IsWithout 9 (take end text)) (behind : BeginsWith 9 (drop end text)) where
  -- the digits of a row line, and what stands from its tab on
  pub row-cut : (row : Row) (says : SaysRow names text row) → (take end text ≡ says.0) × (drop end text ≡ 9 ∷ join_with_byte 32 (map (name_of names) row.pattern))
  row-cut row (digits, is, number, some, known) =
      cut-unique 9 (take end text) digits (drop end text) (9 ∷ join_with_byte 32 (map (name_of names) row.pattern)) bare (digits-no-tab digits row.support number) behind refl
      (take-append-drop end text ∙ is)

module _ (text : List ℕ) (end : ℕ) (bare : IsWithout 32 (take end text)) (behind : BeginsWith 32 (drop end text)) where
  -- the digits of a path line behind its tab, and what stands from the first space on
  pub path-cut : (path : Cited) (says : SaysPath (9 ∷ text) path) → IsDecimal (take end text) (path.place + 1) × SaysStates (drop end text) path.states
  path-cut path (digits, words, is, number, states) =
      let cut = cut-unique 32 (take end text) digits (drop end text) (spaced words) bare (digits-no-space digits (path.place + 1) number) behind (begins-spaced words)
      (take-append-drop end text ∙ (let e : text ≡ digits ++ spaced words = cc in e)) in
      (subst (λ w. IsDecimal w (path.place + 1)) (sym cut.0) number, (words, cut.1, states))

-- One more name or state

module _ (names : List (List ℕ)) (text : List ℕ) (items : List Item) (from d end : ℕ) (inside : from ≤ length text) (begins : BeginsWith 32 (drop from (32 ∷ text))) (ends : end ≡ from + d)
    (said : 32 ∷ text ≡ spaced (map (name_of names) items) ++ drop from (32 ∷ text)) where
  after : drop (from + 1) (32 ∷ text) ≡ drop from text
  after = drop-behind 32 from text

  pub names-more : (item : Item) → name_of names item ≡ take d (drop from text) → 32 ∷ text ≡ spaced (map (name_of names) (items ++ item ∷ [])) ++ drop (end + 1) (32 ∷ text)
  names-more item named =
      let more = said-more (32 ∷ text) from d (end + 1) (map (name_of names) items) (omega (arith, inside)) begins (omega (arith, ends)) said in
      let word : take d (drop (from + 1) (32 ∷ text)) ≡ name_of names item = ap (take d) after ∙ sym named in
      more ∙ ap (λ w. spaced (map (name_of names) items ++ w ∷ []) ++ drop (end + 1) (32 ∷ text)) word
      ∙ ap (λ l. spaced l ++ drop (end + 1) (32 ∷ text)) (sym (map-append (name_of names) items (item ∷ [])))

  pub names-held : AreFileNames names → AllByRecursion (HasName names) items → IsWithout 32 (take d (drop from text)) → BeginsWith 32 (drop d (drop from text))
      → (others : List Item) → SaysNames names text others → Contains names (take d (drop from text))
  names-held sound named bare behind others says =
      let held : Contains (map (name_of names) others) (take d (drop from text)) =
      subst (λ l. Contains (map (name_of names) others) (take d l)) after
      (next-piece (32 ∷ text) from d (map (name_of names) items) (map (name_of names) others) (omega (arith, inside)) begins said
      (subst (λ l. IsWithout 32 (take d l)) (sym after) bare) (subst (λ l. BeginsWith 32 (drop d l)) (sym after) behind)
      (names-no-space names sound items named) (names-no-space names sound others says.2) (said-spaced names text others says)) in
      let (item, among, is) = Contains-from (name_of names) others (take d (drop from text)) held in
      let known = AllByRecursion-contained (HasName names) others item says.2 among in
      (item.0, known, get_or_default names item.0 (take d (drop from text)) [] known ∙ sym is)

  pub begins-next : BeginsWith 32 (drop d (drop from text)) → BeginsWith 32 (drop (end + 1) (32 ∷ text))
  begins-next behind = subst (BeginsWith 32) (drop-drop d from text ∙ ap (λ n. drop n text) (let e : from + d ≡ end = sym ends in e) ∙ sym (drop-behind 32 end text)) behind

pub name-found : (names : List (List ℕ)) (item : Item) (name : List ℕ) → slice_get names item.0 ≡ Some name → (name_of names item ≡ name) × HasName names item
name-found names item name found = (get_or_from_slice_get names item.0 name [] found, slice_get_within names item.0 name found)

-- What is left of a text, and a piece of it, as they are read

pub piece-read : (text : List ℕ) (n d : ℕ) → take (n + d - n) (drop n text) ≡ take d (drop n text)
piece-read text n d = ap (λ k. take k (drop n text)) (let e : n + d - n ≡ d = omega arith in e)

module _ (text : List ℕ) (at d : ℕ) (words : List (List ℕ)) (numbers : List ℕ) (less : at < length text) (begins : BeginsWith 32 (drop at text)) (are : AreDecimals words numbers)
    (said : text ≡ spaced words ++ drop at text) where
  pub state-refused : IsWithout 32 (take d (drop (at + 1) text)) → BeginsWith 32 (drop d (drop (at + 1) text)) → ((n : ℕ) → IsDecimal (take d (drop (at + 1) text)) n → n < 2 ^ 32 → ⊥)
      → (others : List ℕ) → SaysStates text others → AreSmall others → ⊥
  state-refused bare behind none others (more, is, also) small =
      let held = next-piece text at d words more less begins said bare behind (decimals-no-space words numbers are) (decimals-no-space more others also) (sym is) in
      let (n, decimal, few) = decimal-held more others (take d (drop (at + 1) text)) also small held in
      none n decimal few

  pub state-more : (end n : ℕ) → end ≡ at + 1 + d → IsDecimal (take d (drop (at + 1) text)) n
      → (all : List (List ℕ)) × AreDecimals all (numbers ++ n ∷ []) × (text ≡ spaced all ++ drop end text)
  state-more end n ends is =
      (words ++ take d (drop (at + 1) text) ∷ [], decimals-push words numbers (take d (drop (at + 1) text)) n are is, said-more text at d end words less begins ends said)

  pub begins-end : (end : ℕ) → end ≡ at + 1 + d → BeginsWith 32 (drop d (drop (at + 1) text)) → BeginsWith 32 (drop end text)
  begins-end end ends behind = subst (BeginsWith 32) (drop-drop d (at + 1) text ∙ ap (λ n. drop n text) (sym ends)) behind

-- Lines as they are read

pub tail-cut : (text : List ℕ) (n b : ℕ) (rest : List ℕ) → drop n text ≡ b ∷ rest → drop (n + 1) text ≡ rest
tail-cut text n b rest cut = sym (drop-drop 1 n text) ∙ ap (drop 1) cut

pub path-head : (text : List ℕ) → is_path_line text ≡ true → text ≡ 9 ∷ drop 1 text
path-head [] is = absurd (true≢false (sym is))
path-head (b ∷ text) is = ap (λ c. c ∷ text) (eqb-true b 9 is)

pub same-number : (digits : List ℕ) (m n : ℕ) → IsDecimal digits m → IsDecimal digits n → m ≡ n
same-number digits m n one other = sym one.2 ∙ other.2
