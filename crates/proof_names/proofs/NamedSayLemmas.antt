-- What lines say by the numbers of names, and by names.
use Rattle.std.proofs.Common.{◌≡◌, ℕ, ◌↔◌, inl, inr, List, [], ◌∷◌, ◌++◌, map, refl, sym, ap, ◌∙◌, subst, Contains}
use Rattle.std.specs.List.{AllByRecursion, join_with_byte}
use Rattle.std.proofs.lemmas.List.{map-append}
use Rattle.mine_model.specs.declared.item.Item.{Item}
use Rattle.mine_model.specs.declared.row.Row.{Row}
use Rattle.mine_model.specs.Answer.{NamedRow}
use Rattle.mine_model.specs.Names.{name_of, HasName, named_row}
use Rattle.mine_model.proofs.ListLemmas.{front_of_both, back_of_both, of_both}
use Rattle.mine_model.proofs.NumberingLemmas.{map-none}
use Rattle.mine_model.proofs.NameLemmas.{number-of}
use Rattle.pattern_proof.specs.ProofLines.{Entry, SaysRow, GoesOn, SayMore}
use Rattle.proof_names.specs.NamedProofs.{ProofRow, SaysNamedRow, AddsLine, AddLines}
use Rattle.proof_names.proofs.NamingLemmas.{name-held}

-- the row with the names of its items, and its paths
abbrev pub named_entry : List (List ℕ) → Entry → ProofRow
named_entry names entry = record { row = named_row names entry.row; paths = entry.paths }

abbrev pub IsKnown : List (List ℕ) → Entry → Type 0
IsKnown names entry = AllByRecursion (HasName names) entry.row.pattern

-- a mapped list with a last element is mapped from one with a last element
pub map-snoc : {X Y : Type 0} (f : X → Y) (xs : List X) (front : List Y) (last : Y) → map f xs ≡ front ++ last ∷ []
    → (ys : List X) × (y : X) × (xs ≡ ys ++ y ∷ []) × (map f ys ≡ front) × (f y ≡ last)
map-snoc f [] [] last same = absurd (cc)
map-snoc f [] (b ∷ front) last same = absurd (cc)
map-snoc f (x ∷ []) [] last same = ([], x, refl, refl, (cc))
map-snoc f (x ∷ z ∷ xs) [] last same = absurd (cc)
map-snoc f (x ∷ xs) (b ∷ front) last same =
    let tails : map f xs ≡ front ++ last ∷ [] = cc in
    let heads : f x ≡ b = cc in
    let (ys, y, cut, fronts, end) = map-snoc f xs front last tails in
    (x ∷ ys, y, ap (λ l. x ∷ l) cut, (λ i. heads i ∷ fronts i), end)

module _ (names known : List (List ℕ)) (held : (name : List ℕ) → (Contains known name ↔ Contains names name)) where
  pub names-forth : (items : List Item) → AllByRecursion (HasName names) items → AllByRecursion (Contains known) (map (name_of names) items)
  names-forth [] all = tt
  names-forth (item ∷ items) all = ((held (name_of names item)).1 (name-held names item all.0), names-forth items all.1)

  pub names-back : (texts : List (List ℕ)) → AllByRecursion (Contains known) texts
      → (items : List Item) × (map (name_of names) items ≡ texts) × AllByRecursion (HasName names) items
  names-back [] all = ([], refl, tt)
  names-back (text ∷ texts) all =
      let (item, has, same) = number-of names text ((held text).0 all.0) in
      let (items, rest, have) = names-back texts all.1 in
      (item ∷ items, (λ i. sym same i ∷ rest i), (has, have))

  pub row-forth : (text : List ℕ) (row : Row) → SaysRow names text row → SaysNamedRow known text (named_row names row)
  row-forth text row (digits, is, number, some, have) =
      (digits, is, number, (λ none. some (map-none (name_of names) row.pattern none)), names-forth row.pattern have)

  pub row-back : (text : List ℕ) (row : NamedRow) → SaysNamedRow known text row → (own : Row) × (named_row names own ≡ row) × SaysRow names text own
  row-back text row (digits, is, number, some, have) =
      let (items, same, inside) = names-back row.pattern have in (
        record { pattern = items; support = row.support },
        (λ i. record { pattern = same i; support = row.support }),
        (
          digits,
          is ∙ ap (λ l. digits ++ 9 ∷ join_with_byte 32 l) (sym same),
          number,
          (λ none. some (sym same ∙ ap (map (name_of names)) none)),
          inside,
        ),
      )

  pub adds-forth : (before : List Entry) (text : List ℕ) (after : List Entry) → GoesOn names before text after
      → AddsLine known (map (named_entry names) before) text (map (named_entry names) after)
  adds-forth before text after (inl (row, says, is)) =
      inl (named_row names row, row-forth text row says, ap (map (named_entry names)) is ∙ map-append (named_entry names) before _)
  adds-forth before text after (inr (earlier, last, path, cut, says, is)) =
      inr (
        map (named_entry names) earlier,
        named_entry names last,
        path,
        ap (map (named_entry names)) cut ∙ map-append (named_entry names) earlier (last ∷ []),
        says,
        ap (map (named_entry names)) is ∙ map-append (named_entry names) earlier _,
      )

  pub adds-back : (before : List Entry) (text : List ℕ) (after : List ProofRow) → AddsLine known (map (named_entry names) before) text after
      → (own : List Entry) × (map (named_entry names) own ≡ after) × GoesOn names before text own
  adds-back before text after (inl (row, says, is)) =
      let (own, same, also) = row-back text row says in (
        before ++ (record { row = own; paths = [] }) ∷ [],
        map-append (named_entry names) before _
            ∙ (λ i. map (named_entry names) before ++ (let made : ProofRow = record { row = same i; paths = [] } in made) ∷ []) ∙ sym is,
        inl (own, also, refl),
      )
  adds-back before text after (inr (earlier, last, path, cut, says, is)) =
      let (front, end, own_cut, fronts, ends) = map-snoc (named_entry names) before earlier last cut in (
        front ++ (record end { paths = end.paths ++ path ∷ [] }) ∷ [],
        map-append (named_entry names) front _
            ∙ (λ i. fronts i ++ (let made : ProofRow = record { row = (ends i).row; paths = (ends i).paths ++ path ∷ [] } in made) ∷ []) ∙ sym is,
        inr (front, end, path, own_cut, says, refl),
      )

  pub say-forth : (before : List Entry) (lines : List (List ℕ)) (after : List Entry) → SayMore names before lines after
      → AddLines known (map (named_entry names) before) lines (map (named_entry names) after)
  say-forth before [] after say = ap (map (named_entry names)) say
  say-forth before (text ∷ lines) after (between, goes, say) =
      (map (named_entry names) between, adds-forth before text between goes, say-forth between lines after say)

  pub say-back : (before : List Entry) (lines : List (List ℕ)) (after : List ProofRow) → AddLines known (map (named_entry names) before) lines after
      → (own : List Entry) × (map (named_entry names) own ≡ after) × SayMore names before lines own
  say-back before [] after say = (before, sym say, refl)
  say-back before (text ∷ lines) after (between, adds, say) =
      let (own, same, goes) = adds-back before text between adds in
      let (end, is, rest) = say-back own lines after (subst (λ b. AddLines known b lines after) (sym same) say) in
      (end, is, (own, goes, rest))

  -- the patterns that lines say have names
  goes-known : (before : List Entry) (text : List ℕ) (after : List Entry) → GoesOn names before text after
      → AllByRecursion (IsKnown names) before → AllByRecursion (IsKnown names) after
  goes-known before text after (inl (row, says, is)) all =
      subst (AllByRecursion (IsKnown names)) (sym is) (of_both (IsKnown names) before _ all (says.4, tt))
  goes-known before text after (inr (earlier, last, path, cut, says, is)) all =
      let both = subst (AllByRecursion (IsKnown names)) cut all in
      let end : AllByRecursion (IsKnown names) (last ∷ []) = back_of_both (IsKnown names) earlier (last ∷ []) both in
      subst (AllByRecursion (IsKnown names)) (sym is) (of_both (IsKnown names) earlier _ (front_of_both (IsKnown names) earlier (last ∷ []) both) (end.0, tt))

  pub say-known : (before : List Entry) (lines : List (List ℕ)) (after : List Entry) → SayMore names before lines after
      → AllByRecursion (IsKnown names) before → AllByRecursion (IsKnown names) after
  say-known before [] after say all = subst (AllByRecursion (IsKnown names)) (sym say) all
  say-known before (text ∷ lines) after (between, goes, say) all = say-known between lines after say (goes-known before text between goes all)
