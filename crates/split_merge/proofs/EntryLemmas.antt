-- Rows as entries of a map from patterns to supports.
use Rattle.std.proofs.Common.{◌≡◌, ℕ, inl, inr, Bool, true, false, cond, is_some, Option, Some, None, List, [], ◌∷◌, ◌++◌, map, refl, sym, ap, ◌∙◌, subst, true≢false}
use Rattle.std.specs.Bool.{Decides}
use Rattle.std.specs.Map.{lookup}
use Rattle.std.specs.Cmp.Lexicographic.{pointwise}
use Rattle.std.specs.declared.alloc.Global.{Global}
use Rattle.std.specs.declared.vec.Vec.{Vec}
use Rattle.std.proofs.lemmas.List.{map-append}
use Rattle.std.proofs.lemmas.Slice.Eq.{slice_eq-Decides}
use Rattle.indexmap.specs.IndexMap.{insert_entry}
use Rattle.indexmap.proofs.MapLemmas.{absent_from_lookup, insert_entry-absent}
use Rattle.mine_model.specs.declared.item.Item.{Item}
use Rattle.mine_model.specs.declared.row.Row.{Row}
use Rattle.mine_model.proofs.ApartLemmas.{item_eq, item_eq-Decides}
use Rattle.mine_model.proofs.ListLemmas.{Contains-cases, Contains-first, Contains-other, Contains-none}
use Rattle.split_merge.specs.Rows.{HasPattern}
use Rattle.split_merge.specs.Entries.{row_of}

abbrev Entry : Type 0
Entry = Vec Item Global × ℕ

-- the key has the pattern
abbrev pub is_key : List Item → Vec Item Global → Bool
is_key pattern key = pointwise item_eq pattern key.items

abbrev patterns : List Entry → List (List Item)
patterns entries = map (λ (row : Row). row.pattern) (map row_of entries)

-- a look-up finds exactly the patterns of the rows
pub found-decides : (pattern : List Item) (entries : List Entry) → Decides (is_some (lookup (is_key pattern) entries)) (HasPattern (map row_of entries) pattern)
found-decides pattern [] = ((λ wrong. absurd (true≢false (sym wrong))), (λ held. absurd (Contains-none pattern held)))
found-decides pattern (entry ∷ entries) = by (is_key pattern entry.0) (slice_eq-Decides item_eq-Decides pattern entry.0.items (is_key pattern entry.0) refl) (found-decides pattern entries)
  where
    by : (test : Bool) → Decides test (pattern ≡ entry.0.items) → Decides (is_some (lookup (is_key pattern) entries)) (HasPattern (map row_of entries) pattern)
        → Decides (is_some (cond test (Some entry.1) (lookup (is_key pattern) entries))) (HasPattern (map row_of (entry ∷ entries)) pattern)
    by true here rest = ((λ _. subst (HasPattern (map row_of (entry ∷ entries))) (sym (here.0 refl)) (Contains-first entry.0.items (patterns entries))), (λ _. refl))
    by false here rest = (
      (λ found. Contains-other entry.0.items (patterns entries) pattern (rest.0 found)),
      (λ held. elim (Contains-cases entry.0.items (patterns entries) pattern held) [
        | inl same ↦ absurd (true≢false (sym (here.1 same)))
        | inr later ↦ rest.1 later
      ]),
    )

none-found : (pattern : List Item) (entries : List Entry) → (HasPattern (map row_of entries) pattern → ⊥) → lookup (is_key pattern) entries ≡ None
none-found pattern entries new = by (lookup (is_key pattern) entries) (found-decides pattern entries)
  where
    by : (found : Option ℕ) → Decides (is_some found) (HasPattern (map row_of entries) pattern) → found ≡ None
    by None is = refl
    by (Some support) is = absurd (new (is.0 refl))

-- an entry with a new key goes last
pub entry-pushed : (entries after : List Entry) (key : Vec Item Global) (support : ℕ) → (HasPattern (map row_of entries) key.items → ⊥)
    → after ≡ insert_entry (λ (k : Vec Item Global) (other : Vec Item Global). is_key k.items other) entries key support
    → map row_of after ≡ map row_of entries ++ (record { pattern = key.items; support = support }) ∷ []
entry-pushed entries after key support new are =
    let alike : Vec Item Global → Vec Item Global → Bool = λ k other. is_key k.items other in
    ap (map row_of) (are ∙ insert_entry-absent alike key support entries (absent_from_lookup (is_key key.items) entries (none-found key.items entries new)))
    ∙ map-append row_of entries ((key, support) ∷ [])
