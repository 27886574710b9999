-- The items of uses, and the tree over them.
use Rattle.std.proofs.Common.{◌≡◌, ℕ, zero, suc, ◌+◌, ◌<◌, inl, inr, Some, List, [], ◌∷◌, ◌++◌, map, length, take, drop, get_or, refl, sym, ap, ◌∙◌, subst, arith}
use Rattle.std.specs.Prelude.{slice_get, Contains}
use Rattle.std.specs.List.{AllByRecursion}
use Rattle.std.proofs.lemmas.List.{take_more, drop_more, take-append-drop, map-append}
use Rattle.std.proofs.lemmas.Option.{slice_get_within, get_or_from_slice_get}
use Rattle.mine_model.specs.declared.item.Item.{Item}
use Rattle.mine_model.specs.declared.fault.Fault.{Fault}
use Rattle.mine_model.specs.declared.fault.Fault.TheVariants.{Unknown}
use Rattle.mine_model.specs.Expression.{Leaf, under, exact, climb, forced, any, any_climb, not_under, not_exact, Tree, leaf, cat, alt, rep, cap, named_by, named_in, leaf_by, tree_by}
use Rattle.mine_model.specs.Grammar.{Use}
use Rattle.mine_model.specs.Names.{name_of, HasName}
use Rattle.mine_model.specs.First.{FirstAmong}
use Rattle.mine_model.specs.Refusal.{IsUnknown}
use Rattle.mine_model.proofs.ListLemmas.{front_of_both, back_of_both, of_both}
use Rattle.patex_parser.specs.declared.parsed.NameUse.{NameUse}
use Rattle.patex_parser.specs.Parsing.{use_view, use_at, AreWithin, named_tree}
use Rattle.patex_parser.specs.Resolving.{AreItemsOf, item_at}

items-push : (names : List (List ℕ)) (uses : List Use) (items : List Item) (u : Use) (item : Item) → AreItemsOf names uses items
    → HasName names item × (name_of names item ≡ u.name) → AreItemsOf names (uses ++ u ∷ []) (items ++ item ∷ [])
items-push names [] [] u item are is = (is, tt)
items-push names [] (i ∷ items) u item are is = absurd are
items-push names (v ∷ uses) [] u item are is = absurd are
items-push names (v ∷ uses) (i ∷ items) u item are is = (are.0, items-push names uses items u item are.1 is)

contains-held : (names : List (List ℕ)) (item : Item) (u : Use) → HasName names item × (name_of names item ≡ u.name) → Contains names u.name
contains-held names item u (less, same) = (item.0, less, at-any names item.0 u.name less same)
  where
    at-any : (names : List (List ℕ)) (k : ℕ) (text : List ℕ) → k < length names → get_or names k [] ≡ text → get_or names k text ≡ text
    at-any [] k text less e = absurd (omega arith)
    at-any (n ∷ names) zero text less e = e
    at-any (n ∷ names) (suc k) text less e = at-any names k text (omega arith) e

abbrev Unheld : List (List ℕ) → List Use → Use → Fault → Type 0
Unheld names before u fault = (Contains names u.name → ⊥) × (fault ≡ Unknown u.column)

unknown-behind : (names : List (List ℕ)) (before uses : List Use) (items : List Item) (u : Use) (rest : List Use) → AreItemsOf names uses items → (Contains names u.name → ⊥)
    → FirstAmong (Unheld names) before (uses ++ u ∷ rest) (Unknown u.column)
unknown-behind names before [] items u rest are never = inl (never, refl)
unknown-behind names before (v ∷ uses) [] u rest are never = absurd are
unknown-behind names before (v ∷ uses) (i ∷ items) u rest are never =
    inr (λ other has. has.0 (contains-held names i v are.0), unknown-behind names (before ++ v ∷ []) uses items u rest are.1 never)

none-unknown : (names : List (List ℕ)) (before uses : List Use) (items : List Item) → AreItemsOf names uses items → (fault : Fault) → FirstAmong (Unheld names) before uses fault → ⊥
none-unknown names before [] items are fault first = first
none-unknown names before (v ∷ uses) [] are fault first = absurd are
none-unknown names before (v ∷ uses) (i ∷ items) are fault (inl has) = has.0 (contains-held names i v are.0)
none-unknown names before (v ∷ uses) (i ∷ items) are fault (inr later) = none-unknown names (before ++ v ∷ []) uses items are.1 fault later.1

pub all-known : (names : List (List ℕ)) (uses : List Use) (items : List Item) → AreItemsOf names uses items → (fault : Fault) → IsUnknown names uses fault → ⊥
all-known names uses items are fault first = none-unknown names [] uses items are fault first

views-cut : (uses : List NameUse) (i : ℕ) (u : NameUse) → i < length uses → u ≡ get_or uses i u
    → map use_view uses ≡ map use_view (take i uses) ++ use_view u ∷ map use_view (drop (i + 1) uses)
views-cut uses i u less is =
    ap (map use_view) (sym (take-append-drop i uses) ∙ ap (λ xs. take i uses ++ xs) (drop_more uses i u less) ∙ ap (λ x. take i uses ++ x ∷ drop (i + 1) uses) (sym is))
    ∙ map-append use_view (take i uses) (u ∷ drop (i + 1) uses)

-- the name of this use is not held, and those before it are
pub unknown-here : (names : List (List ℕ)) (uses : List NameUse) (items : List Item) (i : ℕ) (u : NameUse) → i < length uses → u ≡ get_or uses i u
    → AreItemsOf names (map use_view (take i uses)) items → (Contains names u.name → ⊥) → IsUnknown names (map use_view uses) (Unknown u.column)
unknown-here names uses items i u less is are never =
    subst (λ xs. IsUnknown names xs (Unknown u.column)) (sym (views-cut uses i u less is))
    (unknown-behind names [] (map use_view (take i uses)) items (use_view u) (map use_view (drop (i + 1) uses)) are never)

pub items-on : (names : List (List ℕ)) (uses : List NameUse) (items : List Item) (i : ℕ) (u : NameUse) (item : Item) → i < length uses → u ≡ get_or uses i u
    → AreItemsOf names (map use_view (take i uses)) items → slice_get names item.0 ≡ Some u.name
    → AreItemsOf names (map use_view (take (i + 1) uses)) (items ++ item ∷ [])
items-on names uses items i u item less is are held =
    let one : take (i + 1) uses ≡ take i uses ++ u ∷ [] = take_more uses i u less ∙ ap (λ x. take i uses ++ x ∷ []) (sym is) in
    subst (λ xs. AreItemsOf names xs (items ++ item ∷ [])) (sym (ap (map use_view) one ∙ map-append use_view (take i uses) (u ∷ [])))
    (items-push names (map use_view (take i uses)) items (use_view u) item are (slice_get_within names item.0 u.name held, get_or_from_slice_get names item.0 u.name [] held))

-- an item among them has the name of its use
item-named : (names : List (List ℕ)) (uses : List Use) (items : List Item) → AreItemsOf names uses items → (k : ℕ) (d : Item) → k < length uses
    → HasName names (get_or items k d) × (name_of names (get_or items k d) ≡ (get_or uses k (record { column = 0; name = [] })).name)
item-named names [] items are k d less = absurd (omega arith)
item-named names (u ∷ uses) [] are k d less = absurd are
item-named names (u ∷ uses) (i ∷ items) are zero d less = are.0
item-named names (u ∷ uses) (i ∷ items) are (suc k) d less = item-named names uses items are.1 k d (omega arith)

-- two trees that agree in what they name
module _ {A B C D : Type 0} (P : A → Type 0) (f : B → D) (g : A → B) (h : C → D) (k : A → C) (same : (a : A) → P a → f (g a) ≡ h (k a)) where
  leaves-same : (l : Leaf A) → AllByRecursion P (named_by l) → leaf_by f (leaf_by g l) ≡ leaf_by h (leaf_by k l)
  leaves-same (under a) all = ap under (same a all.0)
  leaves-same (exact a) all = ap exact (same a all.0)
  leaves-same (climb a) all = ap climb (same a all.0)
  leaves-same (forced a) all = ap forced (same a all.0)
  leaves-same any all = refl
  leaves-same any_climb all = refl
  leaves-same (not_under a) all = ap not_under (same a all.0)
  leaves-same (not_exact a) all = ap not_exact (same a all.0)

  trees-same : (t : Tree A) → AllByRecursion P (named_in t) → tree_by f (tree_by g t) ≡ tree_by h (tree_by k t)
  trees-same (leaf l) all = ap leaf (leaves-same l all)
  trees-same (cat left right) all =
      ap (λ t. cat t (tree_by f (tree_by g right))) (trees-same left (front_of_both P (named_in left) (named_in right) all))
      ∙ ap (cat (tree_by h (tree_by k left))) (trees-same right (back_of_both P (named_in left) (named_in right) all))
  trees-same (alt left right) all =
      ap (λ t. alt t (tree_by f (tree_by g right))) (trees-same left (front_of_both P (named_in left) (named_in right) all))
      ∙ ap (alt (tree_by h (tree_by k left))) (trees-same right (back_of_both P (named_in left) (named_in right) all))
  trees-same (rep inner least most) all = ap (λ t. rep t least most) (trees-same inner all)
  trees-same (cap inner) all = ap cap (trees-same inner all)

pub resolved-names : (names : List (List ℕ)) (uses : List Use) (items : List Item) (tree made : Tree Item) → AreItemsOf names uses items → AreWithin (length uses) (named_in tree)
    → made ≡ tree_by (item_at items) tree → tree_by (name_of names) made ≡ named_tree uses tree
resolved-names names uses items tree made are within same =
    ap (tree_by (name_of names)) same
    ∙ trees-same (λ (item : Item). item.0 < length uses) (name_of names) (item_at items) (λ (u : Use). u.name) (use_at uses)
    (λ item less. (item-named names uses items are item.0 item less).1) tree within

-- what the tree over the items names is held
module _ {A B : Type 0} (P : A → Type 0) (Q : B → Type 0) (g : A → B) (held : (a : A) → P a → Q (g a)) where
  leaf-held : (l : Leaf A) → AllByRecursion P (named_by l) → AllByRecursion Q (named_by (leaf_by g l))
  leaf-held (under a) all = (held a all.0, tt)
  leaf-held (exact a) all = (held a all.0, tt)
  leaf-held (climb a) all = (held a all.0, tt)
  leaf-held (forced a) all = (held a all.0, tt)
  leaf-held any all = tt
  leaf-held any_climb all = tt
  leaf-held (not_under a) all = (held a all.0, tt)
  leaf-held (not_exact a) all = (held a all.0, tt)

  tree-held : (t : Tree A) → AllByRecursion P (named_in t) → AllByRecursion Q (named_in (tree_by g t))
  tree-held (leaf l) all = leaf-held l all
  tree-held (cat left right) all =
      of_both Q (named_in (tree_by g left)) (named_in (tree_by g right))
      (tree-held left (front_of_both P (named_in left) (named_in right) all)) (tree-held right (back_of_both P (named_in left) (named_in right) all))
  tree-held (alt left right) all =
      of_both Q (named_in (tree_by g left)) (named_in (tree_by g right))
      (tree-held left (front_of_both P (named_in left) (named_in right) all)) (tree-held right (back_of_both P (named_in left) (named_in right) all))
  tree-held (rep inner least most) all = tree-held inner all
  tree-held (cap inner) all = tree-held inner all

pub resolved-held : (names : List (List ℕ)) (uses : List Use) (items : List Item) (tree made : Tree Item) → AreItemsOf names uses items → AreWithin (length uses) (named_in tree)
    → made ≡ tree_by (item_at items) tree → AllByRecursion (HasName names) (named_in made)
resolved-held names uses items tree made are within same =
    subst (λ t. AllByRecursion (HasName names) (named_in t)) (sym same)
    (tree-held (λ (item : Item). item.0 < length uses) (HasName names) (item_at items) (λ item less. (item-named names uses items are item.0 item less).0) tree within)
