-- Names and links one by one, and what is said of the whole.
use Rattle.std.proofs.Common.{◌≡◌, ◌↔◌, inl, inr, ℕ, suc, ◌+◌, ◌-◌, ◌≤◌, ◌<◌, List, [], ◌∷◌, ◌++◌, map, length, sym, ap, ◌∙◌, subst, arith, All, Contains, Result, Ok, Err, OnOk, is_err, false, true≢false}
use Rattle.std.specs.List.{AllByRecursion, flat_map, range_with_len, slice_index_or}
use Rattle.std.proofs.lemmas.List.{append_assoc, append-nil}
use Rattle.std.proofs.lemmas.List.FromFn.{length-map-range_with_len, get_or-map-range_with_len, map-range_with_len_more}
use Rattle.std.proofs.lemmas.List.Elements.{All-contains, All-from_recursion, Contains-get_or, Contains-append_cases}
use Rattle.mine_model.specs.declared.item.Item.{Item}
use Rattle.mine_model.specs.Hierarchy.{Link, IsAncestor}
use Rattle.mine_model.specs.Support.{Sequence}
use Rattle.mine_model.specs.Ancestry.{item_at}
use Rattle.mine_model.specs.Names.{name_of, HasName, link_by, sequence_by}
use Rattle.mine_model.specs.Refusal.{items_of}
use Rattle.mine_model.proofs.ListLemmas.{Contains-from, Contains-none}
use Rattle.mine_model.proofs.AncestryLemmas.{Item-same}
use Rattle.mine_model.proofs.RenamingLemmas.{renames}
use Rattle.mine_model.proofs.NumberingLemmas.{Renames}
use Rattle.item_names.specs.Names.{IsInterned}
use Rattle.item_hierarchy.specs.declared.edges.EdgeRow.{EdgeRow}
use Rattle.item_hierarchy.specs.Edges.{links_of}
use Rattle.made_input.specs.Draws.{sequences_drawn}
use Rattle.made_input.specs.Made.{made_name, made_names, made_items, link, links_of_word, word_links, class_links, made_links, item_links, named_links, item_sequences, named_sequences}
use Rattle.made_input.proofs.DrawLemmas.{drawn-sound, sequences-all}
use Rattle.made_input.proofs.LinkLemmas.{IsUp, all_up, all_within}
use Rattle.made_input.proofs.NameLemmas.{names_differ, how_many_names, distinct, named, named_too}

-- one more name
pub name-next : (k : ℕ) (old new : List (List ℕ)) (name : List ℕ) → k < 111 → old ≡ map made_name (range_with_len 0 k) → name ≡ made_name k
    → IsInterned old name new → new ≡ map made_name (range_with_len 0 (k + 1))
name-next k old new name less so_far is (inl (held, same)) =
    let (i, below, at) = subst (λ l. Contains l name) so_far held in
    let many : length (map made_name (range_with_len 0 k)) ≡ k = length-map-range_with_len made_name 0 k in
    let early : i < k = omega (arith, below, many) in
    let own = get_or-map-range_with_len made_name 0 k i i name early (omega arith) in
    let equal : i ≡ k = names_differ i k (omega (arith, early, less)) less (sym own ∙ at ∙ is) in
    absurd (omega (arith, early, equal))
name-next k old new name less so_far is (inr (fresh, same)) =
    same ∙ ap (λ l. l ++ name ∷ []) so_far ∙ ap (λ n. map made_name (range_with_len 0 k) ++ n ∷ []) is
    ∙ sym (map-range_with_len_more made_name 0 k k (omega arith))

-- one more word has its links
pub word-next : (k : ℕ) (links : List (Link Item)) → k < 100
    → (links ++ links_of_word item_at k) ++ flat_map (links_of_word item_at) (range_with_len (k + 1) (100 - (k + 1)))
    ≡ links ++ flat_map (links_of_word item_at) (range_with_len k (100 - k))
word-next k links less =
    let left : suc (100 - (k + 1)) ≡ 100 - k = omega (arith, less) in
    append_assoc links (links_of_word item_at k) (flat_map (links_of_word item_at) (range_with_len (k + 1) (100 - (k + 1))))
    ∙ ap (λ n. links ++ flat_map (links_of_word item_at) (range_with_len k n)) left

pub words-done : (k : ℕ) (links : List (Link Item)) → 100 ≤ k → links ++ flat_map (links_of_word item_at) (range_with_len k (100 - k)) ≡ links
words-done k links done =
    let left : 100 - k ≡ 0 = omega (arith, done) in
    ap (λ n. links ++ flat_map (links_of_word item_at) (range_with_len k n)) left ∙ append-nil links

-- one more class has its link
pub class-next : (k : ℕ) (links : List (Link Item)) → k < 10
    → (links ++ link item_at (100 + k) 110 ∷ []) ++ map (λ j. link item_at (100 + j) 110) (range_with_len (k + 1) (10 - (k + 1)))
    ≡ links ++ map (λ j. link item_at (100 + j) 110) (range_with_len k (10 - k))
class-next k links less =
    let left : suc (10 - (k + 1)) ≡ 10 - k = omega (arith, less) in
    append_assoc links (link item_at (100 + k) 110 ∷ []) (map (λ j. link item_at (100 + j) 110) (range_with_len (k + 1) (10 - (k + 1))))
    ∙ ap (λ n. links ++ map (λ j. link item_at (100 + j) 110) (range_with_len k n)) left

pub classes-done : (k : ℕ) (links : List (Link Item)) → 10 ≤ k → links ++ map (λ j. link item_at (100 + j) 110) (range_with_len k (10 - k)) ≡ links
classes-done k links done =
    let left : 10 - k ≡ 0 = omega (arith, done) in
    ap (λ n. links ++ map (λ j. link item_at (100 + j) 110) (range_with_len k n)) left ∙ append-nil links

pub all-links : (none words all : List (Link Item)) → none ≡ [] → words ≡ none ++ word_links item_at → all ≡ words ++ class_links item_at → all ≡ item_links
unfolding made_links
all-links none words all empty first second =
    second ∙ ap (λ l. l ++ class_links item_at) first ∙ ap (λ l. (l ++ word_links item_at) ++ class_links item_at) empty

-- the items of the rows are made ones
rows-within : (rows : List EdgeRow) → AllByRecursion IsUp (links_of rows)
    → AllByRecursion (λ (row : EdgeRow). (row.child.0 < made_items) × (row.parent.0 < made_items)) rows
rows-within [] p = tt
rows-within (row ∷ rows) p =
    let less : row.child.0 < row.parent.0 = p.0.0 in
    let most : row.parent.0 < 111 = p.0.1 in
    ((omega (arith, less, most), most), rows-within rows p.1)

pub made-within : (rows : List EdgeRow) → links_of rows ≡ item_links → All (λ (row : EdgeRow). (row.child.0 < made_items) × (row.parent.0 < made_items)) rows
made-within rows same = All-from_recursion _ rows (rows-within rows (subst (AllByRecursion IsUp) (sym same) all_up))

has_name : (t : Item) → t.0 < 111 → HasName made_names t
has_name t less = subst (λ n. t.0 < n) (sym how_many_names) less

-- the hierarchy over items and over names
renamed : Renames item_links named_links (HasName made_names) (name_of made_names)
renamed = subst (λ others. Renames item_links others (HasName made_names) (name_of made_names)) named
    (renames (name_of made_names) item_links (HasName made_names)
    (λ x y p q same. Item-same x y (distinct x.0 y.0 p q same))
    (λ k d less. let both = all_within k d less in (has_name _ both.0, has_name _ both.1)))

pub above-named : (w t : Item) → HasName made_names w → HasName made_names t
    → IsAncestor item_links w t ↔ IsAncestor named_links (name_of made_names w) (name_of made_names t)
above-named w t p q = ((λ up. renamed.forth w t p q up), (λ up. renamed.back w t p q up))

-- each link is between two of the names
pub links-between : (l : Link (List ℕ)) → Contains named_links l → Contains made_names l.child × Contains made_names l.parent
links-between l held =
    let (own, inside, same) = Contains-from (link_by (name_of made_names)) item_links l (subst (λ links. Contains links l) (sym named) held) in
    let both = All-contains (λ (x : Link Item). (x.child.0 < made_items) × (x.parent.0 < made_items)) item_links own all_within inside in (
      subst (λ (x : Link (List ℕ)). Contains made_names x.child) (sym same) (Contains-get_or made_names own.child.0 [] (has_name own.child both.0)),
      subst (λ (x : Link (List ℕ)). Contains made_names x.parent) (sym same) (Contains-get_or made_names own.parent.0 [] (has_name own.parent both.1)),
    )

items_named : (ks : List ℕ) → AllByRecursion (λ k. k < 100) ks → AllByRecursion (HasName made_names) (map item_at ks)
items_named [] p = tt
items_named (k ∷ ks) p = (has_name (item_at k) (let less : k < 100 = p.0 in omega (arith, less)), items_named ks p.1)

-- each item of the sequences has a name
pub sequences-named : (count : ℕ) → AllByRecursion (λ (s : Sequence Item). AllByRecursion (HasName made_names) s.items) (item_sequences count)
sequences-named count = sequences-all (λ (s : Sequence Item). AllByRecursion (HasName made_names) s.items)
    (λ ks sound. items_named ks sound.1) (sequences_drawn count count) (drawn-sound count count)

names_among : (items : List Item) → AllByRecursion (HasName made_names) items → (name : List ℕ) → Contains (map (name_of made_names) items) name → Contains made_names name
names_among [] all name held = absurd (Contains-none name held)
names_among (t ∷ items) all name held = elim (Contains-append_cases (name_of made_names t ∷ []) (map (name_of made_names) items) name held) [
  | inl first ↦ one first
  | inr other ↦ names_among items all.1 name other
]
  where
    one : Contains (name_of made_names t ∷ []) name → Contains made_names name
    one (k, below, is) =
        let only : k ≡ 0 = omega (arith, below) in
        subst (Contains made_names) (sym (ap (λ n. slice_index_or (name_of made_names t ∷ []) n name) only) ∙ is) (Contains-get_or made_names t.0 [] all.0)

among_sequences : (db : List (Sequence Item)) → AllByRecursion (λ (s : Sequence Item). AllByRecursion (HasName made_names) s.items) db
    → (name : List ℕ) → Contains (items_of (map (sequence_by (name_of made_names)) db)) name → Contains made_names name
among_sequences [] all name held = absurd (Contains-none name held)
among_sequences (s ∷ db) all name held =
    elim (Contains-append_cases (map (name_of made_names) s.items) (items_of (map (sequence_by (name_of made_names)) db)) name held) [
      | inl first ↦ names_among s.items all.0 name first
      | inr other ↦ among_sequences db all.1 name other
    ]

-- the sequences have no other names
pub names-known : (count : ℕ) (name : List ℕ) → Contains (items_of (named_sequences count)) name → Contains made_names name
names-known count name held = among_sequences (item_sequences count) (sequences-named count) name
    (subst (λ sequences. Contains (items_of sequences) name) (sym (named_too count)) held)

-- what holds of a result that is no error
pub on-ok : {T E : Type 0} (r : Result T E) (P : Type 0) → is_err r ≡ false → OnOk r P → P
on-ok (Ok value) P fine p = p
on-ok (Err error) P fine p = absurd (true≢false fine)
