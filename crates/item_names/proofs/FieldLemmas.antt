-- Lemmas on the texts of fields.
use Rattle.std.proofs.Common.{◌≡◌, ℕ, ◌+◌, ◌<◌, Some, List, [], ◌∷◌, ◌++◌, map, length, take, drop, get_or, slice_get, refl, sym, ap, ◌∙◌, subst}
use Rattle.std.specs.List.{AllByRecursion, slice_range, Contains}
use Rattle.std.proofs.lemmas.List.{map-append, take_more, take-append-drop}
use Rattle.std.proofs.lemmas.Option.{slice_get_within, get_or_from_slice_get}
use Rattle.std.proofs.lemmas.List.Elements.{Contains-append_left, Contains-get_or}
use Rattle.mine_model.specs.declared.item.Item.{Item}
use Rattle.mine_model.specs.Text.{Field, fields_of}
use Rattle.mine_model.specs.Names.{name_of, HasName, GrowBy}
use Rattle.mine_model.proofs.ListLemmas.{of_both, Contains-by}
use Rattle.mine_model.proofs.NameLemmas.{name_of-grown, HasName-grown}
use Rattle.text_ports.specs.declared.lines.Span.{Span}
use Rattle.text_ports.specs.Lines.{field_at, AreFields}
use Rattle.item_names.specs.Fields.{texts_at, AreItemsOf}

texts_of_fields : (line : List ℕ) (spans : List Span) → map (λ (field : Field). field.text) (map (field_at line) spans) ≡ texts_at line spans
texts_of_fields line [] = refl
texts_of_fields line (span ∷ spans) = ap (λ w. slice_range line span.from span.to ∷ w) (texts_of_fields line spans)

-- the fields of a line are the texts of their spans
pub fields_are_texts : (line : List ℕ) (spans : List Span) → AreFields line spans → fields_of line ≡ texts_at line spans
fields_are_texts line spans are = ap (map (λ (field : Field). field.text)) (sym are.fields) ∙ texts_of_fields line spans

-- the texts up to a span, and up to the next
pub texts_at-more : (line : List ℕ) (spans : List Span) (i : ℕ) (d : Span) → i < length spans
    → texts_at line (take (i + 1) spans) ≡ texts_at line (take i spans) ++ slice_range line (get_or spans i d).from (get_or spans i d).to ∷ []
texts_at-more line spans i d within =
    ap (texts_at line) (take_more spans i d within) ∙ map-append (λ (span : Span). slice_range line span.from span.to) (take i spans) (get_or spans i d ∷ [])

-- items keep their names while names grow
pub map-name_of-grown : (old names new : List (List ℕ)) (items : List Item) → GrowBy old names new → AllByRecursion (HasName old) items → map (name_of new) items ≡ map (name_of old) items
map-name_of-grown old names new [] grown named = refl
map-name_of-grown old names new (item ∷ items) grown named =
    let first = name_of-grown old names new item grown named.0 in
    let others = map-name_of-grown old names new items grown named.1 in
    cc (first, others)

pub AllNamed-grown : (old names new : List (List ℕ)) (items : List Item) → GrowBy old names new → AllByRecursion (HasName old) items → AllByRecursion (HasName new) items
AllNamed-grown old names new [] grown named = tt
AllNamed-grown old names new (item ∷ items) grown named = (HasName-grown old names new item grown named.0, AllNamed-grown old names new items grown named.1)

-- one item more
pub AreItemsOf-more : (old new : List (List ℕ)) (items : List Item) (texts : List (List ℕ)) (item : Item) (name : List ℕ) → AreItemsOf old items texts
    → GrowBy old (name ∷ []) new → slice_get new item.0 ≡ Some name → AreItemsOf new (items ++ item ∷ []) (texts ++ name ∷ [])
AreItemsOf-more old new items texts item name are grown is =
    let has = slice_get_within new item.0 name is in
    let found = get_or_from_slice_get new item.0 name [] is in
    record {
      named = of_both (HasName new) items (item ∷ []) (AllNamed-grown old (name ∷ []) new items grown are.named) (has, tt);
      said = map-append (name_of new) items (item ∷ []) ∙ (λ j. (map-name_of-grown old (name ∷ []) new items grown are.named ∙ are.said) j ++ found j ∷ []);
    }

-- the texts of the first spans are among those of all
pub texts_at-front : (line : List ℕ) (spans : List Span) (i : ℕ) (text : List ℕ) → Contains (texts_at line (take i spans)) text → Contains (texts_at line spans) text
texts_at-front line spans i text inside =
    subst (λ w. Contains (texts_at line w) text) (take-append-drop i spans)
    (subst (λ w. Contains w text) (sym (map-append (λ (span : Span). slice_range line span.from span.to) (take i spans) (drop i spans)))
    (Contains-append_left (texts_at line (take i spans)) (texts_at line (drop i spans)) text inside))

-- the text of a span is among the texts
pub texts_at-at : (line : List ℕ) (spans : List Span) (i : ℕ) (d : Span) → i < length spans → Contains (texts_at line spans) (slice_range line (get_or spans i d).from (get_or spans i d).to)
texts_at-at line spans i d within = Contains-by (λ (span : Span). slice_range line span.from span.to) spans (get_or spans i d) (Contains-get_or spans i d within)
