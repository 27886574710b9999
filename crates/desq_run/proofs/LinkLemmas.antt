-- Items by the numbers of names under the links of a hierarchy file.
use Rattle.std.proofs.Common.{◌≡◌, ◌⊎◌, inl, inr, ℕ, ◌+◌, ◌<◌, List, [], ◌∷◌, ◌++◌, length, All, Contains, refl, sym, ap, ◌∙◌, subst, arith, suc, zero, length-append}
use Rattle.std.specs.List.{slice_index_or}
use Rattle.std.proofs.lemmas.List.Elements.{All-contains}
use Rattle.mine_model.specs.declared.item.Item.{Item}
use Rattle.mine_model.specs.Hierarchy.{Link, PlacedLink, IsWalk, IsAncestor}
use Rattle.mine_model.specs.Text.{lines_of, fields_of}
use Rattle.mine_model.specs.Names.{name_of, HasName, AreDistinct}
use Rattle.mine_model.specs.Ancestry.{Ancestry}
use Rattle.mine_model.specs.Refusal.{names_of, links_of_line, links_from, placed_links_of, links_of}
use Rattle.mine_model.proofs.ListLemmas.{Contains-cases, Contains-first, Contains-other, Contains-none, Contains-from}
use Rattle.mine_model.proofs.AncestryLemmas.{Item-same}
use Rattle.mine_model.proofs.NumberingLemmas.{Renames}
use Rattle.mine_model.proofs.NameLemmas.{number-of}
use Rattle.made_input.proofs.MakingLemmas.{links-between}
use Rattle.command_line.specs.Words.{Source, read, embed, make, merge}
use Rattle.desq_run.specs.Said.{names_said, links_said}
use Rattle.desq_run.specs.Inputs.{IsHierarchySaid}

-- a walk with a step begins at the child of a link and ends at the parent of one
walk_ends : {A : Type 0} (links : List (Link A)) (t next : A) (steps : List A) (w : A) → IsWalk links t (next ∷ steps) w
    → ((p : A) × Contains links (record { child = t; parent = p })) × ((c : A) × Contains links (record { child = c; parent = w }))
walk_ends links t next [] w walk =
    ((next, walk.0), (t, subst (λ p. Contains links (record { child = t; parent = p })) walk.1 walk.0))
walk_ends links t next (further ∷ steps) w walk =
    ((next, walk.0), (walk_ends links next further steps w walk.1).1)

pub ancestor-cases : {A : Type 0} (links : List (Link A)) (w t : A) → IsAncestor links w t
    → (t ≡ w) ⊎ (((p : A) × Contains links (record { child = t; parent = p })) × ((c : A) × Contains links (record { child = c; parent = w })))
ancestor-cases links w t ([], same) = inl same
ancestor-cases links w t (next ∷ steps, walk) = inr (walk_ends links t next steps w walk)

pub Contains-both : {X : Type 0} (xs ys : List X) (y : X) → Contains (xs ++ ys) y → Contains xs y ⊎ Contains ys y
Contains-both [] ys y inside = inr inside
Contains-both (x ∷ xs) ys y inside = elim (Contains-cases x (xs ++ ys) y inside) [
  | inl same ↦ inl (subst (Contains (x ∷ xs)) (sym same) (Contains-first x xs))
  | inr other ↦ elim (Contains-both xs ys y other) [
    | inl front ↦ inl (Contains-other x xs y front)
    | inr back ↦ inr back
  ]
]

pub Contains-front : {X : Type 0} (xs ys : List X) (y : X) → Contains xs y → Contains (xs ++ ys) y
Contains-front [] ys y inside = absurd (Contains-none y inside)
Contains-front (x ∷ xs) ys y inside = elim (Contains-cases x xs y inside) [
  | inl same ↦ subst (Contains (x ∷ (xs ++ ys))) (sym same) (Contains-first x (xs ++ ys))
  | inr other ↦ Contains-other x (xs ++ ys) y (Contains-front xs ys y other)
]

pub Contains-back : {X : Type 0} (xs ys : List X) (y : X) → Contains ys y → Contains (xs ++ ys) y
Contains-back [] ys y inside = inside
Contains-back (x ∷ xs) ys y inside = Contains-other x (xs ++ ys) y (Contains-back xs ys y inside)

-- the links of a line are between its fields
line-among : (line : ℕ) (fields : List (List ℕ)) (placed : PlacedLink (List ℕ)) → Contains (links_of_line line fields) placed
    → Contains fields placed.link.child × Contains fields placed.link.parent
line-among line [] placed inside = absurd (Contains-none placed inside)
line-among line (child ∷ parents) placed inside =
    let (parent, held, same) = Contains-from (λ parent. let made : PlacedLink (List ℕ) = record { link = record { child = child; parent = parent }; line = line } in made) parents placed inside in (
      subst (λ (p : PlacedLink (List ℕ)). Contains (child ∷ parents) p.link.child) (sym same) (Contains-first child parents),
      subst (λ (p : PlacedLink (List ℕ)). Contains (child ∷ parents) p.link.parent) (sym same) (Contains-other child parents parent held),
    )

from-among : (line : ℕ) (lines : List (List ℕ)) (placed : PlacedLink (List ℕ)) → Contains (links_from line lines) placed
    → Contains (names_of lines) placed.link.child × Contains (names_of lines) placed.link.parent
from-among line [] placed inside = absurd (Contains-none placed inside)
from-among line (text ∷ lines) placed inside =
    elim (Contains-both (links_of_line line (fields_of text)) (links_from (line + 1) lines) placed inside) [
      | inl here ↦ let both = line-among line (fields_of text) placed here in
          (Contains-front (fields_of text) (names_of lines) placed.link.child both.0, Contains-front (fields_of text) (names_of lines) placed.link.parent both.1)
      | inr later ↦ let both = from-among (line + 1) lines placed later in
          (Contains-back (fields_of text) (names_of lines) placed.link.child both.0, Contains-back (fields_of text) (names_of lines) placed.link.parent both.1)
    ]

-- the links of a hierarchy file are between its names
file-links : (bytes : List ℕ) (link : Link (List ℕ)) → Contains (links_of bytes) link
    → Contains (names_of (lines_of bytes)) link.child × Contains (names_of (lines_of bytes)) link.parent
file-links bytes link inside =
    let (placed, held, same) = Contains-from (λ (p : PlacedLink (List ℕ)). p.link) (placed_links_of (lines_of bytes)) link inside in
    let both = from-among 1 (lines_of bytes) placed held in (
      subst (λ (l : Link (List ℕ)). Contains (names_of (lines_of bytes)) l.child) (sym same) both.0,
      subst (λ (l : Link (List ℕ)). Contains (names_of (lines_of bytes)) l.parent) (sym same) both.1,
    )

-- the links of a source are between its names
pub links-among : (source : Source) (bytes : List ℕ) (link : Link (List ℕ)) → Contains (links_said source bytes) link
    → Contains (names_said source bytes) link.child × Contains (names_said source bytes) link.parent
links-among (read expression file) bytes link inside = file-links bytes link inside
links-among (embed rule file) bytes link inside = file-links bytes link inside
links-among (make count expression) bytes link inside = links-between link inside
links-among (merge files) bytes link inside = absurd (Contains-none link inside)

-- names that come behind change no name of a number
pub name-front : (names added : List (List ℕ)) (w : Item) → HasName names w → name_of (names ++ added) w ≡ name_of names w
name-front names added w held = by names w.0 held
  where
    by : (names : List (List ℕ)) (n : ℕ) → n < length names → slice_index_or (names ++ added) n [] ≡ slice_index_or names n []
    by [] n less = absurd (omega arith)
    by (first ∷ names) zero less = refl
    by (first ∷ names) (suc n) less = by names n (omega (arith, less))

module _ (source : Source) (bytes : List ℕ) (known added : List (List ℕ)) (h : Ancestry) (distinct : AreDistinct (known ++ added))
    (found : IsHierarchySaid source bytes known h)
    (within : All (λ (link : Link Item). (link.child.0 < h.items) × (link.parent.0 < h.items)) h.links) where
  among_all : (w : Item) → HasName known w → HasName (known ++ added) w
  among_all w held = rw length-append (omega (arith, held))

  within_items : (link : Link Item) → Contains h.links link → (link.child.0 < h.items) × (link.parent.0 < h.items)
  within_items link held =
      All-contains (λ (l : Link Item). (l.child.0 < h.items) × (l.parent.0 < h.items)) h.links link within held

  -- a name of the source is that of a number among the known names alone
  known_number : (w : Item) → HasName (known ++ added) w → Contains (names_said source bytes) (name_of (known ++ added) w) → HasName known w
  known_number w held inside =
      let (v, among, same) = number-of known (name_of (known ++ added) w) ((found.held (name_of (known ++ added) w)).1 inside) in
      let alike : w.0 ≡ v.0 = distinct w.0 v.0 held (among_all v among) (same ∙ sym (name-front known added v among)) in
      subst (λ n. n < length known) (sym alike) among

  ancestor-forth : (w t : Item) → HasName (known ++ added) w → HasName (known ++ added) t → IsAncestor h.links w t
      → IsAncestor (links_said source bytes) (name_of (known ++ added) w) (name_of (known ++ added) t)
  ancestor-forth w t w_held t_held up = elim (ancestor-cases h.links w t up) [
    | inl same ↦ ([], ap (name_of (known ++ added)) same)
    | inr ends ↦
        let t_known : HasName known t = subst (λ n. t.0 < n) found.items (within_items (record { child = t; parent = ends.0.0 }) ends.0.1).0 in
        let w_known : HasName known w = subst (λ n. w.0 < n) found.items (within_items (record { child = ends.1.0; parent = w }) ends.1.1).1 in
        rw (name-front known added w w_known, name-front known added t t_known) ((found.above w t w_known t_known).0 up)
  ]

  ancestor-back : (w t : Item) → HasName (known ++ added) w → HasName (known ++ added) t
      → IsAncestor (links_said source bytes) (name_of (known ++ added) w) (name_of (known ++ added) t) → IsAncestor h.links w t
  ancestor-back w t w_held t_held up = elim (ancestor-cases (links_said source bytes) (name_of (known ++ added) w) (name_of (known ++ added) t) up) [
    | inl same ↦ ([], Item-same t w (distinct t.0 w.0 t_held w_held same))
    | inr ends ↦
        let t_known : HasName known t = known_number t t_held (links-among source bytes (record { child = name_of (known ++ added) t; parent = ends.0.0 }) ends.0.1).0 in
        let w_known : HasName known w = known_number w w_held (links-among source bytes (record { child = ends.1.0; parent = name_of (known ++ added) w }) ends.1.1).1 in
        let up' : IsAncestor (links_said source bytes) (name_of known w) (name_of known t) =
        subst (λ n. IsAncestor (links_said source bytes) n (name_of known t)) (name-front known added w w_known)
        (subst (λ n. IsAncestor (links_said source bytes) (name_of (known ++ added) w) n) (name-front known added t t_known) up) in
        (found.above w t w_known t_known).1 up'
  ]

  -- the numbers of the names rename what the source says
  pub names-rename : Renames h.links (links_said source bytes) (HasName (known ++ added)) (name_of (known ++ added))
  names-rename = record {
    one_to_one = λ x y x_held y_held same. Item-same x y (distinct x.0 y.0 x_held y_held same);
    forth = ancestor-forth;
    back = ancestor-back;
    up = λ v t up held. elim (ancestor-cases h.links v t up) [
      | inl same ↦ subst (HasName (known ++ added)) same held
      | inr ends ↦ among_all v (subst (λ n. v.0 < n) found.items (within_items (record { child = ends.1.0; parent = v }) ends.1.1).1)
    ];
    upward = λ v t held up. elim (ancestor-cases (links_said source bytes) v (name_of (known ++ added) t) up) [
      | inl same ↦ (t, held, sym same)
      | inr ends ↦
          let inside : Contains known v = (found.held v).1 (links-among source bytes (record { child = ends.1.0; parent = v }) ends.1.1).1 in
          let (w, among, same) = number-of known v inside in
          (w, among_all w among, same ∙ sym (name-front known added w among))
    ];
  }
